use Rattle.std.proofs.Common.{not, rules, ◌∙◌}
use Rattle.std.proofs.lemmas.Fn.{filter_same}
use Rattle.version_sets.specs.Sets.{is_full}
use Rattle.incompatibilities.proofs.incompatibility.drop_full.Goals as goal

pub returns : goal.returns
returns g c = c.shrink_to_fit.ensures.items ∙ filter_same _ (λ t. not (is_full (g.S.States.tests t.states))) _
    (λ x b f' k. search rules) c.args.terms.now.items c.retain.new.self.items c.retain.ensures.filtered
