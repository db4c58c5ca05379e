use Rattle.std.proofs.Common.{◌≤◌, ◌∙◌, ap, sym, subst, length}
use Rattle.version_sets.specs.inner.Listed.{is_listed}
use Rattle.version_sets.proofs.Listing.{length-set_where}
use Rattle.version_sets.proofs.list.ListStatesStates.universe.Goals as goal

pub returns-clause-universe : goal.returns-clause-universe
returns-clause-universe c =
    sym (length-set_where c.self.inside.universe (is_listed c.self.inside.members.items)) ∙ ap length c.self.view_is

pub returns-clause-small : goal.returns-clause-small
returns-clause-small c =
    subst (λ n. n ≤ 65536) (sym (length-set_where c.self.inside.universe (is_listed c.self.inside.members.items))
    ∙ ap length c.self.view_is) c.self.invariant.small
