use Rattle.std.proofs.Common.{ap, ◌∙◌}
use Rattle.std.proofs.lemmas.Option.{IfSome_then}
use Rattle.model.specs.Content.{Problem}
use Rattle.numbering.proofs.matched.Matched.asked.Goals as goal

pub returns : goal.returns
returns c = IfSome_then c.asked.result c.asked.ensures
    (λ a e. e ∙ ap (λ (q : Problem). q.root_asks) c.args.self.now.same_problem)
