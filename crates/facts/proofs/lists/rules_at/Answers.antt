use Rattle.std.proofs.Common.{ap, ◌∙◌}
use Rattle.facts.proofs.ListLemmas.{rules_at-get}
use Rattle.facts.proofs.lists.rules_at.Goals as goal

pub returns : goal.returns
returns c = c.as_slice.ensures.value ∙ ap (λ v. v.items) c.index-lists-fact.is
    ∙ rules_at-get c.args.lists.now c.args.fact c.index-lists-fact.result c.requires.below
