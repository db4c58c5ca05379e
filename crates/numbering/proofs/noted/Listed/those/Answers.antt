use Rattle.std.proofs.Common.{ap, ◌∙◌}
use Rattle.numbering.specs.inner.AskedFor.{noted_views}
use Rattle.numbering.specs.inner.Lists.{if_some}
use Rattle.numbering.proofs.NotedLaws.{those_at}
use Rattle.numbering.proofs.noted.Listed.those.Goals as goal

pub returns-in-Some : goal.returns-in-Some
returns-in-Some c = ap noted_views c.as_slice.ensures.value ∙ ap (λ o. noted_views (if_some o)) c.in-Some.ensures.value
    ∙ those_at c.args.self.now ((c.args.owner, c.args.name), c.args.class)

pub returns-in-None : goal.returns-in-None
returns-in-None c = ap (λ o. noted_views (if_some o)) c.in-None.ensures.value
    ∙ those_at c.args.self.now ((c.args.owner, c.args.name), c.args.class)
