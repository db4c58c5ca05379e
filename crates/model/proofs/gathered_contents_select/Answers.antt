use Rattle.model.specs.inner.ContentOf.{content_of}
use Rattle.model.specs.inner.Search.{LeadsTo}
use Rattle.model.proofs.Cut.{stands_valid}
use Rattle.model.proofs.Gathered.{gathered}
use Rattle.model.proofs.gathered_contents_select.Goals as goal

pub returns : goal.returns
returns c = λ q state kept known ok are.
    stands_valid q state ok known (content_of q kept) (gathered q (LeadsTo q state) known kept are)
