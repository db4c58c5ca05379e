use Rattle.model.specs.inner.Search.{LeadsTo}
use Rattle.model.proofs.Cut.{stands_valid}
use Rattle.facts.proofs.Found.{stands}
use Rattle.facts.proofs.reaching.built_contents_select.Goals as goal

pub returns : goal.returns
returns c = λ q state owners nodes flags lists content known asks ok met are built.
    stands_valid q state ok known content
    (stands q (LeadsTo q state) owners nodes met asks flags lists are content built)
