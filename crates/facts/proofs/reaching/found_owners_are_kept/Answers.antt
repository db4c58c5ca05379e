use Rattle.model.specs.inner.Search.{LeadsTo}
use Rattle.model.proofs.Choices.{arriving}
use Rattle.facts.proofs.Found.{kept_are}
use Rattle.facts.proofs.reaching.found_owners_are_kept.Goals as goal

pub returns : goal.returns
returns c = λ q state owners nodes flags lists kept asks ok met are found.
    kept_are q (LeadsTo q state) owners nodes met asks flags lists are (arriving q state ok) kept found
