use Rattle.model.specs.inner.Search.{LeadsTo}
use Rattle.facts.proofs.Found.{is_graph}
use Rattle.facts.proofs.reaching.packages_are_a_graph.Goals as goal

pub returns : goal.returns
returns c = λ q state owners nodes asks met. is_graph q (LeadsTo q state) owners nodes met asks
