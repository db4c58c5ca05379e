-- What terms that hold their own vertices and states stand for.
use Rattle.model.specs.Axioms as axioms
use Rattle.vertices.specs.Views.{state_views}
use Rattle.derivations.specs.declared.keeping_read.WholeTerm.{WholeTerm}

abbrev pub term_view : WholeTerm → axioms.Term
term_view t = axioms.at t.vertex (state_views t.states.items)
