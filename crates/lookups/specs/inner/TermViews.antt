-- What terms stand for, without where their names and versions lie.
use Rattle.std.specs.Prelude.{List, map}
use Rattle.model.specs.Axioms as axioms
use Rattle.vertices.specs.inner.RefViews.{vertex_ref_view}
use Rattle.lookups.specs.declared.term.Term.{Term}

abbrev pub term_view : Term → axioms.Term
term_view t = axioms.at (vertex_ref_view t.vertex) t.states

abbrev pub term_views : List Term → List axioms.Term
term_views ts = map term_view ts
