-- What the pieces of a line stand for while it is read.
use Rattle.std.specs.Prelude.{List, map}
use Rattle.serde_json.specs.Data.{Data}
use Rattle.trees.specs.Trees.{tree_view}
use Rattle.trees.specs.declared.tree.Tree.{Tree}
use Rattle.model.specs.Vertices.{Vertex}
use Rattle.vertices.specs.Texts.{kind_view}
use Rattle.derivations.specs.Steps.{Written, Origin, by_axiom, by_combination}
use Rattle.derivations.specs.inner.Tables.{TablesView, term_at}
use Rattle.derivations.specs.declared.line.WrittenTerm.{WrittenTerm}
use Rattle.derivations.specs.declared.step.Term.{Term}
use Rattle.derivations.specs.declared.step.Origin as own
use Rattle.derivations.specs.declared.step.Origin.TheVariants.{Axiom, Combination}

abbrev pub two_view : Tree × Tree → Data × Data
two_view p = (tree_view p.0, tree_view p.1)

abbrev pub written_term : WrittenTerm → Term
written_term w = w.term

abbrev pub written_view : TablesView → WrittenTerm → Written
written_view t w = (w.text.now, term_at t w.term)

abbrev pub written_views : TablesView → List WrittenTerm → List Written
written_views t ws = map (written_view t) ws

abbrev pub origin_view : own.Origin Vertex → Origin
origin_view (Axiom k) = by_axiom (kind_view k)
origin_view (Combination a b v) = by_combination a b v
