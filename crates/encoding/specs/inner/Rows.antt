-- The vertices that are kept, each with how many states it has.
use Rattle.std.specs.Prelude.{◌≡◌, ℕ, List, length, map}
use Rattle.model.specs.Content.{Problem}
use Rattle.model.specs.Vertices.{Vertex, space}
use Rattle.encoding.specs.Encodings.{AreVertices}
use Rattle.encoding.specs.Views.{vertex_view}
use Rattle.encoding.specs.declared.rows.Row.{Row}

abbrev pub vertices_of : List Row → List Vertex
vertices_of rows = map (λ r. vertex_view r.vertex) rows

abbrev pub row_view : Row → Vertex × ℕ
row_view r = (vertex_view r.vertex, r.space)

abbrev pub sized : Problem → Vertex → Vertex × ℕ
sized q v = (v, length (space q v))

pub record IsEncoding (q : Problem) (rows : List Row) : Type 0 where
  pub vertices : AreVertices q (vertices_of rows)
  pub sizes : map row_view rows ≡ map (sized q) (vertices_of rows)
