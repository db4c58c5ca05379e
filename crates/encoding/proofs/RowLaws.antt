-- What the vertices that are kept are, and how many states they have.
use Rattle.std.proofs.Common.{◌≡◌, ◌<◌, ℕ, get_or, List, [], ◌∷◌, length, map, Some, slice_get, refl, sym, ap, ◌∙◌}
use Rattle.std.proofs.Common.{subst}
use Rattle.std.proofs.lemmas.List.{length-map}
use Rattle.std.proofs.lemmas.Option.{same_Some, slice_get_read}
use Rattle.model.specs.Content.{Problem}
use Rattle.model.specs.Order.{IsCatalogue}
use Rattle.model.specs.Vertices.{Vertex, space}
use Rattle.model.proofs.Places.{map_at}
use Rattle.numbering.specs.Numberings.{Numbering}
use Rattle.encoding.specs.Encodings.{AreVertices, EncodingView, numbered}
use Rattle.encoding.specs.inner.Everything.{named}
use Rattle.encoding.specs.inner.Rows.{IsEncoding, row_view, sized, vertices_of}
use Rattle.encoding.specs.Views.{vertex_view}
use Rattle.encoding.specs.declared.rows.Row.{Row}
use Rattle.encoding.proofs.Numbered.{every_vertex}

firsts : (rows : List Row) → map (λ (p : Vertex × ℕ). p.0) (map row_view rows) ≡ vertices_of rows
firsts [] = refl
firsts (r ∷ rows) = ap (λ l. vertex_view r.vertex ∷ l) (firsts rows)

module _ (q : Problem) where
  sized_firsts : (vs : Numbering) → map (λ (p : Vertex × ℕ). p.0) (map (sized q) vs) ≡ vs
  sized_firsts [] = refl
  sized_firsts (v ∷ vs) = ap (λ l. v ∷ l) (sized_firsts vs)

  pub rows_are : (rows : List Row) (vs : Numbering) → IsCatalogue q → vs ≡ numbered [] (named q)
      → map row_view rows ≡ map (sized q) vs → IsEncoding q rows
  rows_are rows vs known is sizes =
      let same : vertices_of rows ≡ vs =
      sym (firsts rows) ∙ ap (map (λ (p : Vertex × ℕ). p.0)) sizes ∙ sized_firsts vs in
      record {
        vertices = subst (AreVertices q) (sym (same ∙ is)) (every_vertex q known);
        sizes = sizes ∙ ap (map (sized q)) (sym same);
      }

  pub vertex_of : (rows : List Row) (n : ℕ) (r : Row) → slice_get rows n ≡ Some r
      → slice_get (vertices_of rows) n ≡ Some (vertex_view r.vertex)
  vertex_of rows n r at = map_at (λ (r : Row). vertex_view r.vertex) rows n r at

  pub space_of : (rows : List Row) (n : ℕ) (r : Row) → IsEncoding q rows → slice_get rows n ≡ Some r
      → r.space ≡ length (space q (vertex_view r.vertex))
  space_of rows n r is at =
      let v = vertex_view r.vertex in
      let a : slice_get (map (sized q) (vertices_of rows)) n ≡ Some (row_view r)
      = ap (λ l. slice_get l n) (sym is.sizes) ∙ map_at row_view rows n r at in
      let b : slice_get (map (sized q) (vertices_of rows)) n ≡ Some (sized q v)
      = map_at (sized q) (vertices_of rows) n v (vertex_of rows n r at) in
      ap (λ (p : Vertex × ℕ). p.1) (same_Some (row_view r) (sized q v) (sym a ∙ b))

-- how many states the vertex with a number has
pub space_at : (q : Problem) (rows : List Row) (e : EncodingView) (n : ℕ) (r : Row)
    → record { problem = q; vertices = vertices_of rows } ≡ e → IsEncoding q rows → n < length e.vertices
    → r ≡ get_or rows n r → (v : Vertex) → slice_get e.vertices n ≡ Some v → r.space ≡ length (space e.problem v)
space_at q rows e n r view is lt at v seen = subst (λ (e : EncodingView). n < length e.vertices → (v : Vertex)
    → slice_get e.vertices n ≡ Some v → r.space ≡ length (space e.problem v)) view here lt v seen
  where
    here : n < length (vertices_of rows) → (v : Vertex) → slice_get (vertices_of rows) n ≡ Some v
        → r.space ≡ length (space q v)
    here lt v seen =
        let less : n < length rows = subst (λ k. n < k) (length-map rows (λ (r : Row). vertex_view r.vertex)) lt in
        let there = slice_get_read rows (length rows) n r refl less at in
        let same : vertex_view r.vertex ≡ v =
        same_Some (vertex_view r.vertex) v (sym (vertex_of q rows n r there) ∙ seen)
        in space_of q rows n r is there ∙ ap (λ w. length (space q w)) same
