use Rattle.std.proofs.Common.{◌≡◌, [], drop}
use Rattle.encoding.specs.Encodings.{numbered}
use Rattle.encoding.specs.Views.{vertex_views}
use Rattle.encoding.proofs.rows.numbered.Given as goal

-- the vertices so far, with those that are left, are all
abbrev pub invariant-vertices : goal.invariant-vertices
invariant-vertices l =
    numbered l.table (vertex_views (drop l.vertex-index l.vertices)) ≡ numbered [] (vertex_views l.vertices)
