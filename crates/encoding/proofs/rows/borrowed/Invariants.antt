use Rattle.std.proofs.Common.{◌≡◌, ◌++◌, drop}
use Rattle.encoding.specs.inner.Rows.{vertices_of}
use Rattle.encoding.specs.Views.{vertex_views}
use Rattle.encoding.proofs.rows.borrowed.Given as goal

-- the vertices so far, with those of the rows that are left, are all
abbrev pub invariant-rows : goal.invariant-rows
invariant-rows l = vertex_views l.vertices.items ++ vertices_of (drop l.row-index l.rows) ≡ vertices_of l.rows
