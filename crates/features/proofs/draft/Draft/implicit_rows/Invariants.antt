use Rattle.std.proofs.Common.{◌≡◌, take}
use Rattle.model.specs.Tables.{is_implicit}
use Rattle.features.specs.inner.Drafts.{implicit_rows}
use Rattle.features.specs.inner.Tables.{dep_names_view, rows_of}
use Rattle.features.proofs.draft.Draft.implicit_rows.Given as goal

-- the rows of the dependencies so far
abbrev pub invariant-loop-dependency : goal.invariant-loop-dependency
invariant-loop-dependency l = rows_of l.rows.items
    ≡ implicit_rows (is_implicit (dep_names_view l.fn.self.dependencies.now) (rows_of l.fn.self.written.now))
    (dep_names_view (take l.dependency-index l.dependency-items))
