use Rattle.std.proofs.Common.{◌≡◌, drop}
use Rattle.model.specs.Tables.{has_fault, first_with}
use Rattle.features.specs.inner.Drafts.{lack_view}
use Rattle.features.specs.inner.Tables.{dep_names_view, rows_of}
use Rattle.features.proofs.draft.Draft.first_lacking.Given as goal

-- the first of all is the first of those that are left
abbrev pub invariant-rows : goal.invariant-rows
invariant-rows l = first_with (has_fault (dep_names_view l.fn.self.dependencies.now)
    (rows_of l.fn.self.written.now) (lack_view l.fn.lack)) (rows_of (drop l.row-index l.row-items))
    ≡ first_with (has_fault (dep_names_view l.fn.self.dependencies.now)
    (rows_of l.fn.self.written.now) (lack_view l.fn.lack)) (rows_of l.fn.self.written.now)
