use Rattle.std.proofs.Common.{take}
use Rattle.model.specs.Tables.{has_dep_entry}
use Rattle.features.specs.inner.Texts.{HasThose, texts_in}
use Rattle.features.specs.inner.Tables.{rows_of}
use Rattle.features.proofs.draft.entered.Given as goal

-- the names in the rows so far
abbrev pub invariant-rows : goal.invariant-rows
invariant-rows l = HasThose (texts_in l.names) (has_dep_entry (rows_of (take l.row-index l.written)))
