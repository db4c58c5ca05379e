-- What features that are read one by one are together.
use Rattle.std.specs.Prelude.{ℕ, List, ◌++◌, map, codes}
use Rattle.model.specs.Tables.{Written}
use Rattle.features.specs.EntryViews.{entry_views}
use Rattle.trees.specs.inner.Parts.{between_commas}
use Rattle.index_lines.specs.declared.shortcuts.row.RowRead.{RowRead}

-- the bytes that they were read off
abbrev pub row_texts : List RowRead → List (List ℕ)
row_texts rows = map (λ r. r.bytes.now) rows

-- the object of such members
abbrev pub braced : List (List ℕ) → List ℕ
braced texts = codes "{" ++ (between_commas texts ++ codes "}")

-- each feature with its entries
abbrev pub row_views : List RowRead → Written
row_views rows = map (λ r. (r.row.0, entry_views r.row.1.items)) rows
