-- What a file of an index says: its lines, and of these the records and the skips (Cargo book, "Registry Index";
-- skipping, and one version of equal precedence a file, are our own).
use Rattle.std.specs.Prelude.{ℕ, ◌+◌, ◌-◌, ◌==◌, ◌&&◌, Bool, not, if◌then◌else◌, List, [], ◌∷◌, ◌++◌, length, count_by}
use Rattle.std.specs.Prelude.{slice_index, Ok, Err, map, Vec}
use Rattle.std.specs.List.{list_any, slice_split}
use Rattle.std.specs.Ordering.{is_eq}
use Rattle.semver.specs.Parse.{Parts}
use Rattle.model.specs.Order.{precedence}
use Rattle.trees.specs.Trees.{is_blank, is_line_end}
use Rattle.index_lines.specs.Shapes.{Line}
use Rattle.index_lines.specs.Records.{RecordView, is_checksum, unchecked_of_line}
use Rattle.index_lines.specs.declared.fault.SkipReason.{SkipReason}
use Rattle.index_lines.specs.declared.fault.SkipReason.TheVariants.{BadChecksum, Duplicate}
use Rattle.index_lines.specs.declared.fault.LineFault.TheVariants.{OutOfMemory, Skipped}
use Rattle.std.specs.declared.alloc.Global.{Global}
use Rattle.index_lines.specs.Views.{record_view}
use Rattle.index_lines.specs.declared.record.Record.{Record}
use Rattle.index_reader.specs.declared.skip.Skip.{Skip}

-- some bytes, the last of which ends no line
abbrev pub ends_open : List ℕ → Bool
ends_open bytes = not (length bytes == 0) && not (is_line_end (slice_index bytes (length bytes - 1)))

-- how many lines: the line ends, and one more where bytes follow the last of them
abbrev pub line_count : List ℕ → ℕ
line_count bytes = count_by is_line_end bytes + (if ends_open bytes then 1 else 0)

-- a line that is skipped: the package of its file, its number from 1, and why
pub record SkipView : Type 0 where
  pub name : List ℕ
  pub line : ℕ
  pub reason : SkipReason

pub record FileView : Type 0 where
  pub records : List RecordView
  pub skips : List SkipView

abbrev pub no_lines : FileView
no_lines = record { records = []; skips = [] }

abbrev pub same_precedence : Parts → Parts → Bool
same_precedence v w = is_eq (precedence v w)

-- one of these records has a version of equal precedence
abbrev pub has_version : List RecordView → Parts → Bool
has_version records v = list_any (λ r. same_precedence v r.version) records

abbrev pub with_skip : List ℕ → ℕ → SkipReason → FileView → FileView
with_skip name n why file =
    record { records = file.records; skips = file.skips ++ record { name = name; line = n; reason = why } ∷ [] }

-- a record is kept where no earlier one that is kept has a version of equal precedence
abbrev pub with_record : List ℕ → ℕ → RecordView → FileView → FileView
with_record name n r file = if has_version file.records r.version then with_skip name n Duplicate file else
    record { records = file.records ++ r ∷ []; skips = file.skips }

-- a record whose checksum is none isn't kept; an earlier version of equal precedence is the first reason
abbrev pub with_found : List ℕ → ℕ → RecordView → FileView → FileView
with_found name n r file = if is_checksum r.checksum then with_record name n r file
    else with_skip name n (if has_version file.records r.version then Duplicate else BadChecksum) file

-- what a line means is never a want of memory
abbrev pub with_read : List ℕ → ℕ → Line RecordView → FileView → FileView
with_read name n (Ok r) file = with_found name n r file
with_read name n (Err (Skipped why)) file = with_skip name n why file
with_read name n (Err OutOfMemory) file = file

-- what a file says up to and with one more line: a blank one says nothing
abbrev pub with_line : List ℕ → ℕ → List ℕ → FileView → FileView
with_line name n text file = if is_blank text then file else with_read name n (unchecked_of_line name text) file

-- the same with these lines, the first of which has this number
unfoldable pub with_lines : List ℕ → ℕ → List (List ℕ) → FileView → FileView
with_lines name n [] file = file
with_lines name n (text ∷ texts) file = with_lines name (n + 1) texts (with_line name n text file)

-- what the file of a name says
abbrev pub records_of_file : List ℕ → List ℕ → FileView
records_of_file name bytes = with_lines name 1 (slice_split is_line_end bytes) no_lines

-- ---- What skips and whole files stand for (Cargo book, "Registry Index").

abbrev pub skip_view : Skip → SkipView
skip_view s = record { name = s.name; line = s.line; reason = s.reason }

abbrev pub file_view : List Record → List Skip → FileView
file_view records skips = record { records = map record_view records; skips = map skip_view skips }

abbrev pub contents_view : Vec Record Global × Vec Skip Global → FileView
contents_view contents = file_view contents.0.items contents.1.items
