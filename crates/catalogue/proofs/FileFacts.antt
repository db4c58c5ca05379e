-- The records of a file are apart in precedence, and no more than its lines.
use Rattle.std.proofs.Common.{◌≡◌, ℕ, ◌+◌, ◌≤◌, Bool, true, false, ◌||◌, cond, List, [], ◌∷◌, ◌++◌, map, length, Ok}
use Rattle.std.proofs.Common.{Err, Option, Some, None, refl, sym, ap, ◌∙◌, subst, arith, Ordering}
use Rattle.std.specs.List.{All, AllPairs, slice_split}
use Rattle.std.specs.Ordering.{is_eq, ordering_reverse}
use Rattle.std.specs.declared.cmp.Ordering.TheVariants.{Equal}
use Rattle.std.proofs.lemmas.List.{map-append, length-append}
use Rattle.std.proofs.lemmas.List.Quantifiers.{all_pairs_push}
use Rattle.model.specs.Candidates.{IsApart}
use Rattle.model.specs.Order.{precedence}
use Rattle.model.proofs.Candidates.{precedence_total}
use Rattle.model.proofs.Lists.{all_none, all_cons, pairs_none}
use Rattle.index_reader.specs.Files.{FileView, no_lines, same_precedence, has_version, with_skip, with_record}
use Rattle.index_reader.specs.Files.{with_found, with_read, with_line, with_lines}
use Rattle.trees.specs.Trees.{is_line_end, is_blank}
use Rattle.index_lines.specs.Shapes.{Line}
use Rattle.index_lines.specs.Records.{RecordView, is_checksum, unchecked_of_line}
use Rattle.index_lines.specs.declared.fault.SkipReason.TheVariants.{Duplicate, BadChecksum}
use Rattle.index_lines.specs.declared.fault.LineFault.TheVariants as line
use Rattle.index_lines.specs.Views.{record_view}
use Rattle.index_lines.specs.declared.record.Record as reader
use Rattle.catalogue.specs.Runs.{as_record, records_of}
use Rattle.catalogue.specs.Loads.{IsWithin, file_of, records_view, skips_of}
use Rattle.catalogue.specs.Stores.{most_candidates}
use Rattle.catalogue.proofs.LineFacts.{full, full-few}

-- so many records at most, no two of equal precedence
abbrev pub AreFew : ℕ → FileView → Type 0
AreFew m f = AllPairs IsApart (map as_record f.records) × (length f.records ≤ m)

-- none of these is of equal precedence
none_equal : (rs : List RecordView) (r : RecordView) → has_version rs r.version ≡ false
    → All (λ e. IsApart e (as_record r)) (map as_record rs)
none_equal [] r h = all_none (λ e. IsApart e (as_record r))
none_equal (e ∷ es) r h =
    let parts = both_false (same_precedence r.version e.version) (has_version es r.version) h in
    all_cons (λ x. IsApart x (as_record r)) (as_record e) (map as_record es)
    (λ equal. clash (precedence r.version e.version)
    (precedence_total.antisymm r.version e.version ∙ ap ordering_reverse equal) parts.0) (none_equal es r parts.1)
  where
    both_false : (a b : Bool) → (a || b) ≡ false → (a ≡ false) × (b ≡ false)
    both_false false false h = (refl, refl)
    both_false false true h = cc
    both_false true b h = cc

    clash : (o : Ordering) → o ≡ Equal → is_eq o ≡ false → ⊥
    clash o same not = let t : is_eq o ≡ true = ap is_eq same in cc

record_few : (name : List ℕ) (n m : ℕ) (r : RecordView) (f : FileView) → AreFew m f
    → AreFew (m + 1) (with_record name n r f)
record_few name n m r f h = by (has_version f.records r.version) refl
  where
    by : (b : Bool) → has_version f.records r.version ≡ b
        → AreFew (m + 1)
        (cond b (with_skip name n Duplicate f) (record { records = f.records ++ r ∷ []; skips = f.skips }))
    by true e = (h.0, omega (arith, h.1))
    by false e = (
      subst (AllPairs IsApart) (sym (map-append as_record f.records (r ∷ [])))
          (all_pairs_push IsApart (map as_record f.records) (as_record r) h.0 (none_equal f.records r e)),
      rw length-append (omega (arith, h.1)),
    )

found_few : (name : List ℕ) (n m : ℕ) (r : RecordView) (f : FileView) → AreFew m f
    → AreFew (m + 1) (with_found name n r f)
found_few name n m r f h = elim (is_checksum r.checksum) as (λ b. AreFew (m + 1) (cond b (with_record name n r f)
    (with_skip name n (cond (has_version f.records r.version) Duplicate BadChecksum) f))) [
      | true ↦ record_few name n m r f h
      | false ↦ (h.0, omega (arith, h.1))
    ]

read_few : (name : List ℕ) (n m : ℕ) (l : Line RecordView) (f : FileView) → AreFew m f
    → AreFew (m + 1) (with_read name n l f)
read_few name n m (Ok r) f h = found_few name n m r f h
read_few name n m (Err (line.Skipped why)) f h = (h.0, omega (arith, h.1))
read_few name n m (Err line.OutOfMemory) f h = (h.0, omega (arith, h.1))

line_few : (name : List ℕ) (n m : ℕ) (text : List ℕ) (f : FileView) → AreFew m f
    → AreFew (m + 1) (with_line name n text f)
line_few name n m text f h =
    elim (is_blank text) as (λ b. AreFew (m + 1) (cond b f (with_read name n (unchecked_of_line name text) f))) [
      | true ↦ (h.0, omega (arith, h.1))
      | false ↦ read_few name n m (unchecked_of_line name text) f h
    ]

-- an empty line says nothing
lines_few : (name : List ℕ) (n m : ℕ) (texts : List (List ℕ)) (f : FileView) → AreFew m f
    → AreFew (m + full texts) (with_lines name n texts f)
unfolding with_lines
lines_few name n m [] f h = (h.0, omega (arith, h.1))
lines_few name n m ([] ∷ texts) f h = lines_few name (n + 1) m texts f h
lines_few name n m ((b ∷ text) ∷ texts) f h =
    let k = lines_few name (n + 1) (m + 1) texts (with_line name n (b ∷ text) f) (line_few name n m (b ∷ text) f h) in
    (k.0, omega (arith, k.1))

few_of : (name : List ℕ) (answer : Option (List ℕ)) → IsWithin answer → AllPairs IsApart
    (map as_record (file_of (name, answer)).records) × (length (file_of (name, answer)).records ≤ most_candidates)
few_of name None w = (pairs_none IsApart, omega arith)
few_of name (Some bytes) w =
    let k = lines_few name 1 0 (slice_split is_line_end bytes) no_lines (pairs_none IsApart, omega arith) in
    let parts = full-few bytes in
    (k.0, omega (arith, k.1, parts, w.1))

-- what the file of a name says
pub file_few : (name : List ℕ) (answer : Option (List ℕ)) (file : FileView) → IsWithin answer → file_of (name, answer)
    ≡ file → AllPairs IsApart (map as_record file.records) × (length file.records ≤ most_candidates)
file_few name answer file w e = subst (λ (f : FileView). AllPairs IsApart (map as_record f.records)
    × (length f.records ≤ most_candidates)) e (few_of name answer w)

-- what a file that is read says
pub views-same : (rs : List reader.Record) → map as_record (map record_view rs) ≡ records_view rs
views-same [] = refl
views-same (r ∷ rs) = ap (λ zs. as_record (record_view r) ∷ zs) (views-same rs)

records-of : (name : List ℕ) (answer : Option (List ℕ))
    → records_of (name, answer) ≡ map as_record (file_of (name, answer)).records
records-of name None = refl
records-of name (Some bytes) = refl

pub records-are : (name : List ℕ) (answer : Option (List ℕ)) (file : FileView) → file_of (name, answer) ≡ file
    → records_of (name, answer) ≡ map as_record file.records
records-are name answer file e = records-of name answer ∙ ap (λ (f : FileView). map as_record f.records) e

pub skips-are : (name : List ℕ) (answer : Option (List ℕ)) (file : FileView) → file_of (name, answer) ≡ file
    → skips_of (name, answer) ≡ file.skips
skips-are name answer file e = ap (λ (f : FileView). f.skips) e
