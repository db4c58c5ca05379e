-- How loading ends, by the calls of the folder (Cargo book, "Registry Index"; the limits, and the checksums that are
-- held against an old lock, are our own).
use Rattle.std.specs.Prelude.{◌≡◌, ◌<◌, ◌≤◌, ◌⊎◌, ℕ, Bool, false, not, ◌&&◌, if◌then◌else◌, List, [], ◌∷◌, ◌++◌, length}
use Rattle.std.specs.Prelude.{map, flat_map, Option, Some, None, option_map, option_copied, Result, Ok, Err, Vec}
use Rattle.std.specs.Prelude.{IsSomeAnd, string_bytes}
use Rattle.std.specs.Borrow.{Bor}
use Rattle.std.specs.List.{All}
use Rattle.std.specs.declared.alloc.Global.{Global}
use Rattle.semver.specs.Parse.{Parts}
use Rattle.semver.specs.Identifiers.{parts_of}
use Rattle.model.specs.Content.{Content, Package, same_option, candidates_of, candidate_at, packages_if}
use Rattle.model.specs.Candidates.{Record as ModelRecord, RustVersion, candidates_among, is_locked, preferred_rust}
use Rattle.model.specs.Candidates.Prefer.{newest, rust_first}
use Rattle.model.specs.Summary.{Dependency, same_text}
use Rattle.index_reader.specs.Folders.{Answer, IsRisen, path_of}
use Rattle.index_reader.specs.Files.{SkipView, FileView, no_lines, line_count, records_of_file, contents_view}
use Rattle.index_lines.specs.Views.{record_view}
use Rattle.index_reader.specs.declared.folder.FolderFault.TheVariants.{Failed}
use Rattle.index_lines.specs.declared.record.Record.{Record}
use Rattle.index_reader.specs.declared.skip.Skip.{Skip}
use Rattle.catalogue.specs.Stores.{Ranked, rank_of, CatalogueView, rows_by_name}
use Rattle.catalogue.specs.inner.Views.{candidates_view}
use Rattle.features.specs.Views.{dependency_views}
use Rattle.catalogue.specs.Runs.{Asked, Calls, Chain, as_record, meant_by, candidates_in, AreNext, next_name}
use Rattle.catalogue.specs.declared.store.Prefer.{Prefer}
use Rattle.catalogue.specs.declared.store.Prefer.TheVariants as prefer
use Rattle.catalogue.specs.declared.candidates.Candidates.{Candidates}
use Rattle.catalogue.specs.declared.candidate.Candidate.{Candidate}
use Rattle.catalogue.specs.declared.fault.LoadFault.{LoadFault}
use Rattle.catalogue.specs.declared.fault.LoadFault.TheVariants as fault
use Rattle.catalogue.specs.declared.fault.Limit.{Limit}
use Rattle.catalogue.specs.declared.fault.Limit.TheVariants as limit

-- ---- the limits

abbrev pub most_names : ℕ
most_names = 65536

-- 16 MiB
abbrev pub most_bytes : ℕ
most_bytes = 16777216

abbrev pub most_lines : ℕ
most_lines = 65535

-- a file, if there is one, has no more bytes and lines
abbrev pub IsWithin : Option (List ℕ) → Type 0
IsWithin None = Unit {0}
IsWithin (Some bytes) = (length bytes ≤ most_bytes) × (line_count bytes ≤ most_lines)

-- ---- the file of a name

-- what the file says: nothing where there is none
abbrev pub file_of : Asked → FileView
file_of (name, None) = no_lines
file_of (name, Some bytes) = records_of_file name bytes

-- the folder answered for a name with a file within the limits, which says this
pub record IsRead {S : Type 0} (calls : Calls S) (before : S) (name : List ℕ) (file : FileView)
    (after : S) : Type 0 where
  pub answer : Option (List ℕ)
  pub call : calls before (path_of name) (Ok answer) after
  pub within : IsWithin answer
  pub says : file_of (name, answer) ≡ file

-- which limit a file of this name is past: it has too many bytes, or not these but too many lines
abbrev pub IsPast : List ℕ → List ℕ → Limit → Type 0
IsPast name bytes limit.Names = ⊥
IsPast name bytes (limit.File n) = (n ≡ name) × (most_bytes < length bytes)
IsPast name bytes (limit.Lines n) = (n ≡ name) × (length bytes ≤ most_bytes) × (most_lines < line_count bytes)

-- it wasn't asked, or asked once, for this name, whatever it answered
abbrev pub IsAskedAtMost : {S : Type 0} → Calls S → S → List ℕ → S → Type 0
IsAskedAtMost calls before name after =
    (after ≡ before) ⊎ ((answer : Answer) × calls before (path_of name) answer after)

-- how reading the file of a name ends with a fault: where the folder failed, the count of its failures rose in this
-- call
abbrev pub Fails : {S : Type 0} → Calls S → (S → ℕ) → S → List ℕ → LoadFault → S → Type 0
Fails calls failed before name fault.OutOfMemory after = IsAskedAtMost calls before name after
Fails calls failed before name (fault.FolderFailed path) after =
    (string_bytes path ≡ path_of name) × calls before (path_of name) (Err Failed) after
    × IsRisen (failed before) (failed after)
Fails calls failed before name (fault.TooLarge which) after =
    (bytes : List ℕ) × calls before (path_of name) (Ok (Some bytes)) after × IsPast name bytes which
Fails calls failed before name (fault.ChecksumChanged n v) after = ⊥

abbrev pub Reads : {S : Type 0} → Calls S → (S → ℕ) → S → List ℕ
    → Result (Vec Record Global × Vec Skip Global) LoadFault → S → Type 0
Reads calls failed before name (Ok contents) after = IsRead calls before name (contents_view contents) after
Reads calls failed before name (Err e) after = Fails calls failed before name e after

-- which fault a file that is past the limits is
abbrev pub IsRefused : List ℕ → List ℕ → LoadFault → Type 0
IsRefused name bytes fault.OutOfMemory = Unit {0}
IsRefused name bytes (fault.FolderFailed path) = ⊥
IsRefused name bytes (fault.TooLarge which) = IsPast name bytes which
IsRefused name bytes (fault.ChecksumChanged n v) = ⊥

abbrev pub SaysOfLimits : List ℕ → List ℕ → Result (Unit {0}) LoadFault → Type 0
SaysOfLimits name bytes (Ok u) = IsWithin (Some bytes)
SaysOfLimits name bytes (Err e) = IsRefused name bytes e

-- how reading a file within the limits, or not within them, ends
abbrev pub SaysOfFile : List ℕ → List ℕ → Result (Vec Record Global × Vec Skip Global) LoadFault → Type 0
SaysOfFile name bytes (Ok contents) = IsWithin (Some bytes) × (records_of_file name bytes ≡ contents_view contents)
SaysOfFile name bytes (Err e) = IsRefused name bytes e

-- ---- the candidates of a name

-- the packages of the old lock: none where there is no old lock
abbrev pub packages_of_old : Option (Bor Content) → Content
packages_of_old old = packages_if (option_copied old)

abbrev pub records_view : List Record → List ModelRecord
records_view rs = map (λ r. as_record (record_view r)) rs

-- records, each with its rank
abbrev pub with_ranks : (Parts → Bool) → Option RustVersion → List ModelRecord → List Ranked
with_ranks locked rust rs = map (λ r. (r, rank_of locked rust r)) rs

-- the candidates among the records of a name, oldest first, each with its rank
abbrev pub ranked_among : (Parts → Bool) → Option RustVersion → List ModelRecord → List Ranked
ranked_among locked rust rs = with_ranks locked rust (candidates_among locked rs)

-- the names that these candidates need, in their order
abbrev pub needs_of : List Candidate → List (List ℕ)
needs_of cs = flat_map (λ c. meant_by (dependency_views c.brings.dependencies.items)) cs

-- ---- a call for a name

-- the lines of the file that are skipped
abbrev pub skips_of : Asked → List SkipView
skips_of a = (file_of a).skips

-- in a run that has this old lock, this source and this Rust version to go by
module _ (old : Content) (source : List ℕ) (rust : Option RustVersion) where
  -- the candidates of a name, oldest first, each with its rank
  abbrev pub ranked_in : Asked → List Ranked
  ranked_in a = with_ranks (is_locked old source a.0) rust (candidates_in old source a)

  -- the folder answered for a name with a file within the limits; these are the candidates, and these the skips before
  -- and after
  pub record IsAsked {S : Type 0} (calls : Calls S) (before : S) (name : List ℕ) (skipped : List SkipView)
      (found : List Ranked) (after : S) (skips : List SkipView) : Type 0 where
    pub answer : Option (List ℕ)
    pub call : calls before (path_of name) (Ok answer) after
    pub within : IsWithin answer
    pub ranked : found ≡ ranked_in (name, answer)
    pub added : skips ≡ skipped ++ skips_of (name, answer)

-- how asking for a name ends
abbrev pub Asks : {S : Type 0} → Calls S → (S → ℕ) → Content → List ℕ → Option RustVersion → S → List ℕ → List SkipView
    → Result Candidates LoadFault → S → List SkipView → Type 0
Asks calls failed old source rust before name skipped (Ok found) after skips =
    IsAsked old source rust calls before name skipped (candidates_view found) after skips
Asks calls failed old source rust before name skipped (Err e) after skips = Fails calls failed before name e after

-- ---- the whole run

-- in a run that has this old lock, this source and this Rust version to go by, for a root with these dependencies
module _ (old : Content) (source : List ℕ) (rust : Option RustVersion) (root : List Dependency) where
  -- the folder was asked for these names in order, at most so many, and answered each with a file within the limits
  pub record IsSoFar {S : Type 0} (calls : Calls S) (before : S) (asked : List Asked) (mid : S) : Type 0 where
    pub chain : Chain calls before asked mid
    pub in_turn : AreNext old source root [] asked
    pub within : All (λ a. IsWithin a.1) asked
    pub few : length asked ≤ most_names

  -- the index that these answers give
  abbrev pub store_of : List Asked → CatalogueView
  store_of asked = record {
    rows = map (λ a. (a.0, ranked_in old source rust a)) asked;
    skips =
        flat_map skips_of asked;
    source = source;
  }

  -- a whole run, whose answers give this index
  pub record IsLoaded {S : Type 0} (calls : Calls S) (before : S) (index : CatalogueView) (after : S) : Type 0 where
    pub asked : List Asked
    pub so_far : IsSoFar calls before asked after
    pub ended : next_name old source root asked ≡ None
    pub is : index ≡ store_of asked

  -- so many names were asked for, and another one waits
  pub record HasTooMany {S : Type 0} (calls : Calls S) (before : S) (after : S) : Type 0 where
    pub asked : List Asked
    pub name : List ℕ
    pub so_far : IsSoFar calls before asked after
    pub most : length asked ≡ most_names
    pub next : next_name old source root asked ≡ Some name

  -- the call for the next name ended with this fault
  pub record HasFailed {S : Type 0} (calls : Calls S) (failed : S → ℕ) (before : S) (e : LoadFault)
      (after : S) : Type 0 where
    pub asked : List Asked
    pub mid : S
    pub name : List ℕ
    pub so_far : IsSoFar calls before asked mid
    pub next : next_name old source root asked ≡ Some name
    pub fewer : length asked < most_names
    pub fails : Fails calls failed mid name e after

  -- memory was wanting: the folder was asked for the names so far, and perhaps for the next one
  abbrev pub IsCutShort : {S : Type 0} → Calls S → (S → ℕ) → S → S → Type 0
  IsCutShort calls failed before after =
      ((asked : List Asked) × IsSoFar calls before asked after) ⊎ HasFailed calls failed before fault.OutOfMemory after

  -- how asking for all names ends with a fault
  abbrev pub AskingEnds : {S : Type 0} → Calls S → (S → ℕ) → S → LoadFault → S → Type 0
  AskingEnds calls failed before fault.OutOfMemory after = IsCutShort calls failed before after
  AskingEnds calls failed before (fault.TooLarge limit.Names) after = HasTooMany calls before after
  AskingEnds calls failed before e after = HasFailed calls failed before e after

  abbrev pub AsksAll : {S : Type 0} → Calls S → (S → ℕ) → S → Result CatalogueView LoadFault → S → Type 0
  AsksAll calls failed before (Ok index) after = IsLoaded calls before index after
  AsksAll calls failed before (Err e) after = AskingEnds calls failed before e after

-- ---- what the old lock says beside the index

-- a checksum that isn't the index's: none says nothing, and neither does a version that isn't there
abbrev pub differs : Option (List ℕ) → Option (List ℕ) → Bool
differs (Some checksum) (Some found) = not (same_text found checksum)
differs _ _ = false

-- a locked package of the index's source has another checksum than the index
abbrev pub has_changed : CatalogueView → Package → Bool
has_changed index p = same_option p.source (Some index.source) && differs p.checksum
    (option_map (λ c. c.checksum) (candidate_at (candidates_of (rows_by_name index) p.name) p.version))

-- the first such package
unfoldable pub first_changed : CatalogueView → Content → Option Package
first_changed index [] = None
first_changed index (p ∷ ps) = if has_changed index p then Some p else first_changed index ps

-- the fault names the first package with another checksum
abbrev pub IsChanged : CatalogueView → Content → List ℕ → Parts → Type 0
IsChanged index old name version = IsSomeAnd (first_changed index old) (λ p. (name ≡ p.name) × (version ≡ p.version))

abbrev pub Checks : CatalogueView → Content → Result (Unit {0}) LoadFault → Type 0
Checks index old (Ok u) = first_changed index old ≡ None
Checks index old (Err fault.OutOfMemory) = Unit {0}
Checks index old (Err (fault.FolderFailed path)) = ⊥
Checks index old (Err (fault.TooLarge which)) = ⊥
Checks index old (Err (fault.ChecksumChanged n v)) = IsChanged index old n (parts_of v)

-- ---- loading

-- the Rust version to go by
abbrev pub rust_for : Prefer → Option RustVersion → Option RustVersion
rust_for prefer.Newest rust = preferred_rust newest rust
rust_for prefer.RustFirst rust = preferred_rust rust_first rust

-- in a run that has this old lock, this source and this Rust version to go by, for a root with these dependencies
module _ (old : Content) (source : List ℕ) (rust : Option RustVersion) (root : List Dependency) where
  -- how loading ends: a whole run may give an index of which a locked package has another checksum
  abbrev pub Loads : {S : Type 0} → Calls S → (S → ℕ) → S → Result CatalogueView LoadFault → S → Type 0
  Loads calls failed before (Ok index) after =
      IsLoaded old source rust root calls before index after × (first_changed index old ≡ None)
  Loads calls failed before (Err (fault.ChecksumChanged n v)) after =
      (index : CatalogueView) × IsLoaded old source rust root calls before index after
      × IsChanged index old n (parts_of v)
  Loads calls failed before (Err e) after = AskingEnds old source rust root calls failed before e after
