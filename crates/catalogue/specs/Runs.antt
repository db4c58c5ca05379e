-- The run of a folder: which names are asked for, in which order, and what the folder answers (Cargo book, "Registry
-- Index"; the order is our own). The index of a run is the list of names with these answers.
use Rattle.std.specs.Prelude.{◌≡◌, ℕ, List, [], ◌∷◌, ◌++◌, Option, Some, None, Ok, map, filter, not, length, slice_get}
use Rattle.std.specs.Prelude.{flat_map}
use Rattle.model.specs.Summary.{Dependency, same_text}
use Rattle.model.specs.Content.{Content}
use Rattle.model.specs.Candidates.{Record, candidates_among, is_locked}
use Rattle.index_reader.specs.Folders.{Answer, path_of}
use Rattle.index_lines.specs.Records.{RecordView}
use Rattle.index_reader.specs.Files.{records_of_file}

-- a name that was asked for, and what the folder answered: its file, if there is one
abbrev pub Asked : Type 0
Asked = List ℕ × Option (List ℕ)

-- what a call of the folder does: the folder before, the path, the answer, the folder after
abbrev pub Calls : Type 0 → Type 1
Calls S = S → List ℕ → Answer → S → Type 0

-- one call after another, each for the path of its name, lead from the one folder to the other
abbrev pub Chain : {S : Type 0} → Calls S → S → List Asked → S → Type 0
Chain calls old [] new = new ≡ old
Chain {S} calls old (a ∷ later) new = (mid : S) × calls old (path_of a.0) (Ok a.1) mid × Chain calls mid later new

abbrev pub as_record : RecordView → Record
as_record r = record {
  version = r.version;
  checksum = r.checksum;
  yanked = r.yanked;
  rust_version =
      r.rust_version;
  brings = r.brings;
}

-- the records of a name: none where it has no file
abbrev pub records_of : Asked → List Record
records_of (name, None) = []
records_of (name, Some bytes) = map as_record (records_of_file name bytes).records

-- the names of the packages that dependencies mean, by number
abbrev pub meant_by : List Dependency → List (List ℕ)
meant_by ds = map (λ d. d.real_name) ds

-- each text once, at its first place
unfoldable pub once : List (List ℕ) → List (List ℕ)
once [] = []
once (x ∷ xs) = x ∷ filter (λ y. not (same_text x y)) (once xs)

-- in a run that has this old lock and this source
module _ (old : Content) (source : List ℕ) where
  -- the candidates of a name, oldest first: the records that aren't yanked, or are locked
  abbrev pub candidates_in : Asked → List Record
  candidates_in a = candidates_among (is_locked old source a.0) (records_of a)

  -- what the candidates of a name need, oldest first
  abbrev pub needed_by : Asked → List (List ℕ)
  needed_by a = flat_map (λ r. meant_by (r.brings).dependencies) (candidates_in a)

-- in such a run for a root with these dependencies
module _ (old : Content) (source : List ℕ) (root : List Dependency) where
  -- the names in the order in which they are asked for: what the root needs, then name after name what its candidates
  -- need, each once
  abbrev pub names_after : List Asked → List (List ℕ)
  names_after asked = once (meant_by root ++ flat_map (needed_by old source) asked)

  -- the name that is asked for next, if one is left
  abbrev pub next_name : List Asked → Option (List ℕ)
  next_name asked = slice_get (names_after asked) (length asked)

  -- each name is the next one after those before it
  abbrev pub AreNext : List Asked → List Asked → Type 0
  AreNext before [] = Unit {0}
  AreNext before (a ∷ later) = (next_name before ≡ Some a.0) × AreNext (before ++ a ∷ []) later

  -- a whole run: a chain of calls, one for each name in order, until no name is left
  pub record IsRun {S : Type 0} (calls : Calls S) (before : S) (asked : List Asked) (after : S) : Type 0 where
    pub chain : Chain calls before asked after
    pub in_turn : AreNext [] asked
    pub ended : next_name asked ≡ None
