-- Where the file of a name lies, what a folder of files answers for a path, and when a call of it may fail (Cargo book,
-- "Registry Index"; the counting of failures is our own).
use Rattle.std.specs.Prelude.{ℕ, ◌==◌, if◌then◌else◌, List, ◌++◌, length, take, drop, map, codes, ◌≡◌, ◌<◌, ◌⊎◌, ◌^◌}
use Rattle.std.specs.Prelude.{◌-◌, ◌+◌, nat_le, Bool, true, false, Option, option_map, Result, Ok, Err, String, Vec}
use Rattle.std.specs.Prelude.{string_bytes}
use Rattle.std.specs.Char.{to_ascii_lowercase}
use Rattle.std.specs.Ordering.{nat_cmp}
use Rattle.std.specs.Cmp.Lexicographic.{slice_cmp}
use Rattle.std.specs.Map.{lookup}
use Rattle.std.specs.BTreeMap.{is_at}
use Rattle.std.specs.declared.alloc.Global.{Global}
use Rattle.index_reader.specs.declared.folder.FolderFault.{FolderFault}
use Rattle.index_reader.specs.declared.folder.FolderFault.TheVariants.{OutOfMemory, Failed}

-- ---- Where the file of a name lies in an index (Cargo book, "Registry Index", "Index files").

abbrev pub lower : List ℕ → List ℕ
lower name = map to_ascii_lowercase name

-- the folder of a name in lower case: by its length, and from three letters on by how it begins
abbrev pub folder_of : List ℕ → List ℕ
folder_of name = if length name == 1 then codes "1/"
    else if length name == 2 then codes "2/"
    else if length name == 3 then codes "3/" ++ take 1 name ++ codes "/"
    else take 2 name ++ codes "/" ++ take 2 (drop 2 name) ++ codes "/"

abbrev pub path_of : List ℕ → List ℕ
path_of name = folder_of (lower name) ++ lower name

-- ---- What a call answers, and what it leaves.

-- what a call answered: the bytes of the file, if there is one
abbrev pub Answer : Type 0
Answer = Result (Option (List ℕ)) FolderFault

abbrev pub answer_view : Result (Option (Vec ℕ Global)) FolderFault → Answer
answer_view (Ok o) = Ok (option_map (λ v. v.items) o)
answer_view (Err e) = Err e

-- a count has risen, or is at its greatest
abbrev pub IsRisen : ℕ → ℕ → Type 0
IsRisen old new = (old < new) ⊎ (new ≡ 2 ^ 64 - 1)

-- files by their paths
abbrev pub Files : Type 0
Files = List (String Global × Vec ℕ Global)

-- the bytes of the file at a path
abbrev pub file_at : Files → List ℕ → Option (List ℕ)
file_at files path = option_map (λ v. v.items) (lookup (is_at (λ k. slice_cmp nat_cmp path (string_bytes k))) files)

-- a call of a folder in memory: its map's answer, and the map stays
abbrev pub MemoryCalls : Files → List ℕ → Answer → Files → Type 0
MemoryCalls old path (Ok o) new = (o ≡ file_at old path) × (new ≡ old)
MemoryCalls old path (Err OutOfMemory) new = new ≡ old
MemoryCalls old path (Err Failed) new = ⊥

-- a folder in memory that fails from its call of number k on, counted from 1, with its calls and its failures so far
pub record Failing : Type 0 where
  pub files : Files
  pub k : ℕ
  pub calls : ℕ
  pub failures : ℕ

-- a count with one more: at its greatest it stays
abbrev pub counted : ℕ → ℕ
counted n = if n == 2 ^ 64 - 1 then n else n + 1

-- whether the next call fails
abbrev pub fails_next : Failing → Bool
fails_next f = nat_le f.k (counted f.calls)

-- what the next call answers, and what it leaves
abbrev pub Answers : Bool → Failing → List ℕ → Answer → Failing → Type 0
Answers true old path answer new =
    (answer ≡ Err Failed) × (new.files ≡ old.files) × (new.failures ≡ counted old.failures)
Answers false old path answer new = MemoryCalls old.files path answer new.files × (new.failures ≡ old.failures)

-- a call of such a folder: each is counted
pub record FailingCalls (old : Failing) (path : List ℕ) (answer : Answer) (new : Failing) : Type 0 where
  pub answers : Answers (fails_next old) old path answer new
  pub same_k : new.k ≡ old.k
  pub counted_calls : new.calls ≡ counted old.calls
