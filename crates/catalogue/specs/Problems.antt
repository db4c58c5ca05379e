-- What a selection is held against, in a run for a manifest, and the order in which candidates are preferred (Cargo
-- book, "Dependency Resolution"): the model's problem and its candidates by name.
use Rattle.std.specs.Prelude.{◌≡◌, ℕ, true, List, [], ◌++◌, Contains, Option, Some, None, filter, map, reverse}
use Rattle.std.specs.List.{All}
use Rattle.model.specs.Content.{Candidate, Content, Package, Problem}
use Rattle.model.specs.Candidates.{Record, as_candidate, is_locked}
use Rattle.manifest.specs.Manifests.{ManifestView, root_asks}
use Rattle.catalogue.specs.Runs.{Asked, Calls, IsRun, candidates_in, records_of, AreNext, next_name}
use Rattle.catalogue.specs.Stores.{Ranked, records, same_rank, CatalogueView, rows_by_name}
use Rattle.catalogue.specs.declared.candidate.Rank.{Rank}
use Rattle.catalogue.specs.declared.candidate.Rank.TheVariants.{Locked, Fits, Rest}

-- ---- The problem.

-- the names that were asked for
abbrev pub names_in : List Asked → List (List ℕ)
names_in asked = map (λ a. a.0) asked

-- the candidates by name, oldest first
abbrev pub candidates_by_name : Content → List ℕ → List Asked → List (List ℕ × List Candidate)
candidates_by_name old source asked = map (λ a. (a.0, map as_candidate (candidates_in old source a))) asked

-- what a selection is held against, for a manifest, with these candidates by name from this source
abbrev pub problem_over : ManifestView → List ℕ → List (List ℕ × List Candidate) → Problem
problem_over manifest source candidates = record {
  name = manifest.name;
  version = manifest.version;
  brings = manifest.brings;
  root_asks = root_asks manifest.brings.features;
  source = source;
  candidates = candidates;
}

-- where the run with this old lock and this source asked for these names
abbrev pub problem_of : ManifestView → Content → List ℕ → List Asked → Problem
problem_of manifest old source asked = problem_over manifest source (candidates_by_name old source asked)

-- over a loaded index
abbrev pub problem_in : ManifestView → CatalogueView → Problem
problem_in manifest index = problem_over manifest index.source (rows_by_name index)

-- a whole run of the folder for this manifest, with this old lock and this source, gives what a selection is held
-- against
pub record IsProblemOfRun {S : Type 0} (calls : Calls S) (before : S) (manifest : ManifestView) (old : Content)
    (source : List ℕ) (q : Problem) (after : S) : Type 0 where
  pub asked : List Asked
  pub run : IsRun old source manifest.brings.dependencies calls before asked after
  pub is : q ≡ problem_of manifest old source asked

-- ---- Preference.

-- of candidates that stand oldest first, those of a rank, newest first
abbrev pub of_rank : Rank → List Ranked → List Record
of_rank rank cs = reverse (records (filter (λ c. same_rank c.1 rank) cs))

-- the candidates in the order of preference: the locked ones, then those that fit, then the rest, each newest first
abbrev pub by_rank : List Ranked → List Record
by_rank cs = of_rank Locked cs ++ (of_rank Fits cs ++ of_rank Rest cs)

-- the candidates by name, the most preferred first
abbrev pub preferred_in : CatalogueView → List (List ℕ × List Candidate)
preferred_in index = map (λ row. (row.0, map as_candidate (by_rank row.1))) index.rows

-- ---- Over a fixed index.

-- a run over a fixed index, which has these files by the names of their packages
pub record IsRunOver (files : List ℕ → Option (List ℕ)) (manifest : ManifestView) (old : Content) (source : List ℕ)
    (asked : List Asked) : Type 0 where
  pub answers : All (λ a. a.1 ≡ files a.0) asked
  pub in_turn : AreNext old source manifest.brings.dependencies [] asked
  pub ended : next_name old source manifest.brings.dependencies asked ≡ None

-- over a fixed index, another lock has each package of the content that is yanked there
abbrev pub KeepsYanked : (List ℕ → Option (List ℕ)) → List ℕ → Content → Content → Type 0
KeepsYanked files source content lock = (p : Package) (r : Record) → Contains content p → p.source ≡ Some source
    → Contains (records_of (p.name, files p.name)) r → r.version ≡ p.version → r.yanked ≡ true
    → is_locked lock source p.name p.version ≡ true
