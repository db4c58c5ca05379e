-- Where dependencies lead in the states that a search ended in, as places among the candidates of their names.
use Rattle.std.specs.Prelude.{◌≡◌, ◌≤◌, ℕ, List, Option, Some, None, length, slice_get}
use Rattle.incompatibilities.specs.Incompatibilities.{Assignment}
use Rattle.propagation.specs.Satisfaction.{Agrees}
use Rattle.propagation.specs.Trails.{TrailView}
use Rattle.semver.specs.Parse.{Parts}
use Rattle.model.specs.Summary.{Dependency}
use Rattle.model.specs.Content.{Candidate, Content, Problem, candidates_of}
use Rattle.model.specs.Selection.{Class}
use Rattle.model.specs.Vertices.{Owner, version_of, Vertex, State, absent, present, version, in_class}
use Rattle.model.specs.inner.Search.{IsUnbroken, LeadsTo}
use Rattle.catalogue.specs.Stores.{CatalogueView, rows_by_name}
use Rattle.selection.specs.inner.Contents.{candidate_owner, owners_of}
use Rattle.selection.specs.declared.met.MetVersion.{MetVersion}
use Rattle.numbering.specs.inner.Assignments.{IsOf, state_of}
use Rattle.numbering.specs.inner.KnownProblem.{problem}
use Rattle.numbering.specs.Numberings.{Numbering}
use Rattle.numbering.specs.declared.known_problem.KnownProblem.{KnownProblem}
use Rattle.guiding.specs.inner.Guides.{IsDone, final_of}

-- the states of vertices at the end
abbrev pub ends : KnownProblem → Numbering → TrailView → Vertex → State
ends i vs t = state_of (problem i) vs (final_of t)

-- the states that a content gives to vertices with numbers are left, alone where absent isn't left
pub record IsLeft (q : Problem) (vs : Numbering) (content : Content) (t : TrailView) : Type 0 where
  pub alone : IsDone t
  pub agrees : (x : Assignment) → IsOf q vs content x → Agrees x t.sets

-- no instance is broken at the end, and each vertex with a number is on the trail
pub record HasEnded (i : KnownProblem) (vs : Numbering) (t : TrailView) : Type 0 where
  pub unbroken : IsUnbroken (problem i) (ends i vs t)
  pub whole : length vs ≤ length t.sets

-- ---- states of dependencies and of packages

abbrev pub class_if : State → Option Class
class_if absent = None
class_if present = None
class_if (version v) = None
class_if (in_class k) = Some k

abbrev pub version_if : State → Option Parts
version_if absent = None
version_if present = None
version_if (version v) = Some v
version_if (in_class k) = None

-- ---- where dependencies lead

module _ (q : Problem) (state : Vertex → State) (index : CatalogueView) (o : Owner) where
  -- dependency number i of the owner leads to the candidate at this place, or nowhere
  abbrev pub IsLed : ℕ → Dependency → Option ℕ → Type 0
  IsLed i d None = (t : Owner) → LeadsTo q state o i d t → ⊥
  IsLed i d (Some p) = (c : Candidate) × (slice_get (candidates_of (rows_by_name index) d.real_name) p ≡ Some c)
      × LeadsTo q state o i d (version_of d.real_name c.version)

  -- by number, where the dependencies of the owner lead
  pub record AreLed (ds : List Dependency) (places : List (Option ℕ)) : Type 0 where
    pub as_many : length places ≡ length ds
    pub led : (i : ℕ) (d : Dependency) (p : Option ℕ) → slice_get ds i ≡ Some d
        → slice_get places i ≡ Some p → IsLed i d p

-- ---- where that is among those that were met

module _ (index : CatalogueView) where
  -- a candidate stands at each of these places
  abbrev pub AreThere : List Dependency → List (Option ℕ) → Type 0
  AreThere ds places = (i : ℕ) (d : Dependency) (p : ℕ) → slice_get ds i ≡ Some d → slice_get places i ≡ Some (Some p)
      → (c : Candidate) × (slice_get (candidates_of (rows_by_name index) d.real_name) p ≡ Some c)

  module _ (versions : List MetVersion) where
    -- the candidate at a place of the name's is the version that was met there
    abbrev pub IsPut : List ℕ → Option ℕ → Option ℕ → Type 0
    IsPut name None None = Unit {0}
    IsPut name None (Some n) = ⊥
    IsPut name (Some p) None = ⊥
    IsPut name (Some p) (Some n) = slice_get (owners_of index versions) n ≡ Some (candidate_owner index name p)

    pub record ArePut (ds : List Dependency) (places targets : List (Option ℕ)) : Type 0 where
      pub as_many : length targets ≡ length ds
      pub put : (i : ℕ) (d : Dependency) (p target : Option ℕ) → slice_get ds i ≡ Some d → slice_get places i ≡ Some p
          → slice_get targets i ≡ Some target
          → IsPut d.real_name p target
