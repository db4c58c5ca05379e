-- What an assignment of the search says, if it breaks no instance of an axiom: the part of it that the root reaches
-- (this project's; a partial solution in Dart pub's `solver.md`).
use Rattle.std.specs.Prelude.{◌≡◌, ◌≢◌, ◌⊎◌, ℕ, List, true, ⊤}
use Rattle.semver.specs.Parse.{Parts}
use Rattle.model.specs.Summary.{Dependency, dependency_feature}
use Rattle.model.specs.Selection.{Fact, here, on, enabled, Brings, Lists, Class, class_of}
use Rattle.model.specs.Content.{Problem}
use Rattle.model.specs.Vertices.{Owner, the_root, version_of, Vertex, root, pkg, dep, feat, ask, State, absent, present}
use Rattle.model.specs.Vertices.{version, in_class, has_state, owner_brings, space}
use Rattle.model.specs.Walk as reached
use Rattle.model.specs.Axioms.{Kind, Term, IsBroken, IsInstance}

module _ (q : Problem) (state : Vertex → State) where
  -- it gives each vertex a state of its space, and breaks no instance
  pub record IsUnbroken : Type 0 where
    pub within : (v : Vertex) → has_state (space q v) (state v) ≡ true
    pub unbroken : (k : Kind) (ts : List Term) → IsInstance q k ts → IsBroken (λ v s. state v ≡ s) ts → ⊥

  -- where a dependency leads: to the version that the assignment gives to its name and class
  pub record LeadsTo (n : Owner) (i : ℕ) (d : Dependency) (t : Owner) : Type 0 where
    pub k : Class
    pub v : Parts
    pub chosen : state (dep n i) ≡ in_class k
    pub locked : state (pkg d.real_name k) ≡ version v
    pub target : t ≡ version_of d.real_name v

  abbrev pub IsTheRoot : Owner → Type 0
  IsTheRoot n = n ≡ the_root

  -- the facts that the root reaches in the assignment
  abbrev pub IsReachedFact : Fact Owner → Type 0
  IsReachedFact = reached.IsReachedFact q LeadsTo

  abbrev pub IsPresent : Owner → Type 0
  IsPresent the_root = ⊤
  IsPresent (version_of name v) = state (pkg name (class_of v)) ≡ version v

  -- nothing asks the root for a feature
  abbrev pub IsOn : Owner → List ℕ → Type 0
  IsOn the_root f = ⊥
  IsOn (version_of name v) f =
      (state (pkg name (class_of v)) ≡ version v) × (state (feat name (class_of v) f) ≡ present)

  -- what the assignment has to say where a fact holds
  abbrev pub SaysOfFact : Fact Owner → Type 0
  SaysOfFact (here n) = IsPresent n
  SaysOfFact (on n f) = IsOn n f
  SaysOfFact (enabled n i) = IsPresent n × (state (dep n i) ≢ absent)

  -- what the root reaches, as vertices: its own one, and those of the facts that it reaches
  abbrev pub IsReachedVertex : Vertex → Type 0
  IsReachedVertex root = ⊤
  IsReachedVertex (pkg name k) = (v : Parts) × IsReachedFact (here (version_of name v)) × (class_of v ≡ k)
  IsReachedVertex (dep o i) = IsReachedFact (enabled o i)
  IsReachedVertex (feat name k f) = (v : Parts) × IsReachedFact (on (version_of name v) f) × (class_of v ≡ k)
  IsReachedVertex (ask name v i g) = (d : Dependency) × (f : List ℕ) × IsReachedFact (on (version_of name v) f)
      × Brings (owner_brings q) (version_of name v) i d
      × Lists (owner_brings q) (version_of name v) f (dependency_feature d.name g)

  -- the assignment cut down to what the root reaches: there a vertex keeps its state, and each other one is absent
  abbrev pub AssignsReached : Vertex → State → Type 0
  AssignsReached v s = (IsReachedVertex v × (s ≡ state v)) ⊎ ((s ≡ absent) × (IsReachedVertex v → ⊥))
