-- The assignment of a content: the state that each vertex of the search has in it (this project's). It is a relation,
-- since which features are on is one. It is the only bridge between what a valid selection is and the search.
use Rattle.std.specs.Prelude.{◌≡◌, ◌⊎◌, ℕ, List, Some, slice_get}
use Rattle.semver.specs.Parse.{Parts}
use Rattle.model.specs.Summary.{Dependency, dependency_feature}
use Rattle.model.specs.Selection.{on, Class, class_of, IsFact, IsEnabled, HasTarget, IsRootAt, IsOther}
use Rattle.model.specs.Content.{Package, Content, Problem, summary_at}
use Rattle.model.specs.Vertices.{Owner, the_root, version_of, Vertex, root, pkg, dep, feat, ask, State, absent, present}
use Rattle.model.specs.Vertices.{version, in_class}
use Rattle.model.specs.Axioms.{Term, HasOneOf, IsBroken, HasEntry}

module _ (q : Problem) (content : Content) where
  -- the package at this place is the locked version of the name and class
  pub record Locks (name : List ℕ) (k : Class) (n : ℕ) (p : Package) : Type 0 where
    pub other : IsOther q content n p
    pub named : p.name ≡ name
    pub classed : class_of p.version ≡ k

  -- the package at place n is this owner
  abbrev pub IsOwnerAt : Owner → ℕ → Type 0
  IsOwnerAt the_root n = IsRootAt q content n
  IsOwnerAt (version_of name v) n = (p : Package) × Locks name (class_of v) n p × (p.version ≡ v)

  -- the owner's dependency number i is enabled, and its target is p at place t
  pub record Leads (o : Owner) (i n t : ℕ) (d : Dependency) (p : Package) : Type 0 where
    pub owner : IsOwnerAt o n
    pub enabled : IsEnabled q content n i d
    pub target : HasTarget q content n d t
    pub served : slice_get content t ≡ Some p

  -- an entry `d/g` of a feature that is on at the owner asks through its dependency number i, which is d
  pub record Asks (name : List ℕ) (v : Parts) (i : ℕ) (g : List ℕ) (n : ℕ) (d : Dependency) (f : List ℕ) : Type 0 where
    pub owner : IsOwnerAt (version_of name v) n
    pub dependency : slice_get (summary_at q content n).dependencies i ≡ Some d
    pub is_on : IsFact q content (on n f)
    pub entry : HasEntry q name v f (dependency_feature d.name g)

  -- what makes a vertex have a state other than absent
  abbrev pub Has : Vertex → State → Type 0
  Has root s = s ≡ present
  Has (pkg name k) s = (n : ℕ) × (p : Package) × Locks name k n p × (s ≡ version p.version)
  Has (dep o i) s =
      (n : ℕ) × (t : ℕ) × (d : Dependency) × (p : Package) × Leads o i n t d p × (s ≡ in_class (class_of p.version))
  Has (feat name k f) s = (n : ℕ) × (p : Package) × Locks name k n p × IsFact q content (on n f) × (s ≡ present)
  Has (ask name v i g) s = (n : ℕ) × (d : Dependency) × (f : List ℕ) × Asks name v i g n d f × (s ≡ present)

  -- the state of a vertex in the content
  abbrev pub Assigns : Vertex → State → Type 0
  Assigns v s = Has v s ⊎ ((s ≡ absent) × ((r : State) → Has v r → ⊥))

  abbrev pub Meets : Vertex → List State → Type 0
  Meets v ss = HasOneOf Assigns v ss

  -- the content breaks the incompatibility: every term has its vertex's state in it
  abbrev pub Breaks : List Term → Type 0
  Breaks ts = IsBroken Assigns ts
