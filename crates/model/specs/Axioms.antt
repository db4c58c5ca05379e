-- The axioms: what an assignment of the vertices must not be, if it is to stand for a valid selection
-- (incompatibilities in Dart pub's `solver.md`; these kinds are this project's).
use Rattle.std.specs.Prelude.{◌≡◌, ◌≢◌, ◌⊎◌, ℕ, List, [], ◌∷◌, Bool, true, false, not, Some, slice_get, map, filter}
use Rattle.std.specs.Prelude.{Contains, nat_lt, ⊤}
use Rattle.std.specs.List.{list_any, list_all, AllByRecursion}
use Rattle.semver.specs.Parse.{Parts}
use Rattle.semver.specs.EvalViews.{matches_views}
use Rattle.model.specs.Summary.{Dependency, Entry, feature, dependency, dependency_feature, weak_feature, entries_at}
use Rattle.model.specs.Summary.{has_feature, asked_of_target}
use Rattle.model.specs.Content.{Candidate, Problem, candidates_of}
use Rattle.model.specs.Selection.{Class, patch, minor, major, class_of}
use Rattle.model.specs.Vertices.{Owner, the_root, version_of, Vertex, root, pkg, dep, feat, ask, State, absent, present}
use Rattle.model.specs.Vertices.{version, in_class, has_state, same_vertex, owner_brings, dep_classes, class_candidates}
use Rattle.model.specs.Vertices.{space}

-- ---- Terms.

-- a vertex and a set of its states
pub record Term : Type 0 where
  pub vertex : Vertex
  pub states : List State

abbrev pub at : Vertex → List State → Term
at v ss = record { vertex = v; states = ss }

-- What an assignment of states to vertices does: it breaks the terms if each of them holds in it.
module _ (Assigns : Vertex → State → Type 0) where
  -- the vertex has one of these states
  abbrev pub HasOneOf : Vertex → List State → Type 0
  HasOneOf v ss = (s : State) × Assigns v s × (has_state ss s ≡ true)

  abbrev pub IsBroken : List Term → Type 0
  IsBroken ts = AllByRecursion (λ t. HasOneOf t.vertex t.states) ts

-- the terms speak of different vertices
abbrev pub AreApart : List Term → Type 0
AreApart [] = ⊤
AreApart (t ∷ ts) = AllByRecursion (λ u. same_vertex t.vertex u.vertex ≡ false) ts × AreApart ts

-- ---- The kinds, and what is an instance of each.

pub data Kind : Type 0 where
  Root : Kind
  Needed : Kind
  Target : Kind
  HasFeature : Kind
  WantsFeature : Kind
  FeatureOnFeature : Kind
  FeatureOnDependency : Kind
  FeatureAsks : Kind
  NewestListed : Kind
  WeakFeature : Kind

-- the class comes before the other, as their versions do
abbrev pub is_lower : Class → Class → Bool
is_lower (patch a) (patch b) = nat_lt a b
is_lower (patch a) _ = true
is_lower (minor a) (patch b) = false
is_lower (minor a) (minor b) = nat_lt a b
is_lower (minor a) (major b) = true
is_lower (major a) (major b) = nat_lt a b
is_lower (major a) _ = false

-- the term that says that the owner counts
abbrev pub owner_holds : Owner → Term
owner_holds the_root = at root (present ∷ [])
owner_holds (version_of name v) = at (pkg name (class_of v)) (version v ∷ [])

abbrev pub matched : Dependency → Candidate → Bool
matched d c = matches_views d.requirement c.version

-- whether the owner needs the dependency: the root each one, a candidate those that aren't optional
abbrev pub IsNeeded : Owner → Dependency → Type 0
IsNeeded the_root d = Unit {0}
IsNeeded (version_of name v) d = d.optional ≡ false

module _ (q : Problem) where
  -- the root, or a candidate
  abbrev pub IsOwner : Owner → Type 0
  IsOwner the_root = Unit {0}
  IsOwner (version_of name v) = (c : Candidate) × Contains (candidates_of q.candidates name) c × (c.version ≡ v)

  abbrev pub HasDep : Owner → ℕ → Dependency → Type 0
  HasDep o i d = IsOwner o × (slice_get (owner_brings q o).dependencies i ≡ Some d)

  abbrev pub HasClass : Dependency → Class → Type 0
  HasClass d k = Contains (dep_classes q d) k

  -- the feature f of the version has this entry
  abbrev pub HasEntry : List ℕ → Parts → List ℕ → Entry → Type 0
  HasEntry name v f e = IsOwner (version_of name v) × (es : List Entry)
      × (entries_at f (owner_brings q (version_of name v)).features ≡ Some es) × Contains es e

  -- absent, and the versions of the class that pass the test
  abbrev pub absent_or : (Candidate → Bool) → List ℕ → Class → List State
  absent_or test name k = absent ∷ map (λ c. version c.version) (filter test (class_candidates q name k))

  abbrev pub versions_that : (Candidate → Bool) → List ℕ → Class → List State
  versions_that test name k = map (λ c. version c.version) (filter test (class_candidates q name k))

  -- what the root's dependency called d is asked for by entries, beside its own list
  abbrev pub RootAsks : Owner → Dependency → List ℕ → Type 0
  RootAsks the_root d g = Contains q.root_asks (d.name, g)
  RootAsks (version_of name v) d g = ⊥

  -- a feature that some candidate has or that some dependency asks for: where the vertex `feat name k f` is
  pub data HasFeatVertex : List ℕ → Class → List ℕ → Type 0 where
    had : (name : List ℕ) (k : Class) (f : List ℕ) (c e : Candidate) → Contains (candidates_of q.candidates name) c
        → Contains (class_candidates q name k) e → has_feature c.brings.features f ≡ true → HasFeatVertex name k f
    asked : (o : Owner) (i : ℕ) (d : Dependency) (k : Class) (f : List ℕ) (e : Candidate) → HasDep o i d
        → Contains (class_candidates q d.real_name k) e → Contains (asked_of_target d) f ⊎ RootAsks o d f
        → HasFeatVertex d.real_name k f
    by_entry : (name : List ℕ) (v : Parts) (i : ℕ) (d : Dependency) (k : Class) (f g : List ℕ) (e : Candidate)
        → HasDep (version_of name v) i d
        → Contains (class_candidates q d.real_name k) e
        → HasEntry name v f (dependency_feature d.name g) ⊎ HasEntry name v f (weak_feature d.name g)
        → HasFeatVertex d.real_name k g

  -- the vertices of the search
  abbrev pub IsVertex : Vertex → Type 0
  IsVertex root = Unit {0}
  IsVertex (pkg name k) = (c : Candidate) × Contains (class_candidates q name k) c
  IsVertex (dep o i) = (d : Dependency) × HasDep o i d
  IsVertex (feat name k f) = HasFeatVertex name k f
  IsVertex (ask name v i g) =
      (d : Dependency) × (f : List ℕ) × HasDep (version_of name v) i d × HasEntry name v f (dependency_feature d.name g)

  -- The terms of an instance, before full ones are dropped.
  pub data IsInstance : Kind → List Term → Type 0 where
    root_is : IsInstance Root (at root (absent ∷ []) ∷ [])
    needed : (o : Owner) (i : ℕ) (d : Dependency) → HasDep o i d → IsNeeded o d
        → IsInstance Needed (owner_holds o ∷ at (dep o i) (absent ∷ []) ∷ [])
    has_target : (o : Owner) (i : ℕ) (d : Dependency) (k : Class) → HasDep o i d → HasClass d k
        → IsInstance Target (at (dep o i) (in_class k ∷ [])
        ∷ at (pkg d.real_name k) (absent_or (λ c. not (matched d c)) d.real_name k) ∷ [])
    has_its_feature : (name : List ℕ) (k : Class) (f : List ℕ) → HasFeatVertex name k f
        → IsInstance HasFeature (at (feat name k f) (present ∷ [])
        ∷ at (pkg name k) (absent_or (λ c. not (has_feature c.brings.features f)) name k) ∷ [])
    wants_by_list : (o : Owner) (i : ℕ) (d : Dependency) (k : Class) (g : List ℕ) → HasDep o i d → HasClass d k
        → Contains (asked_of_target d) g ⊎ RootAsks o d g
        → IsInstance WantsFeature (at (dep o i) (in_class k ∷ []) ∷ at (feat d.real_name k g) (absent ∷ []) ∷ [])
    wants_by_entry : (name : List ℕ) (v : Parts) (i : ℕ) (d : Dependency) (k : Class) (f g : List ℕ)
        → HasDep (version_of name v) i d → HasClass d k
        → HasEntry name v f (dependency_feature d.name g)
        → IsInstance WantsFeature (at (ask name v i g) (present ∷ []) ∷ at (dep (version_of name v) i) (in_class k ∷ [])
        ∷ at (feat d.real_name k g) (absent ∷ []) ∷ [])
    feature_on : (name : List ℕ) (v : Parts) (f g : List ℕ) → HasEntry name v f (feature g) → f ≢ g
        → IsInstance FeatureOnFeature (at (pkg name (class_of v)) (version v ∷ [])
        ∷ at (feat name (class_of v) f) (present ∷ []) ∷ at (feat name (class_of v) g) (absent ∷ []) ∷ [])
    dependency_on : (name : List ℕ) (v : Parts) (i : ℕ) (d : Dependency) (f : List ℕ) → HasDep (version_of name v) i d
        → HasEntry name v f (dependency d.name) ⊎ ((g : List ℕ) × HasEntry name v f (dependency_feature d.name g))
        → IsInstance FeatureOnDependency (at (pkg name (class_of v)) (version v ∷ [])
        ∷ at (feat name (class_of v) f) (present ∷ []) ∷ at (dep (version_of name v) i) (absent ∷ []) ∷ [])
    feature_asks : (name : List ℕ) (v : Parts) (i : ℕ) (d : Dependency) (f g : List ℕ) → HasDep (version_of name v) i d
        → HasEntry name v f (dependency_feature d.name g)
        → IsInstance FeatureAsks (at (pkg name (class_of v)) (version v ∷ [])
        ∷ at (feat name (class_of v) f) (present ∷ []) ∷ at (ask name v i g) (absent ∷ []) ∷ [])
    newest_listed : (o : Owner) (i j : ℕ) (d e : Dependency) (k m : Class) → i ≢ j → HasDep o i d → HasDep o j e
        → d.real_name ≡ e.real_name
        → HasClass d k → HasClass e m → is_lower k m ≡ true
        → list_any (matched d) (class_candidates q d.real_name m) ≡ true
        → IsInstance NewestListed (at (dep o i) (in_class k ∷ []) ∷ at (dep o j) (in_class m ∷ [])
        ∷ at (pkg d.real_name m) (versions_that (matched d) d.real_name m) ∷ [])
    weakly : (name : List ℕ) (v : Parts) (i : ℕ) (d : Dependency) (k : Class) (f g : List ℕ)
        → HasDep (version_of name v) i d → HasClass d k
        → HasEntry name v f (weak_feature d.name g) → feat name (class_of v) f ≢ feat d.real_name k g
        → IsInstance WeakFeature
        (at (pkg name (class_of v)) (version v ∷ []) ∷ at (feat name (class_of v) f) (present ∷ [])
        ∷ at (dep (version_of name v) i) (in_class k ∷ []) ∷ at (feat d.real_name k g) (absent ∷ []) ∷ [])

  -- all states of the vertex are among these
  abbrev pub is_full : Term → Bool
  is_full t = list_all (has_state t.states) (space q t.vertex)

  abbrev pub without_full : List Term → List Term
  without_full ts = filter (λ t. not (is_full t)) ts
