-- Owners, the vertices of the search, and the states that each may have (packages and versions in Dart pub's
-- `solver.md`; the rest is this project's).
use Rattle.std.specs.Prelude.{ℕ, List, [], ◌∷◌, Bool, true, false, ◌&&◌, if◌then◌else◌, Option, Some, None, nat_eq}
use Rattle.std.specs.Prelude.{slice_get, map, filter}
use Rattle.std.specs.List.{list_any}
use Rattle.semver.specs.Parse.{Parts}
use Rattle.semver.specs.EvalViews.{matches_views}
use Rattle.model.specs.Summary.{Summary, Dependency, same_text}
use Rattle.model.specs.Content.{Candidate, Problem, candidates_of, candidate_at, brings_of, same_version}
use Rattle.model.specs.Selection.{Class, patch, minor, major, class_of}

-- the root, or a version of a package
pub data Owner : Type 0 where
  the_root : Owner
  version_of : List ℕ → Parts → Owner

pub data Vertex : Type 0 where
  root : Vertex
  -- a name and a class of it
  pkg : List ℕ → Class → Vertex
  -- an owner and the number of one of its dependencies
  dep : Owner → ℕ → Vertex
  -- a name, a class of it and a feature
  feat : List ℕ → Class → List ℕ → Vertex
  -- a version, the number of one of its dependencies and a feature that an entry `d/g` asks there
  ask : List ℕ → Parts → ℕ → List ℕ → Vertex

pub data State : Type 0 where
  absent : State
  present : State
  version : Parts → State
  in_class : Class → State

abbrev pub same_class : Class → Class → Bool
same_class (patch a) (patch b) = nat_eq a b
same_class (minor a) (minor b) = nat_eq a b
same_class (major a) (major b) = nat_eq a b
same_class _ _ = false

abbrev pub same_state : State → State → Bool
same_state absent absent = true
same_state present present = true
same_state (version a) (version b) = same_version a b
same_state (in_class a) (in_class b) = same_class a b
same_state _ _ = false

-- the state is one of these
abbrev pub has_state : List State → State → Bool
has_state ss s = list_any (same_state s) ss

abbrev pub same_owner : Owner → Owner → Bool
same_owner the_root the_root = true
same_owner (version_of n v) (version_of m w) = same_text n m && same_version v w
same_owner _ _ = false

abbrev pub same_vertex : Vertex → Vertex → Bool
same_vertex root root = true
same_vertex (pkg n c) (pkg m e) = same_text n m && same_class c e
same_vertex (dep o i) (dep p j) = same_owner o p && nat_eq i j
same_vertex (feat n c f) (feat m e g) = same_text n m && same_class c e && same_text f g
same_vertex (ask n v i g) (ask m w j h) = same_text n m && same_version v w && nat_eq i j && same_text g h
same_vertex _ _ = false

-- a class before others, unless it is among them
abbrev pub add_class : Class → List Class → List Class
add_class c cs = if list_any (same_class c) cs then cs else c ∷ cs

-- the classes of candidates, each once
abbrev pub classes_of : List Candidate → List Class
classes_of [] = []
classes_of (c ∷ cs) = add_class (class_of c.version) (classes_of cs)

abbrev pub in_that_class : Class → Candidate → Bool
in_that_class k c = same_class k (class_of c.version)

module _ (q : Problem) where
  -- what an owner brings
  abbrev pub owner_brings : Owner → Summary
  owner_brings the_root = q.brings
  owner_brings (version_of name v) = brings_of (candidate_at (candidates_of q.candidates name) v)

  -- the candidates of a name that a requirement matches
  abbrev pub matching : Dependency → List Candidate
  matching d = filter (λ c. matches_views d.requirement c.version) (candidates_of q.candidates d.real_name)

  -- the classes in which some candidate matches
  abbrev pub dep_classes : Dependency → List Class
  dep_classes d = classes_of (matching d)

  -- the candidates of a name and class
  abbrev pub class_candidates : List ℕ → Class → List Candidate
  class_candidates name k = filter (in_that_class k) (candidates_of q.candidates name)

  -- a dependency that isn't there can only be absent
  abbrev pub dep_space : Option Dependency → List State
  dep_space None = absent ∷ []
  dep_space (Some d) = absent ∷ map in_class (dep_classes d)

  -- the states of a vertex
  abbrev pub space : Vertex → List State
  space root = absent ∷ present ∷ []
  space (pkg name k) = absent ∷ map (λ c. version c.version) (class_candidates name k)
  space (dep o i) = dep_space (slice_get (owner_brings o).dependencies i)
  space (feat n c f) = absent ∷ present ∷ []
  space (ask n v i g) = absent ∷ present ∷ []
