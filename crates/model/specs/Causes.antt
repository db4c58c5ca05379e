-- What gives rise to an instance of an axiom. A cause says it by names and numbers, so that it can be looked up (these
-- kinds are this project's; incompatibilities in Dart pub's `solver.md`).
use Rattle.std.specs.Prelude.{ℕ, List, [], ◌∷◌, Bool, true, false, not, ◌&&◌, ◌||◌, Option, Some, None, nat_eq}
use Rattle.std.specs.Prelude.{slice_get, map}
use Rattle.std.specs.List.{list_any, flat_map}
use Rattle.semver.specs.Parse.{Parts}
use Rattle.model.specs.Summary.{Dependency, Entry, feature, dependency, dependency_feature, weak_feature, Table}
use Rattle.model.specs.Summary.{entries_at, has_feature, asked_of_target, same_text}
use Rattle.model.specs.Content.{Candidate, Problem, candidates_of, passes}
use Rattle.model.specs.Selection.{Class, class_of}
use Rattle.model.specs.Vertices.{Owner, the_root, version_of, root, pkg, dep, feat, ask, absent, present, version}
use Rattle.model.specs.Vertices.{in_class, same_vertex, owner_brings, class_candidates}
use Rattle.model.specs.Axioms.{Term, at, Kind, Root, Needed, Target, HasFeature, WantsFeature, FeatureOnFeature}
use Rattle.model.specs.Axioms.{FeatureOnDependency, FeatureAsks, NewestListed, WeakFeature, is_lower, owner_holds}
use Rattle.model.specs.Axioms.{matched, absent_or, versions_that}

pub data Cause : Type 0 where
  of_root : Cause
  -- an owner, and the number of a dependency that it needs
  of_need : Owner → ℕ → Cause
  -- a dependency of an owner, and a class that it may lead to
  of_target : Owner → ℕ → Class → Cause
  -- a feature that is asked of a class
  of_feature : List ℕ → Class → List ℕ → Cause
  -- a dependency of an owner, a class that it may lead to, and a feature that it asks for by its list
  of_list : Owner → ℕ → Class → List ℕ → Cause
  -- the same, where an entry `d/g` of the version asks for g
  of_ask : List ℕ → Parts → ℕ → List ℕ → Class → Cause
  -- an entry `g` of a version's feature f
  of_entry : List ℕ → Parts → List ℕ → List ℕ → Cause
  -- an entry of a version's feature f that enables a dependency
  of_enabling : List ℕ → Parts → List ℕ → Entry → ℕ → Cause
  -- an entry `d/g` of a version's feature f, and a dependency called d
  of_asking : List ℕ → Parts → List ℕ → List ℕ → ℕ → Cause
  -- two dependencies of an owner, and a class for each
  of_newest : Owner → ℕ → ℕ → Class → Class → Cause
  -- an entry `d?/g` of a version's feature f, a dependency called d, and a class that it may lead to
  of_weak : List ℕ → Parts → List ℕ → List ℕ → ℕ → Class → Cause

abbrev pub kind_of : Cause → Kind
kind_of of_root = Root
kind_of (of_need o i) = Needed
kind_of (of_target o i k) = Target
kind_of (of_feature name k f) = HasFeature
kind_of (of_list o i k g) = WantsFeature
kind_of (of_ask name v i g k) = WantsFeature
kind_of (of_entry name v f g) = FeatureOnFeature
kind_of (of_enabling name v f e i) = FeatureOnDependency
kind_of (of_asking name v f g i) = FeatureAsks
kind_of (of_newest o i j k m) = NewestListed
kind_of (of_weak name v f g i k) = WeakFeature

-- ---- tests of what a cause names

abbrev pub same_entry : Entry → Entry → Bool
same_entry (feature g) (feature h) = same_text g h
same_entry (dependency d) (dependency e) = same_text d e
same_entry (dependency_feature d g) (dependency_feature e h) = same_text d e && same_text g h
same_entry (weak_feature d g) (weak_feature e h) = same_text d e && same_text g h
same_entry _ _ = false

-- entries `dep:d` and `d/g` enable d
abbrev pub enables : List ℕ → Entry → Bool
enables d (feature g) = false
enables d (dependency e) = same_text d e
enables d (dependency_feature e g) = same_text d e
enables d (weak_feature e g) = false

-- entries `d/g` and `d?/g` ask d for g
abbrev pub asks_for : List ℕ → List ℕ → Entry → Bool
asks_for d g (feature h) = false
asks_for d g (dependency e) = false
asks_for d g (dependency_feature e h) = same_text d e && same_text g h
asks_for d g (weak_feature e h) = same_text d e && same_text g h

abbrev pub entries_or_none : Option (List Entry) → List Entry
entries_or_none None = []
entries_or_none (Some es) = es

-- whether the owner needs the dependency
abbrev pub is_needed : Owner → Dependency → Bool
is_needed the_root d = true
is_needed (version_of name v) d = not d.optional

abbrev pub same_pair : List ℕ × List ℕ → List ℕ × List ℕ → Bool
same_pair a b = same_text a.0 b.0 && same_text a.1 b.1

-- the terms that a dependency gives, if it is there
abbrev pub terms_with : (Dependency → List Term) → Option Dependency → List Term
terms_with terms None = []
terms_with terms (Some d) = terms d

-- the version is chosen, and the feature is on there
abbrev pub feature_holds : List ℕ → Parts → List ℕ → List Term → List Term
feature_holds name v f ts =
    at (pkg name (class_of v)) (version v ∷ []) ∷ at (feat name (class_of v) f) (present ∷ []) ∷ ts

-- the candidates by their names and versions
abbrev pub owners_in : List (List ℕ × List Candidate) → List Owner
owners_in rows = flat_map (λ row. map (λ c. version_of row.0 c.version) row.1) rows

module _ (q : Problem) where
  abbrev pub dependency_at : Owner → ℕ → Option Dependency
  dependency_at o i = slice_get (owner_brings q o).dependencies i

  -- some candidate of the class is matched
  abbrev pub has_class : Class → Dependency → Bool
  has_class k d = list_any (matched d) (class_candidates q d.real_name k)

  -- no candidate is
  abbrev pub is_unmatched : Dependency → Bool
  is_unmatched d = not (list_any (matched d) (candidates_of q.candidates d.real_name))

  abbrev pub table_of_owner : Owner → Table
  table_of_owner o = (owner_brings q o).features

  -- the entries of a feature of a version
  abbrev pub entries_of : List ℕ → Parts → List ℕ → List Entry
  entries_of name v f = entries_or_none (entries_at f (table_of_owner (version_of name v)))

  abbrev pub has_entry : List ℕ → Parts → List ℕ → Entry → Bool
  has_entry name v f e = list_any (same_entry e) (entries_of name v f)

  -- some feature of the version has an entry that passes
  abbrev pub some_entry : (Entry → Bool) → List ℕ → Parts → Bool
  some_entry test name v =
      list_any (λ row. list_any test (entries_of name v row.0)) (table_of_owner (version_of name v))

  -- what the root's dependency is asked for by entries
  abbrev pub root_asks_for : Owner → Dependency → List ℕ → Bool
  root_asks_for the_root d g = list_any (same_pair (d.name, g)) q.root_asks
  root_asks_for (version_of name v) d g = false

  -- the dependency asks for the feature, by its list or an entry of the root
  abbrev pub lists_feature : Owner → Dependency → List ℕ → Bool
  lists_feature o d g = list_any (same_text g) (asked_of_target d) || root_asks_for o d g

  -- an entry of the version asks the dependency for the feature
  abbrev pub entry_asks : Owner → Dependency → List ℕ → Bool
  entry_asks the_root d g = false
  entry_asks (version_of name v) d g = some_entry (asks_for d.name g) name v

  -- the root and the candidates
  abbrev pub owners : List Owner
  owners = the_root ∷ owners_in q.candidates

  -- some dependency of the owner on this package asks for the feature
  abbrev pub owner_asks : List ℕ → List ℕ → Owner → Bool
  owner_asks name f o = list_any
      (λ d. same_text d.real_name name && (lists_feature o d f || entry_asks o d f)) (owner_brings q o).dependencies

  -- whether the vertex of the feature is there: a candidate is of the class, and some candidate has the feature or some
  -- dependency asks for it
  abbrev pub has_feature_vertex : List ℕ → Class → List ℕ → Bool
  has_feature_vertex name k f = list_any (λ c. true) (class_candidates q name k)
      && (list_any (λ c. has_feature c.brings.features f) (candidates_of q.candidates name)
      || list_any (owner_asks name f) owners)

  -- two dependencies on one package, of which the first matches a version of the higher class of the second
  abbrev pub is_overtaken : Class → Class → Dependency → Dependency → Bool
  is_overtaken k m d e =
      same_text d.real_name e.real_name && (has_class k d && (has_class m e && (is_lower k m && has_class m d)))

  -- an entry `d?/g` of the feature f of a version, whose two terms on features differ
  abbrev pub is_weak_on : List ℕ → Parts → List ℕ → List ℕ → Class → Dependency → Bool
  is_weak_on name v f g k d = has_class k d && (has_entry name v f (weak_feature d.name g)
      && not (same_vertex (feat name (class_of v) f) (feat d.real_name k g)))

  -- whether all that a cause names is there
  abbrev pub is_cause : Cause → Bool
  is_cause of_root = true
  is_cause (of_need o i) = passes (is_needed o) (dependency_at o i)
  is_cause (of_target o i k) = passes (has_class k) (dependency_at o i)
  is_cause (of_feature name k f) = has_feature_vertex name k f
  is_cause (of_list o i k g) = passes (λ d. has_class k d && lists_feature o d g) (dependency_at o i)
  is_cause (of_ask name v i g k) = passes (λ d. has_class k d
      && some_entry (same_entry (dependency_feature d.name g)) name v) (dependency_at (version_of name v) i)
  is_cause (of_entry name v f g) = has_entry name v f (feature g) && not (same_text f g)
  is_cause (of_enabling name v f e i) =
      has_entry name v f e && passes (λ d. enables d.name e) (dependency_at (version_of name v) i)
  is_cause (of_asking name v f g i) =
      passes (λ d. has_entry name v f (dependency_feature d.name g)) (dependency_at (version_of name v) i)
  is_cause (of_newest o i j k m) =
      not (nat_eq i j) && passes (λ d. passes (is_overtaken k m d) (dependency_at o j)) (dependency_at o i)
  is_cause (of_weak name v f g i k) = passes (is_weak_on name v f g k) (dependency_at (version_of name v) i)

  -- ---- the terms of the instance that a cause gives rise to

  abbrev pub terms_of_cause : Cause → List Term
  terms_of_cause of_root = at root (absent ∷ []) ∷ []
  terms_of_cause (of_need o i) = owner_holds o ∷ at (dep o i) (absent ∷ []) ∷ []
  terms_of_cause (of_target o i k) = terms_with (λ d.
      at (dep o i) (in_class k ∷ []) ∷ at (pkg d.real_name k) (absent_or q (λ c. not (matched d c)) d.real_name k)
      ∷ []) (dependency_at o i)
  terms_of_cause (of_feature name k f) =
      at (feat name k f) (present ∷ [])
      ∷ at (pkg name k) (absent_or q (λ c. not (has_feature c.brings.features f)) name k) ∷ []
  terms_of_cause (of_list o i k g) = terms_with
      (λ d. at (dep o i) (in_class k ∷ []) ∷ at (feat d.real_name k g) (absent ∷ []) ∷ []) (dependency_at o i)
  terms_of_cause (of_ask name v i g k) = terms_with (λ d.
      at (ask name v i g) (present ∷ []) ∷ at (dep (version_of name v) i) (in_class k ∷ [])
      ∷ at (feat d.real_name k g) (absent ∷ []) ∷ [])
      (dependency_at (version_of name v) i)
  terms_of_cause (of_entry name v f g) = feature_holds name v f (at (feat name (class_of v) g) (absent ∷ []) ∷ [])
  terms_of_cause (of_enabling name v f e i) = feature_holds name v f (at (dep (version_of name v) i) (absent ∷ []) ∷ [])
  terms_of_cause (of_asking name v f g i) = feature_holds name v f (at (ask name v i g) (absent ∷ []) ∷ [])
  terms_of_cause (of_newest o i j k m) = terms_with (λ d.
      at (dep o i) (in_class k ∷ []) ∷ at (dep o j) (in_class m ∷ [])
      ∷ at (pkg d.real_name m) (versions_that q (matched d) d.real_name m) ∷ []) (dependency_at o i)
  terms_of_cause (of_weak name v f g i k) = terms_with (λ d.
      feature_holds name v f (at (dep (version_of name v) i) (in_class k ∷ []) ∷ at (feat d.real_name k g) (absent ∷ [])
      ∷ [])) (dependency_at (version_of name v) i)
