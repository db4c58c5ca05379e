-- All causes of a problem, each once: what an encoding has to give (these kinds are this project's).
use Rattle.std.specs.Prelude.{ℕ, suc, List, [], ◌∷◌, ◌++◌, Bool, true, false, ◌&&◌, if◌then◌else◌, Option, Some, None}
use Rattle.std.specs.Prelude.{nat_eq, map, filter}
use Rattle.std.specs.List.{list_any, flat_map}
use Rattle.semver.specs.Parse.{Parts}
use Rattle.model.specs.Summary.{Dependency, Entry, feature, dependency, dependency_feature, weak_feature, Table}
use Rattle.model.specs.Summary.{asked_of_target, same_text}
use Rattle.model.specs.Content.{Problem, Candidate, candidates_of, same_version}
use Rattle.model.specs.Selection.{Class}
use Rattle.model.specs.Vertices.{Owner, the_root, version_of, same_class, same_owner, owner_brings, classes_of}
use Rattle.model.specs.Vertices.{dep_classes}
use Rattle.model.specs.Causes.{Cause, of_root, of_need, of_target, of_feature, of_list, of_ask, of_entry}
use Rattle.model.specs.Causes.{of_enabling, of_asking, of_newest, of_weak, same_entry, dependency_at, entries_of}
use Rattle.model.specs.Causes.{table_of_owner, owners, is_cause}

-- the elements without those that come again later
abbrev pub once : {X : Type 0} → (X → X → Bool) → List X → List X
once same [] = []
once same (x ∷ xs) = if list_any (same x) xs then once same xs else x ∷ once same xs

abbrev pub same_cause : Cause → Cause → Bool
same_cause of_root of_root = true
same_cause (of_need o i) (of_need p j) = same_owner o p && nat_eq i j
same_cause (of_target o i k) (of_target p j m) = same_owner o p && (nat_eq i j && same_class k m)
same_cause (of_feature n k f) (of_feature r m g) = same_text n r && (same_class k m && same_text f g)
same_cause (of_list o i k g) (of_list p j m h) = same_owner o p && (nat_eq i j && (same_class k m && same_text g h))
same_cause (of_ask n v i g k) (of_ask r w j h m) =
    same_text n r && (same_version v w && (nat_eq i j && (same_text g h && same_class k m)))
same_cause (of_entry n v f g) (of_entry r w e h) =
    same_text n r && (same_version v w && (same_text f e && same_text g h))
same_cause (of_enabling n v f e i) (of_enabling r w g x j) =
    same_text n r && (same_version v w && (same_text f g && (same_entry e x && nat_eq i j)))
same_cause (of_asking n v f g i) (of_asking r w e h j) =
    same_text n r && (same_version v w && (same_text f e && (same_text g h && nat_eq i j)))
same_cause (of_newest o i j k m) (of_newest p a b x y) =
    same_owner o p && (nat_eq i a && (nat_eq j b && (same_class k x && same_class m y)))
same_cause (of_weak n v f g i k) (of_weak r w e h j m) =
    same_text n r && (same_version v w && (same_text f e && (same_text g h && (nat_eq i j && same_class k m))))
same_cause _ _ = false

-- the places of a list
abbrev pub numbers : {X : Type 0} → List X → List ℕ
numbers [] = []
numbers (x ∷ xs) = 0 ∷ map suc (numbers xs)

-- the feature that an entry `d/g` or `d?/g` asks for
abbrev pub asked_by : Entry → List (List ℕ)
asked_by (feature g) = []
asked_by (dependency d) = []
asked_by (dependency_feature d g) = g ∷ []
asked_by (weak_feature d g) = g ∷ []

abbrev pub names_in : Table → List (List ℕ)
names_in table = map (λ row. row.0) table

-- the cause that an entry `g` is
abbrev pub turned_on : List ℕ → Parts → List ℕ → Entry → List Cause
turned_on name v f (feature g) = of_entry name v f g ∷ []
turned_on name v f _ = []

module _ (q : Problem) where
  abbrev pub numbers_of : Owner → List ℕ
  numbers_of o = numbers (owner_brings q o).dependencies

  abbrev pub classes_if : Option Dependency → List Class
  classes_if None = []
  classes_if (Some d) = dep_classes q d

  -- the classes that a dependency may lead to
  abbrev pub classes_at : Owner → ℕ → List Class
  classes_at o i = classes_if (dependency_at q o i)

  abbrev pub asked_if : Option Dependency → List (List ℕ)
  asked_if None = []
  asked_if (Some d) = asked_of_target d ++ map (λ p. p.1) q.root_asks

  -- ---- what may be a cause, owner by owner

  abbrev pub class_pool : Owner → ℕ → Class → List Cause
  class_pool o i k = of_target o i k ∷ (map (of_list o i k) (asked_if (dependency_at q o i))
      ++ flat_map (λ j. map (of_newest o i j k) (classes_at o j)) (numbers_of o))

  abbrev pub dep_pool : Owner → ℕ → List Cause
  dep_pool o i = of_need o i ∷ flat_map (class_pool o i) (classes_at o i)

  abbrev pub entry_pool : List ℕ → Parts → List ℕ → Entry → ℕ → List Cause
  entry_pool name v f (feature g) i = []
  entry_pool name v f (dependency d) i = of_enabling name v f (dependency d) i ∷ []
  entry_pool name v f (dependency_feature d g) i =
      of_enabling name v f (dependency_feature d g) i ∷ of_asking name v f g i
      ∷ map (of_ask name v i g) (classes_at (version_of name v) i)
  entry_pool name v f (weak_feature d g) i = map (of_weak name v f g i) (classes_at (version_of name v) i)

  abbrev pub feature_pool : List ℕ → Parts → List ℕ → List Cause
  feature_pool name v f = flat_map (λ e. turned_on name v f e
      ++ flat_map (entry_pool name v f e) (numbers_of (version_of name v))) (entries_of q name v f)

  abbrev pub version_pool : Owner → List Cause
  version_pool the_root = []
  version_pool (version_of name v) = flat_map (feature_pool name v) (names_in (table_of_owner q (version_of name v)))

  abbrev pub owner_pool : Owner → List Cause
  owner_pool o = flat_map (dep_pool o) (numbers_of o) ++ version_pool o

  -- ---- the features of classes

  abbrev pub entries_ask : Owner → List (List ℕ)
  entries_ask the_root = []
  entries_ask (version_of name v) =
      flat_map (λ f. flat_map asked_by (entries_of q name v f)) (names_in (table_of_owner q (version_of name v)))

  -- the features that an owner asks for
  abbrev pub asked_of_others : Owner → List (List ℕ)
  asked_of_others o = flat_map asked_of_target (owner_brings q o).dependencies ++ entries_ask o

  -- the features that the candidates of a name have
  abbrev pub had_by : List ℕ × List Candidate → List (List ℕ)
  had_by row = flat_map (λ c. names_in c.brings.features) (candidates_of q.candidates row.0)

  abbrev pub named_features : List (List ℕ)
  named_features = once same_text
      (map (λ p. p.1) q.root_asks ++ (flat_map asked_of_others (owners q) ++ flat_map had_by q.candidates))

  abbrev pub class_features : List ℕ → Class → List Cause
  class_features name k = map (of_feature name k) named_features

  abbrev pub name_pool : List ℕ × List Candidate → List Cause
  name_pool row = flat_map (class_features row.0) (classes_of (candidates_of q.candidates row.0))

  -- ---- the causes

  abbrev pub causes : List Cause
  causes = once same_cause
      (filter (is_cause q) (of_root ∷ (flat_map owner_pool (owners q) ++ flat_map name_pool q.candidates)))
