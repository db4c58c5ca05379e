-- Which instance of an axiom terms can be, found from what they name (the kinds are this project's).
use Rattle.std.specs.Prelude.{ℕ, suc, List, [], ◌∷◌, Bool, false, ◌&&◌, if◌then◌else◌, nat_eq, Option, Some, None}
use Rattle.std.specs.Prelude.{option_map, option_and_then}
use Rattle.std.specs.List.{list_any, find}
use Rattle.std.specs.Option.{option_or}
use Rattle.semver.specs.Parse.{Parts}
use Rattle.model.specs.Content.{Problem}
use Rattle.model.specs.Selection.{Class}
use Rattle.model.specs.Vertices.{Owner, the_root, version_of, Vertex, root, pkg, dep, feat, ask, State, absent, present}
use Rattle.model.specs.Vertices.{version, in_class, owner_brings}
use Rattle.model.specs.Axioms.{Term, Kind, Root, Needed, Target, HasFeature, WantsFeature, FeatureOnFeature}
use Rattle.model.specs.Axioms.{FeatureOnDependency, FeatureAsks, NewestListed, WeakFeature, is_lower, without_full}
use Rattle.model.specs.inner.Terms.{same_terms}
use Rattle.model.specs.Causes.{Cause, of_root, of_need, of_target, of_feature, of_list, of_ask, of_entry}
use Rattle.model.specs.Causes.{of_enabling, of_asking, of_newest, of_weak, enables, is_needed, dependency_at}
use Rattle.model.specs.Causes.{is_unmatched, entries_of, is_cause, terms_of_cause}

-- one reading after another, up to the first that fails
infixl 10 ◌>>=◌
abbrev pub ◌>>=◌ : {A B : Type 0} → Option A → (A → Option B) → Option B
o >>= f = option_and_then f o

abbrev pub first_of : List State → Option State
first_of [] = None
first_of (s ∷ ss) = Some s

-- ---- what a vertex and the first of its states read as

-- the owner that holds
abbrev pub owner_read : Vertex → Option State → Option Owner
owner_read root s = Some the_root
owner_read (pkg name k) (Some (version v)) = Some (version_of name v)
owner_read _ _ = None

-- a version that holds
abbrev pub version_read : Vertex → Option State → Option (List ℕ × Parts)
version_read (pkg name k) (Some (version v)) = Some (name, v)
version_read _ _ = None

-- the owner and number of a dependency
abbrev pub dep_read : Vertex → Option State → Option (Owner × ℕ)
dep_read (dep o i) s = Some (o, i)
dep_read _ _ = None

-- with the class that it leads to
abbrev pub led_read : Vertex → Option State → Option (Owner × ℕ × Class)
led_read (dep o i) (Some (in_class k)) = Some (o, i, k)
led_read _ _ = None

-- a dependency with another number than this one
abbrev pub other_read : ℕ → Vertex → Option State → Option (ℕ × Class)
other_read j (dep o i) (Some (in_class k)) = if nat_eq i j then None else Some (i, k)
other_read j _ _ = None

-- the name, class and feature
abbrev pub feature_read : Vertex → Option State → Option (List ℕ × Class × List ℕ)
feature_read (feat name k f) s = Some (name, k, f)
feature_read _ _ = None

-- a feature that is on
abbrev pub on_read : Vertex → Option State → Option (List ℕ)
on_read (feat name k f) (Some present) = Some f
on_read _ _ = None

-- a feature that is off
abbrev pub off_read : Vertex → Option State → Option (List ℕ)
off_read (feat name k f) (Some absent) = Some f
off_read _ _ = None

-- the version, the number and the feature of an entry that asks
abbrev pub ask_read : Vertex → Option State → Option (List ℕ × Parts × ℕ × List ℕ)
ask_read (ask name v i g) s = Some (name, v, i, g)
ask_read _ _ = None

-- ---- the first term that reads so

abbrev pub read_term : {A : Type 0} → (Vertex → Option State → Option A) → Term → Option A
read_term read t = read t.vertex (first_of t.states)

abbrev pub first_read : {A : Type 0} → (Vertex → Option State → Option A) → List Term → Option A
first_read read [] = None
first_read read (t ∷ ts) = option_or (read_term read t) (first_read read ts)

-- the first place at which the test passes
abbrev pub first_place : {A : Type 0} → (A → Bool) → List A → Option ℕ
first_place test [] = None
first_place test (x ∷ xs) = if test x then Some 0 else option_map suc (first_place test xs)

-- the number of the dependency that the terms speak of
abbrev pub number_read : List Term → Option ℕ
number_read ts = option_map (λ p. p.1) (first_read dep_read ts)

-- ---- the one cause of a kind that terms can have

abbrev pub target_in : List Term → Option Cause
target_in ts = do
  l ← first_read led_read ts
  Some (of_target l.0 l.1 l.2)

abbrev pub feature_in : List Term → Option Cause
feature_in ts = do
  f ← first_read feature_read ts
  Some (of_feature f.0 f.1 f.2)

abbrev pub list_in : List Term → Option Cause
list_in ts = do
  l ← first_read led_read ts
  g ← first_read off_read ts
  Some (of_list l.0 l.1 l.2 g)

abbrev pub ask_in : List Term → Option Cause
ask_in ts = do
  a ← first_read ask_read ts
  l ← first_read led_read ts
  Some (of_ask a.0 a.1 a.2 a.3 l.2)

abbrev pub entry_in : List Term → Option Cause
entry_in ts = do
  p ← first_read version_read ts
  f ← first_read on_read ts
  g ← first_read off_read ts
  Some (of_entry p.0 p.1 f g)

abbrev pub asking_in : List Term → Option Cause
asking_in ts = do
  p ← first_read version_read ts
  f ← first_read on_read ts
  a ← first_read ask_read ts
  Some (of_asking p.0 p.1 f a.3 a.2)

-- the dependency with the lower class comes first
abbrev pub newest_of : Owner → ℕ → Class → ℕ → Class → Cause
newest_of o i k j m = if is_lower k m then of_newest o i j k m else of_newest o j i m k

abbrev pub newest_in : List Term → Option Cause
newest_in ts = do
  l ← first_read led_read ts
  m ← first_read (other_read l.1) ts
  Some (newest_of l.0 l.1 l.2 m.0 m.1)

abbrev pub weak_in : List Term → Option Cause
weak_in ts = do
  p ← first_read version_read ts
  f ← first_read on_read ts
  g ← first_read off_read ts
  l ← first_read led_read ts
  Some (of_weak p.0 p.1 f g l.1 l.2)

module _ (q : Problem) where
  -- ---- the number of a dependency on which there is no term: each of its states would be full

  abbrev pub needed_unmatched : Owner → Option ℕ
  needed_unmatched o = first_place (λ d. is_needed o d && is_unmatched q d) (owner_brings q o).dependencies

  abbrev pub enabled_unmatched : List ℕ → Parts → List ℕ → Option ℕ
  enabled_unmatched name v f = first_place (λ d. list_any (enables d.name) (entries_of q name v f) && is_unmatched q d)
      (owner_brings q (version_of name v)).dependencies

  -- ---- the same where the number may not be written

  abbrev pub need_in : List Term → Option Cause
  need_in ts = do
    o ← first_read owner_read ts
    i ← option_or (number_read ts) (needed_unmatched o)
    Some (of_need o i)

  abbrev pub enabling_in : List Term → Option Cause
  enabling_in ts = do
    p ← first_read version_read ts
    f ← first_read on_read ts
    i ← option_or (number_read ts) (enabled_unmatched p.0 p.1 f)
    d ← dependency_at q (version_of p.0 p.1) i
    e ← find (enables d.name) (entries_of q p.0 p.1 f)
    Some (of_enabling p.0 p.1 f e i)

  abbrev pub cause_in : Kind → List Term → Option Cause
  cause_in Root ts = Some of_root
  cause_in Needed ts = need_in ts
  cause_in Target ts = target_in ts
  cause_in HasFeature ts = feature_in ts
  cause_in WantsFeature ts = option_or (ask_in ts) (list_in ts)
  cause_in FeatureOnFeature ts = entry_in ts
  cause_in FeatureOnDependency ts = enabling_in ts
  cause_in FeatureAsks ts = asking_in ts
  cause_in NewestListed ts = newest_in ts
  cause_in WeakFeature ts = weak_in ts

  -- ---- the test

  -- the cause is there, and the terms are those of its instance, without full ones
  abbrev pub is_its : List Term → Cause → Bool
  is_its ts c = is_cause q c && same_terms ts (without_full q (terms_of_cause q c))

  abbrev pub is_its_if : List Term → Option Cause → Bool
  is_its_if ts None = false
  is_its_if ts (Some c) = is_its ts c

  -- whether the terms, of which no two speak of one vertex, are those of an instance of the kind
  abbrev pub is_instance : Kind → List Term → Bool
  is_instance k ts = is_its_if ts (cause_in k ts)
