-- The causes of the instances that are added for a vertex and one of its states, as a list (these kinds are this
-- project's).
use Rattle.std.specs.Prelude.{◌+◌, ◌&&◌, ℕ, List, [], ◌∷◌, ◌++◌, if◌then◌else◌, Option, None, Some, map}
use Rattle.std.specs.List.{flat_map, list_any}
use Rattle.semver.specs.Parse.{Parts}
use Rattle.model.specs.Summary.{Dependency, Entry, feature, dependency, dependency_feature, weak_feature}
use Rattle.model.specs.Summary.{asked_of_target, same_text}
use Rattle.model.specs.Content.{Problem}
use Rattle.model.specs.Selection.{Class, class_of}
use Rattle.model.specs.Vertices.{Owner, the_root, version_of, Vertex, root, pkg, dep, feat, ask, State, absent, present}
use Rattle.model.specs.Vertices.{version, in_class, same_vertex, owner_brings, dep_classes}
use Rattle.model.specs.Axioms.{is_lower}
use Rattle.model.specs.Causes.{Cause, of_root, of_need, of_target, of_feature, of_list, of_ask, of_entry}
use Rattle.model.specs.Causes.{of_enabling, of_asking, of_newest, of_weak, is_needed, dependency_at}
use Rattle.model.specs.Causes.{entries_of, has_class, table_of_owner}
use Rattle.model.specs.inner.Listed.{classes_at, same_cause}
use Rattle.numbering.specs.inner.OnPackage.{is_other}

-- what each of a list gives, with its number; the first has the number n
abbrev pub each_from : {X Y : Type 0} → (ℕ → X → List Y) → ℕ → List X → List Y
each_from f n [] = []
each_from f n (x ∷ xs) = f n x ++ each_from f (n + 1) xs

abbrev pub need_if : Owner → ℕ → Dependency → List Cause
need_if o i d = if is_needed o d then of_need o i ∷ [] else []

-- an entry `g` of the feature f
abbrev pub turned_if : List ℕ → Parts → List ℕ → Entry → List Cause
turned_if name v f (feature g) = if same_text f g then [] else of_entry name v f g ∷ []
turned_if name v f (dependency d) = []
turned_if name v f (dependency_feature d g) = []
turned_if name v f (weak_feature d g) = []

-- an entry `d?/g` of the feature f, and a class of the dependency called d
abbrev pub weak_if : List ℕ → Parts → List ℕ → List ℕ → ℕ → Dependency → Class → List Cause
weak_if name v f g i d k =
    if same_vertex (feat name (class_of v) f) (feat d.real_name k g) then [] else of_weak name v f g i k ∷ []

module _ (q : Problem) where
  abbrev pub needs_of : Owner → List Cause
  needs_of o = each_from (need_if o) 0 (owner_brings q o).dependencies

  -- ---- of a version

  abbrev pub entry_if : List ℕ → Parts → List ℕ → Entry → ℕ → Dependency → List Cause
  entry_if name v f (feature g) i d = []
  entry_if name v f (dependency e) i d = if same_text d.name e then of_enabling name v f (dependency e) i ∷ [] else []
  entry_if name v f (dependency_feature e g) i d =
      if same_text d.name e then of_enabling name v f (dependency_feature e g) i ∷ of_asking name v f g i ∷ [] else []
  entry_if name v f (weak_feature e g) i d =
      if same_text d.name e then flat_map (weak_if name v f g i d) (dep_classes q d) else []

  abbrev pub entry_causes : List ℕ → Parts → List ℕ → Entry → List Cause
  entry_causes name v f e =
      turned_if name v f e ++ each_from (entry_if name v f e) 0 (owner_brings q (version_of name v)).dependencies

  abbrev pub feature_causes : List ℕ → Parts → List ℕ → List Cause
  feature_causes name v f = flat_map (entry_causes name v f) (entries_of q name v f)

  abbrev pub version_causes : List ℕ → Parts → List Cause
  version_causes name v = needs_of (version_of name v)
      ++ flat_map (λ row. feature_causes name v row.0) (table_of_owner q (version_of name v))

  -- ---- of a dependency that leads to a class

  -- the features that entries of the root ask the dependency for
  abbrev pub root_asked : Owner → Dependency → List (List ℕ)
  root_asked the_root d = flat_map (λ p. if same_text d.name p.0 then p.1 ∷ [] else []) q.root_asks
  root_asked (version_of name v) d = []

  -- with the dependency j in the class m, if that is higher and the dependency d may lead there too
  abbrev pub overtaken_if : Owner → ℕ → Class → Dependency → ℕ → Class → List Cause
  overtaken_if o i k d j m = if is_lower k m && has_class q m d then of_newest o i j k m ∷ [] else []

  -- with another one on the same package, in each of its classes
  abbrev pub newest_if : Owner → ℕ → Class → Dependency → ℕ → Dependency → List Cause
  newest_if o i k d j e =
      if is_other i d.real_name j e then flat_map (overtaken_if o i k d j) (dep_classes q e) else []

  -- its target and the features that it asks for: what it gives without another dependency
  abbrev pub alone_causes : Owner → ℕ → Class → Option Dependency → List Cause
  alone_causes o i k None = []
  alone_causes o i k (Some d) = of_target o i k ∷ map (of_list o i k) (asked_of_target d ++ root_asked o d)

  abbrev pub lead_causes : Owner → ℕ → Class → Option Dependency → List Cause
  lead_causes o i k None = []
  lead_causes o i k (Some d) =
      alone_causes o i k (Some d) ++ each_from (newest_if o i k d) 0 (owner_brings q o).dependencies

  -- ---- of each vertex in each of its states

  abbrev pub causes_at : Vertex → State → List Cause
  causes_at root absent = of_root ∷ []
  causes_at root present = needs_of the_root
  causes_at (pkg name k) (version v) = version_causes name v
  causes_at (dep o i) (in_class k) = lead_causes o i k (dependency_at q o i)
  causes_at (feat name k f) present = of_feature name k f ∷ []
  causes_at (ask name v i g) present = map (of_ask name v i g) (classes_at q (version_of name v) i)
  causes_at _ _ = []

-- ---- each once

-- the causes with one more at the end, unless it is there
abbrev pub with_cause : List Cause → Cause → List Cause
with_cause cs c = if list_any (same_cause c) cs then cs else cs ++ c ∷ []

abbrev pub with_causes : List Cause → List Cause → List Cause
with_causes cs [] = cs
with_causes cs (x ∷ xs) = with_causes (with_cause cs x) xs
