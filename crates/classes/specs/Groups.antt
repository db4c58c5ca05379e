-- Which versions a requirement matches, class by class (Cargo book, "Specifying Dependencies"; "Dependency Resolution",
-- "SemVer compatibility").
use Rattle.std.specs.Prelude.{◌≡◌, ℕ, suc, List, [], ◌∷◌, ◌++◌, map, filter, Bool, false, not, ◌&&◌, if◌then◌else◌, Vec}
use Rattle.std.specs.declared.alloc.Global.{Global}
use Rattle.std.specs.List.{AllPairs}
use Rattle.std.specs.Ordering.{is_gt}
use Rattle.semver.specs.EvalViews.{matches_views}
use Rattle.semver.specs.Parse.{Held, Parts}
use Rattle.model.specs.Order.{precedence}
use Rattle.model.specs.Selection as model
use Rattle.model.specs.Selection.{class_of}
use Rattle.model.specs.Vertices.{same_class}
use Rattle.classes.specs.Classes.{class_view}
use Rattle.classes.specs.declared.class.Class.{Class}

-- no version is older than one before it
abbrev pub IsOldestFirst : List Parts → Type 0
IsOldestFirst versions = AllPairs (λ v w. is_gt (precedence v w) ≡ false) versions

-- a class, and the positions of the versions in it
abbrev pub Group : Type 0
Group = model.Class × List ℕ

-- the positions, from n on, of those that pass the test
abbrev pub positions_from : ℕ → (Parts → Bool) → List Parts → List ℕ
positions_from n test [] = []
positions_from n test (v ∷ vs) = if test v then n ∷ positions_from (suc n) test vs else positions_from (suc n) test vs

-- each class once, where it stands first
abbrev pub each_once : List model.Class → List model.Class
each_once [] = []
each_once (k ∷ ks) = k ∷ filter (λ c. not (same_class k c)) (each_once ks)

-- the classes of the versions that the requirement matches
abbrev pub classes_matched : List Held → List Parts → List model.Class
classes_matched requirement versions = each_once (map class_of (filter (λ v. matches_views requirement v) versions))

-- the positions of the versions of a class that the requirement matches
abbrev pub positions_matched : List Held → List Parts → model.Class → List ℕ
positions_matched requirement versions k =
    positions_from 0 (λ v. matches_views requirement v && same_class k (class_of v)) versions

-- the groups of the versions that the requirement matches
abbrev pub groups_of : List Held → List Parts → List Group
groups_of requirement versions =
    map (λ k. (k, positions_matched requirement versions k)) (classes_matched requirement versions)

abbrev pub group_views : List (Class × Vec ℕ Global) → List Group
group_views gs = map (λ g. (class_view g.0, g.1.items)) gs

-- ---- the steps of the one pass that finds the groups; no part of what `matching` promises

-- whether the last group is of that class
abbrev pub ends_in : model.Class → List Group → Bool
ends_in k [] = false
ends_in k (g ∷ []) = same_class k g.0
ends_in k (g ∷ h ∷ gs) = ends_in k (h ∷ gs)

-- the groups with one more position in the last
abbrev pub with_last : ℕ → List Group → List Group
with_last n [] = []
with_last n (g ∷ []) = (g.0, g.1 ++ n ∷ []) ∷ []
with_last n (g ∷ h ∷ gs) = g ∷ with_last n (h ∷ gs)

-- the groups with one more position, in the last if that is of its class
abbrev pub with_position : model.Class → ℕ → List Group → List Group
with_position k n gs = if ends_in k gs then with_last n gs else gs ++ (k, n ∷ []) ∷ []

-- the groups with the versions from position n on too
abbrev pub with_versions : List Held → ℕ → List Parts → List Group → List Group
with_versions requirement n [] gs = gs
with_versions requirement n (v ∷ vs) gs =
    with_versions requirement (suc n) vs (if matches_views requirement v then with_position (class_of v) n gs else gs)
