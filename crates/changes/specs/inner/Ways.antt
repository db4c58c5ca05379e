-- Why a package is in a lock: the lists of the lock lead there from its root (Cargo book, "Cargo.toml vs Cargo.lock").
use Rattle.std.specs.Prelude.{◌≡◌, ℕ, nat_eq, List, [], ◌∷◌, Bool, true, false, not, ◌&&◌, Option, Some, None, is_some}
use Rattle.std.specs.Prelude.{slice_get, length, ◌≤◌}
use Rattle.std.specs.List.{list_any}
use Rattle.semver.specs.Parse.{Parts}
use Rattle.manifest.specs.Manifests.{ManifestView}
use Rattle.std.specs.Ordering.{is_eq}
use Rattle.model.specs.Content.{Content, Package, list_if, passes}
use Rattle.model.specs.Order.{version_cmp}
use Rattle.model.specs.Summary.{same_text}
use Rattle.changes.specs.declared.ways.Why.{Why}
use Rattle.changes.specs.declared.ways.Why.TheVariants.{Way, Absent, Unreached}

-- the same version: no other has its place in package order
abbrev pub is_version : Option Parts → Parts → Bool
is_version None v = true
is_version (Some wanted) v = is_eq (version_cmp v wanted)

-- whether a package is meant by a name, and by a version if there is one
abbrev pub is_meant : List ℕ → Option Parts → Package → Bool
is_meant name version p = same_text p.name name && is_version version p.version

-- the package of the manifest has no source
abbrev pub is_own : ManifestView → Package → Bool
is_own m p = not (is_some p.source) && is_meant m.name (Some m.version) p

-- whether the package at place i lists that at place j
abbrev pub lists : Content → ℕ → ℕ → Bool
lists content i j = list_any (λ t. nat_eq t j) (list_if (slice_get content i))

-- from the package at place i on each lists the next one, and the last one passes
unfoldable pub leads : Content → (Package → Bool) → ℕ → List ℕ → Bool
leads content test i [] = passes test (slice_get content i)
leads content test i (j ∷ js) = lists content i j && leads content test j js

-- places of packages, from one that begins it to one that ends it, each listed by the one before
abbrev pub is_way : Content → (Package → Bool) → (Package → Bool) → List ℕ → Bool
is_way content begins ends [] = false
is_way content begins ends (i ∷ is) = passes begins (slice_get content i) && leads content ends i is

-- a way that is no longer than any other
abbrev pub IsShortest : Content → (Package → Bool) → (Package → Bool) → List ℕ → Type 0
IsShortest content begins ends places = (is_way content begins ends places ≡ true)
    × ((others : List ℕ) → is_way content begins ends others ≡ true → length places ≤ length others)

abbrev pub HasNoWay : Content → (Package → Bool) → (Package → Bool) → Type 0
HasNoWay content begins ends = (places : List ℕ) → is_way content begins ends places ≡ false

-- a shortest way where there is one
abbrev pub IsFound : Content → (Package → Bool) → (Package → Bool) → Option (List ℕ) → Type 0
IsFound content begins ends None = HasNoWay content begins ends
IsFound content begins ends (Some places) = IsShortest content begins ends places

-- what is said of why a package is there
abbrev pub IsWhy : Content → (Package → Bool) → (Package → Bool) → Why → Type 0
IsWhy content begins ends (Way places) = IsShortest content begins ends places.items
IsWhy content begins ends Absent = list_any ends content ≡ false
IsWhy content begins ends Unreached = (list_any ends content ≡ true) × HasNoWay content begins ends
