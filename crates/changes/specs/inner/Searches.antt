-- A search through the lists of a lock: the packages that begin it are visited first, then those that they list, and
-- so on, each once and the nearest first.
use Rattle.std.specs.Prelude.{◌≡◌, ◌<◌, ◌≤◌, ◌+◌, ℕ, zero, suc, nat_eq, Bool, true, if◌then◌else◌, List, [], ◌∷◌, ◌++◌}
use Rattle.std.specs.Prelude.{Some, cond, length, slice_get, slice_set}
use Rattle.std.specs.List.{list_any}
use Rattle.facts.specs.inner.Chains.{has}
use Rattle.facts.specs.inner.Worklists.{unmarked}
use Rattle.model.specs.Content.{Content, Package, passes}
use Rattle.changes.specs.inner.Ways.{lists}
use Rattle.changes.specs.declared.searching.Visit.{Visit}

abbrev pub visit : ℕ → ℕ → ℕ → Visit
visit before depth place = record { place = place; before = before; depth = depth }

-- the visits after those of a list, by what was seen before, and what is seen then
unfoldable pub visited : ℕ → ℕ → List Bool → List Visit → List ℕ → List Visit
visited before depth seen visits [] = visits
visited before depth seen visits (j ∷ js) =
    if has seen j then visited before depth seen visits js
    else visited before depth (slice_set seen j true) (visits ++ visit before depth j ∷ []) js

unfoldable pub seen_with : List Bool → List ℕ → List Bool
seen_with seen [] = seen
seen_with seen (j ∷ js) = if has seen j then seen_with seen js else seen_with (slice_set seen j true) js

abbrev pub is_in : List ℕ → ℕ → Bool
is_in js j = list_any (λ t. nat_eq t j) js

-- the places of packages that pass
abbrev pub places_below : Content → (Package → Bool) → ℕ → List ℕ
places_below content test zero = []
places_below content test (suc n) =
    places_below content test n ++ cond (passes test (slice_get content n)) (n ∷ []) []

-- a package at depth 0 begins; any other is listed by that of the visit before it, which is one nearer
abbrev pub IsLed : Content → (Package → Bool) → List Visit → ℕ → ℕ → ℕ → Type 0
IsLed content begins visits place before zero = passes begins (slice_get content place) ≡ true
IsLed content begins visits place before (suc depth) = (v : Visit) × (slice_get visits before ≡ Some v)
    × (v.depth ≡ depth) × (lists content v.place place ≡ true)

-- the same of the visits alone
abbrev pub IsBehind : List Visit → ℕ → ℕ → Type 0
IsBehind visits before zero = Unit {0}
IsBehind visits before (suc depth) = (v : Visit) × (slice_get visits before ≡ Some v) × (v.depth ≡ depth)

abbrev pub IsSeen : List Visit → ℕ → Type 0
IsSeen visits i = (k : ℕ) × (v : Visit) × (slice_get visits k ≡ Some v) × (v.place ≡ i)

-- visited at this depth at most
abbrev pub IsVisited : List Visit → ℕ → ℕ → Type 0
IsVisited visits i depth = (k : ℕ) × (v : Visit) × (slice_get visits k ≡ Some v) × (v.place ≡ i) × (v.depth ≤ depth)

abbrev pub AreLed : Content → (Package → Bool) → List Visit → Type 0
AreLed content begins visits =
    (k : ℕ) (v : Visit) → slice_get visits k ≡ Some v → IsLed content begins visits v.place v.before v.depth

abbrev pub AreBehind : List Visit → Type 0
AreBehind visits = (k : ℕ) (v : Visit) → slice_get visits k ≡ Some v → IsBehind visits v.before v.depth

abbrev pub AreSorted : List Visit → Type 0
AreSorted visits =
    (k l : ℕ) (u v : Visit) → k ≤ l → slice_get visits k ≡ Some u → slice_get visits l ≡ Some v → u.depth ≤ v.depth

-- how far a search has come that goes on with the visit number `next`
pub record IsSearching (content : Content) (begins : Package → Bool) (next : ℕ) (seen : List Bool)
    (visits : List Visit) : Type 0 where
  pub within : next ≤ length visits
  pub size : length seen ≡ length content
  pub count : unmarked seen + length visits ≡ length content
  pub known : (i : ℕ) → has seen i ≡ true → IsSeen visits i
  pub led : AreLed content begins visits
  pub sorted : AreSorted visits
  pub shallow : (k : ℕ) (v : Visit) → slice_get visits k ≡ Some v → v.depth ≤ k
  -- no visit is more than one farther than the next
  pub near : (k : ℕ) (u v : Visit) → slice_get visits k ≡ Some u → slice_get visits next ≡ Some v
      → u.depth ≤ suc v.depth
  -- what the packages before it list was visited
  pub closed : (k : ℕ) (v : Visit) → k < next → slice_get visits k ≡ Some v
      → (j : ℕ) → lists content v.place j ≡ true → IsVisited visits j (suc v.depth)

-- all that begin were visited
abbrev pub AreBegun : Content → (Package → Bool) → List Visit → Type 0
AreBegun content begins visits = (i : ℕ) → passes begins (slice_get content i) ≡ true → IsVisited visits i 0

-- what a search has in the end
pub record IsSearched (content : Content) (begins : Package → Bool) (visits : List Visit) : Type 0 where
  pub begun : AreBegun content begins visits
  pub led : AreLed content begins visits
  pub sorted : AreSorted visits
  pub closed : (k : ℕ) (v : Visit) → slice_get visits k ≡ Some v
      → (j : ℕ) → lists content v.place j ≡ true → IsVisited visits j (suc v.depth)

-- a visit to a package that passes
abbrev pub is_end : Content → (Package → Bool) → Visit → Bool
is_end content ends v = passes ends (slice_get content v.place)
