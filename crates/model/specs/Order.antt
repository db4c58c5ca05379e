-- The orders of versions and of packages, and what makes a content and a catalogue (Cargo book, "Cargo.toml vs
-- Cargo.lock"; SemVer 2.0.0, section 11).
use Rattle.std.specs.Prelude.{Bool, false, if◌then◌else◌, ◌||◌, List, [], ◌∷◌, Option, Some, None, ℕ, ◌≡◌, ◌≢◌, ◌<◌}
use Rattle.std.specs.Prelude.{length}
use Rattle.std.specs.List.{list_any, All, AllPairs}
use Rattle.std.specs.Ordering.{is_gt, nat_cmp, ordering_then}
use Rattle.std.specs.declared.cmp.Ordering.{Ordering}
use Rattle.std.specs.Cmp.Lexicographic.{slice_cmp}
use Rattle.std.specs.declared.cmp.Ordering.TheVariants.{Less, Equal, Greater}
use Rattle.semver.specs.Identifiers.{parts_text}
use Rattle.semver.specs.Order.{pre_cmp}
use Rattle.semver.specs.Parse.{Parts}
use Rattle.model.specs.Content.{Package, Content, Problem}
use Rattle.model.specs.Summary.{KnowsFeatures}

-- ---- Lists in an order, by insertion, and whether two of their elements are alike (this project's).

-- x among xs, before the first that comes after it
abbrev pub put_in : {X : Type 0} → (X → X → Ordering) → X → List X → List X
put_in cmp x [] = x ∷ []
put_in cmp x (y ∷ ys) = if is_gt (cmp x y) then y ∷ put_in cmp x ys else x ∷ (y ∷ ys)

-- the elements by an order
abbrev pub in_order : {X : Type 0} → (X → X → Ordering) → List X → List X
in_order cmp [] = []
in_order cmp (x ∷ xs) = put_in cmp x (in_order cmp xs)

-- whether some two elements are alike
abbrev pub has_alike : {X : Type 0} → (X → X → Bool) → List X → Bool
has_alike alike [] = false
has_alike alike (x ∷ xs) = list_any (alike x) xs || has_alike alike xs

-- ---- Texts, versions and packages in order.

-- the order of two texts by their bytes
abbrev pub text_cmp : List ℕ → List ℕ → Ordering
text_cmp = slice_cmp nat_cmp

-- precedence: the numbers, then the pre-releases; build metadata doesn't count (SemVer 2.0.0, section 11)
abbrev pub precedence : Parts → Parts → Ordering
precedence v w = ordering_then (nat_cmp v.0 w.0)
    (ordering_then (nat_cmp v.1 w.1) (ordering_then (nat_cmp v.2 w.2) (pre_cmp (v.3) (w.3))))

-- versions by precedence, and those of equal precedence by the bytes of their texts
abbrev pub version_cmp : Parts → Parts → Ordering
version_cmp v w = ordering_then (precedence v w) (text_cmp (parts_text v) (parts_text w))

-- a package with a source comes before one without
abbrev pub source_cmp : Option (List ℕ) → Option (List ℕ) → Ordering
source_cmp (Some a) (Some b) = text_cmp a b
source_cmp (Some a) None = Less
source_cmp None (Some b) = Greater
source_cmp None None = Equal

-- packages by name, then version, then source
abbrev pub package_cmp : Package → Package → Ordering
package_cmp p r = ordering_then (text_cmp p.name r.name)
    (ordering_then (version_cmp p.version r.version) (source_cmp p.source r.source))

-- ---- What makes a list of packages the content of a lock, and what makes lists of versions a catalogue, whatever is
-- selected (Cargo book, "Cargo.toml vs Cargo.lock" and "Registry Index").

pub record IsContent (content : Content) : Type 0 where
  -- in package order: no two are alike in name, version and source
  pub in_order : AllPairs (λ p r. package_cmp p r ≡ Less) content
  -- each list has places of the content ..
  pub within : All (λ p. All (λ t. t < length content) p.list) content
  -- .. each once, lowest first
  pub rising : All (λ p. AllPairs (λ i j. i < j) p.list) content

-- what makes the candidates of a problem a catalogue
pub record IsCatalogue (q : Problem) : Type 0 where
  -- each name is there once
  pub names_distinct : AllPairs (λ a b. a.0 ≢ b.0) q.candidates
  -- the versions of a name rise by precedence, so that each is there once
  pub versions_rise : All (λ row. AllPairs (λ c e. precedence c.version e.version ≡ Less) row.1) q.candidates
  -- an entry `g` names a feature of the same table
  pub features_known : All (λ row. All (λ c. KnowsFeatures c.brings.features) row.1) q.candidates
