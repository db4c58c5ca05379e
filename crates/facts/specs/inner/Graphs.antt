-- Packages with where their dependencies lead, and the facts that finite chains of reasons give of them (Cargo book,
-- "Features"). What they are, packages of a lock or versions that a walk meets, is said by those who make the list.
use Rattle.std.specs.Prelude.{◌≡◌, ◌<◌, ℕ, Bool, true, false, List, [], map, Option, Some, None, slice_get}
use Rattle.std.specs.Prelude.{slice_index_or, option_and_then, unwrap_or, length}
use Rattle.std.specs.List.{All}
use Rattle.features.specs.Views.{brings_view}
use Rattle.model.specs.Summary.{Summary, nothing, has_feature}
use Rattle.model.specs.Selection.{Fact, Holds, on}
use Rattle.manifest.specs.Manifests.{root_asks}
use Rattle.facts.specs.declared.node.Node.{Node}

pub record NodeView : Type 0 where
  -- what the package brings
  pub brings : Summary
  -- by number, the place to which each dependency leads
  pub targets : List (Option ℕ)
  -- whether it is here from the start
  pub starts : Bool

abbrev pub node_view : Node → NodeView
node_view n = record { brings = brings_view n.brings; targets = n.targets.items; starts = n.starts }

abbrev pub node_views : List Node → List NodeView
node_views nodes = map node_view nodes

abbrev pub brings_if : Option NodeView → Summary
brings_if None = nothing
brings_if (Some n) = n.brings

abbrev pub starts_if : Option NodeView → Bool
starts_if None = false
starts_if (Some n) = n.starts

abbrev pub target_if : ℕ → Option NodeView → Option ℕ
target_if i None = None
target_if i (Some n) = option_and_then (λ o. o) (slice_get n.targets i)

-- whether a list of flags has one at a place
abbrev pub flag_at : List Bool → ℕ → Bool
flag_at flags n = slice_index_or flags n false

-- the same where each place has a list of them
abbrev pub flag_in : List (List Bool) → ℕ → ℕ → Bool
flag_in lists n i = flag_at (unwrap_or (slice_get lists n) []) i

module _ (nodes : List NodeView) where
  abbrev pub brings_at : ℕ → Summary
  brings_at n = brings_if (slice_get nodes n)

  abbrev pub starts_at : ℕ → Bool
  starts_at n = starts_if (slice_get nodes n)

  abbrev pub target_at : ℕ → ℕ → Option ℕ
  target_at n i = target_if i (slice_get nodes n)

  -- the facts, where the package at this place is the root
  abbrev pub IsFactOf : ℕ → Fact ℕ → Type 0
  IsFactOf root = Holds brings_at (λ n. n ≡ root) (λ n. starts_at n ≡ true) (root_asks (brings_at root).features)
      (λ n i d t. target_at n i ≡ Some t)

  -- a feature is on that doesn't exist there
  abbrev pub LacksFeature : ℕ → ℕ → Type 0
  LacksFeature root n = (f : List ℕ) × IsFactOf root (on n f) × (has_feature (brings_at n).features f ≡ false)

-- each dependency leads to a package of the list, if it leads anywhere
abbrev pub AreWithin : ℕ → List (Option ℕ) → Type 0
AreWithin n targets = All (λ o. (t : ℕ) → o ≡ Some t → t < n) targets

abbrev pub IsGraph : List NodeView → Type 0
IsGraph nodes = All (λ n. AreWithin (length nodes) n.targets) nodes
