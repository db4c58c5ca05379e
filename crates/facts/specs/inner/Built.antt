-- The owners that are found to be here, each with those to which its enabled dependencies lead, and the content that is
-- built of them.
use Rattle.std.specs.Prelude.{◌≡◌, ◌≢◌, ◌↔◌, ℕ, List, Bool, true, Some, length, slice_get, Contains}
use Rattle.std.specs.List.{AllPairs}
use Rattle.model.specs.Content.{Package, Content, Problem}
use Rattle.model.specs.Order.{IsContent}
use Rattle.model.specs.Vertices.{Owner}
use Rattle.model.specs.inner.ContentOf.{Kept, package_of}
use Rattle.facts.specs.inner.Graphs.{NodeView, flag_at, flag_in, target_at}

module _ (owners : List Owner) (nodes : List NodeView) (are_enabled : List (List Bool)) where
  -- some enabled dependency of place n leads to place t
  abbrev pub LeadsFrom : ℕ → ℕ → Type 0
  LeadsFrom n t = (i : ℕ) × (flag_in are_enabled n i ≡ true) × (target_at nodes n i ≡ Some t)

  -- the owners that are found, each once, with where their enabled dependencies lead
  pub record AreFound (is_here : List Bool) (ks : List Kept) : Type 0 where
    pub distinct : AllPairs (λ a b. a.owner ≢ b.owner) ks
    pub members : (o : Owner) → ((k : Kept) × Contains ks k × (k.owner ≡ o))
        ↔ ((n : ℕ) × (slice_get owners n ≡ Some o) × (flag_at is_here n ≡ true))
    pub targets : (k : Kept) → Contains ks k → (n : ℕ) → slice_get owners n ≡ Some k.owner → (t : Owner)
        → Contains k.targets t ↔ ((s : ℕ) × LeadsFrom n s × (slice_get owners s ≡ Some t))

  -- the content has a package for each that is here, and in its list those to which its enabled dependencies lead
  pub record IsBuilt (q : Problem) (is_here : List Bool) (content : Content) : Type 0 where
    pub is_content : IsContent content
    -- where the owner of each package stands
    pub places : List ℕ
    pub as_many : length places ≡ length content
    -- they are those that are here
    pub members : (n : ℕ)
        → Contains places n ↔ ((flag_at is_here n ≡ true) × (o : Owner) × (slice_get owners n ≡ Some o))
    pub packages : (k n : ℕ) (p : Package) → slice_get content k ≡ Some p → slice_get places k ≡ Some n
        → (o : Owner) × (slice_get owners n ≡ Some o) × (p ≡ package_of q o p.list)
    pub lists : (k n t : ℕ) (p : Package) → slice_get content k ≡ Some p → slice_get places k ≡ Some n
        → Contains p.list t ↔ ((s : ℕ) × LeadsFrom n s × (slice_get places t ≡ Some s))
