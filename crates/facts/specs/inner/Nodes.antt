-- Packages on which the facts find what the root reaches, wherever it is that dependencies lead (this project's).
use Rattle.std.specs.Prelude.{◌≡◌, ◌≢◌, ◌↔◌, ℕ, List, Bool, true, Option, Some, None, length, nat_eq, slice_get}
use Rattle.std.specs.List.{AllPairs}
use Rattle.model.specs.Summary.{Dependency}
use Rattle.model.specs.Selection.{here, enabled}
use Rattle.model.specs.Content.{Problem}
use Rattle.model.specs.Vertices.{Owner, the_root, owner_brings}
use Rattle.facts.specs.inner.Graphs.{NodeView, flag_at, flag_in, IsFactOf}

module _ (q : Problem) (LeadsTo : Owner → ℕ → Dependency → Owner → Type 0) where
  module _ (owners : List Owner) where
    -- dependency number i of the owner leads to the one at this place and to no other, or it leads nowhere
    abbrev pub IsLead : Owner → ℕ → Dependency → Option ℕ → Type 0
    IsLead o i d None = (t : Owner) → LeadsTo o i d t → ⊥
    IsLead o i d (Some n) =
        (t : Owner) × (slice_get owners n ≡ Some t) × LeadsTo o i d t × ((u : Owner) → LeadsTo o i d u → t ≡ u)

    -- by number, where the dependencies of an owner lead
    pub record AreLeads (o : Owner) (ds : List Dependency) (targets : List (Option ℕ)) : Type 0 where
      pub as_many : length targets ≡ length ds
      pub leads : (i : ℕ) (d : Dependency) (target : Option ℕ) → slice_get ds i ≡ Some d
          → slice_get targets i ≡ Some target → IsLead o i d target

    -- what stands at place n: the owner with where its dependencies lead; the root alone is here from the start
    pub record IsNode (n : ℕ) (o : Owner) (v : NodeView) : Type 0 where
      pub brings : v.brings ≡ owner_brings q o
      pub starts : v.starts ≡ nat_eq n 0
      pub leads : AreLeads o (v.brings).dependencies v.targets

  -- the root and versions, each once, and all that their dependencies lead to
  pub record AreMet (owners : List Owner) (nodes : List NodeView) : Type 0 where
    pub as_many : length nodes ≡ length owners
    pub distinct : AllPairs (λ a b. a ≢ b) owners
    pub root : slice_get owners 0 ≡ Some the_root
    pub each : (n : ℕ) (o : Owner) (v : NodeView) → slice_get owners n ≡ Some o
        → slice_get nodes n ≡ Some v → IsNode owners n o v

-- the flags of packages say just which of them are here, and which of their dependencies are enabled
pub record AreFlags (nodes : List NodeView) (is_here : List Bool) (are_enabled : List (List Bool)) : Type 0 where
  pub each_here : (n : ℕ) → (flag_at is_here n ≡ true) ↔ IsFactOf nodes 0 (here n)
  pub each_enabled : (n i : ℕ) → (flag_in are_enabled n i ≡ true) ↔ IsFactOf nodes 0 (enabled n i)
