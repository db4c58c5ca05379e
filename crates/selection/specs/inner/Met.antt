-- The versions that a walk may meet: from the root, those that the picks of the dependencies lead to that are followed
-- (own; a superset of what the preferred walk reaches, on which the facts are found).
use Rattle.std.specs.Prelude.{Vec, ◌≡◌, ℕ, Bool, true, false, List, map, length, Option, Some, None}
use Rattle.std.specs.Prelude.{is_some, not, slice_get, nat_lt, ◌||◌, ◌<◌, ◌-◌}
use Rattle.std.specs.HashMap.{HashMap, get}
use Rattle.std.specs.List.{All, AllPairs, concat, find, list_all, zip}
use Rattle.std.specs.declared.cmp.Ordering.TheVariants.{Less}
use Rattle.semver.specs.Eval.{precedence_cmp}
use Rattle.semver.specs.Parse.{Held, Parts}
use Rattle.semver.specs.declared.Version.{Version}
use Rattle.semver.specs.EvalViews.{matches_views}
use Rattle.model.specs.Summary.{Dependency, same_text}
use Rattle.model.specs.Content.{Candidate, candidates_of}
use Rattle.model.specs.Vertices.{Owner, version_of}
use Rattle.model.specs.Walk.{first_match}
use Rattle.catalogue.specs.Stores.{places_by_rank, CatalogueView, candidates_at, ranked_at}
use Rattle.catalogue.specs.inner.Bounds.{is_beyond, is_short}
use Rattle.facts.specs.inner.Graphs.{flag_at}
use Rattle.facts.specs.declared.node.Node.{Node}
use Rattle.selection.specs.inner.Followed.{is_followed}
use Rattle.std.specs.declared.alloc.Global.{Global}

-- ---- picks by place

abbrev pub is_matched : List Held → Option Parts → Bool
is_matched requirement None = false
is_matched requirement (Some v) = matches_views requirement v

-- the first of these places at which a version stands that is matched
abbrev pub first_matched : List Held → List Parts → List ℕ → Option ℕ
first_matched requirement versions places = find (λ n. is_matched requirement (slice_get versions n)) places

-- the versions of a name's candidates, oldest first
abbrev pub versions_at : CatalogueView → List ℕ → List Parts
versions_at index name = map (λ r. r.version) (candidates_at index name)

-- the places of a name's candidates in the order of preference
abbrev pub order_at : CatalogueView → List ℕ → List ℕ
order_at index name = places_by_rank (map (λ c. c.1) (ranked_at index name))

-- oldest first, no two of equal precedence
abbrev pub AreRising : List Version → Type 0
AreRising vs = AllPairs (λ v w. precedence_cmp v w ≡ Less) vs

-- newer than all that is matched, as what isn't there counts ..
abbrev pub is_too_new : List Held → Option Parts → Bool
is_too_new requirement None = true
is_too_new requirement (Some v) = is_beyond requirement v

-- .. or older
abbrev pub is_too_old : List Held → Option Parts → Bool
is_too_old requirement None = false
is_too_old requirement (Some v) = is_short requirement v

-- each place is lower than all before it
abbrev pub IsFalling : List ℕ → Type 0
IsFalling places = AllPairs (λ a b. b < a) places

abbrev pub is_lower_than : Option ℕ → ℕ → Bool
is_lower_than None place = true
is_lower_than (Some last) place = nat_lt place last

-- lower than the last of a run, if it has one
abbrev pub is_lower : List ℕ → ℕ → Bool
is_lower run place = is_lower_than (slice_get run (length run - 1)) place

abbrev pub run_views : List (Vec ℕ Global) → List (List ℕ)
run_views runs = map (λ r. r.items) runs

-- an order as runs, one after another, in each of which the places fall
pub record AreRuns (order : List ℕ) (runs : List (Vec ℕ Global)) : Type 0 where
  pub joined : concat (run_views runs) ≡ order
  pub fall : All (λ r. IsFalling r.items) runs

-- the runs that are kept by name are those of the names' orders
abbrev pub AreOrders : {S : Type 0} → CatalogueView → HashMap (List ℕ) (Vec (Vec ℕ Global) Global) S → Type 0
AreOrders index orders = (name : List ℕ) (runs : Vec (Vec ℕ Global) Global) → get same_text orders name ≡ Some runs
    → AreRuns (order_at index name) runs.items

-- the place of the candidate that a dependency picks
abbrev pub place_picked : CatalogueView → Dependency → Option ℕ
place_picked index d = first_matched d.requirement (versions_at index d.real_name) (order_at index d.real_name)

-- ---- picks among the versions met

module _ (preferred : List (List ℕ × List Candidate)) (owners : List Owner) where
  -- the pick of a dependency is the owner at this place, or there is none
  abbrev pub IsPick : Dependency → Option ℕ → Type 0
  IsPick d None = first_match d (candidates_of preferred d.real_name) ≡ None
  IsPick d (Some t) = (c : Candidate) × (first_match d (candidates_of preferred d.real_name) ≡ Some c)
      × (slice_get owners t ≡ Some (version_of d.real_name c.version))

  -- the same where it is followed, and else there is none
  abbrev pub IsPickIf : Bool → Dependency → Option ℕ → Type 0
  IsPickIf true d target = IsPick d target
  IsPickIf false d target = target ≡ None

  -- by number, where the picks of those dependencies stand that are followed
  pub record ArePicks (all : Bool) (asked : List Bool) (ds : List Dependency) (targets : List (Option ℕ)) : Type 0 where
    pub as_many : length targets ≡ length ds
    pub picks : (i : ℕ) (d : Dependency) (target : Option ℕ) → slice_get ds i ≡ Some d
        → slice_get targets i ≡ Some target → IsPickIf (is_followed all (flag_at asked i) d) d target

-- ---- completeness

-- by number, each dependency that is enabled has a target
abbrev pub are_met : List Bool → List (Option ℕ) → Bool
are_met enabled targets = list_all (λ p. is_some p.0 || not p.1) (zip targets enabled)

abbrev pub all_met : List Node → List (Vec Bool Global) → Bool
all_met nodes enabled = list_all (λ p. are_met (p.1).items (p.0).targets.items) (zip nodes enabled)
