-- The content of what was chosen: a package for each owner that is kept, in package order, each with the places of its
-- targets as its list (Cargo book, "Cargo.toml vs Cargo.lock").
use Rattle.std.specs.Prelude.{◌≡◌, ◌≢◌, ◌↔◌, ℕ, suc, List, [], ◌∷◌, if◌then◌else◌, Some, None, option_map, map}
use Rattle.std.specs.Prelude.{Contains}
use Rattle.std.specs.List.{list_any, All, AllPairs}
use Rattle.std.specs.declared.cmp.Ordering.{Ordering}
use Rattle.model.specs.Summary.{Dependency}
use Rattle.model.specs.Selection.{here, enabled, Brings}
use Rattle.model.specs.Content.{Package, Content, Problem, candidates_of, candidate_at}
use Rattle.model.specs.Order.{package_cmp, in_order}
use Rattle.model.specs.Vertices.{Owner, the_root, version_of, same_owner, owner_brings}
use Rattle.model.specs.Axioms.{IsOwner}
use Rattle.model.specs.Walk.{IsReachedFact}

-- an owner that is kept, and the owners that its enabled dependencies lead to
pub record Kept : Type 0 where
  pub owner : Owner
  pub targets : List Owner

-- the package that an owner is, with this list
abbrev pub package_of : Problem → Owner → List ℕ → Package
package_of q the_root list = record { name = q.name; version = q.version; source = None; checksum = None; list = list }
package_of q (version_of name v) list = record {
  name = name;
  version = v;
  source = Some q.source;
  checksum = option_map (λ c. c.checksum) (candidate_at (candidates_of q.candidates name) v);
  list = list;
}

-- the order of their packages
abbrev pub kept_cmp : Problem → Kept → Kept → Ordering
kept_cmp q k m = package_cmp (package_of q k.owner []) (package_of q m.owner [])

-- the owners in package order
unfoldable pub in_package_order : Problem → List Kept → List Kept
in_package_order q ks = in_order (kept_cmp q) ks

-- the places of the owners that are among the targets, counted from n
abbrev pub places_from : ℕ → List Kept → List Owner → List ℕ
places_from n [] targets = []
places_from n (k ∷ ks) targets =
    if list_any (same_owner k.owner) targets then n ∷ places_from (suc n) ks targets else places_from (suc n) ks targets

-- the packages of owners that stand in package order
abbrev pub packages_of : Problem → List Kept → Content
packages_of q ks = map (λ k. package_of q k.owner (places_from 0 ks k.targets)) ks

-- the content of the owners that are kept
abbrev pub content_of : Problem → List Kept → Content
content_of q ks = packages_of q (in_package_order q ks)

module _ (q : Problem) (LeadsTo : Owner → ℕ → Dependency → Owner → Type 0) where
  -- some enabled dependency of the owner leads there
  abbrev pub IsTargetOf : Owner → Owner → Type 0
  IsTargetOf n t = (i : ℕ) × (d : Dependency) × Brings (owner_brings q) n i d
      × IsReachedFact q LeadsTo (enabled n i) × LeadsTo n i d t

  -- the owners that are reached, each once, with their targets
  pub record AreKept (ks : List Kept) : Type 0 where
    pub distinct : AllPairs (λ a b. a.owner ≢ b.owner) ks
    -- each is the root or a candidate
    pub owners : All (λ k. IsOwner q k.owner) ks
    pub reached : (t : Owner) → IsReachedFact q LeadsTo (here t) ↔ ((k : Kept) × Contains ks k × (k.owner ≡ t))
    pub targets : All (λ k. (t : Owner) → Contains k.targets t ↔ IsTargetOf k.owner t) ks
