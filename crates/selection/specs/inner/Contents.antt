-- The versions that a content may have, and the content of those that are here (own; where their dependencies lead is
-- the caller's).
use Rattle.std.specs.Prelude.{suc, ◌≡◌, ◌≢◌, ◌↔◌, ℕ, Bool, true, false, List, [], ◌∷◌, ◌++◌, ◌<◌, map, length, Option}
use Rattle.std.specs.Prelude.{Some, None, option_map, slice_get, nat_eq, ◌&&◌, Contains, IsSome, option_and_then}
use Rattle.std.specs.Prelude.{unwrap_or}
use Rattle.std.specs.List.{All, AllPairs}
use Rattle.model.specs.Summary.{same_text}
use Rattle.model.specs.Content.{Candidate, Content, Package, Problem, candidates_of}
use Rattle.model.specs.inner.ContentOf.{package_of}
use Rattle.model.specs.Order.{package_cmp}
use Rattle.std.specs.declared.cmp.Ordering.TheVariants.{Less}
use Rattle.model.specs.Vertices.{Owner, the_root, version_of}
use Rattle.catalogue.specs.Stores.{CatalogueView, rows_by_name}
use Rattle.lockfile.specs.inner.Views.{package_view}
use Rattle.facts.specs.inner.Graphs.{NodeView, flag_at, flag_in, target_at}
use Rattle.selection.specs.declared.placed.PlacedPackage.{PlacedPackage}
use Rattle.selection.specs.declared.met.MetVersion.{MetVersion}

-- ---- versions that are met

abbrev pub same_met : MetVersion → MetVersion → Bool
same_met s t = same_text s.name t.name && nat_eq s.place t.place

-- the version that a candidate is
abbrev pub owner_if : List ℕ → Option Candidate → Owner
owner_if name None = the_root
owner_if name (Some c) = version_of name c.version

-- the version that a name's candidate at a place is
abbrev pub candidate_owner : CatalogueView → List ℕ → ℕ → Owner
candidate_owner index name place = owner_if name (slice_get (candidates_of (rows_by_name index) name) place)

-- the version that is met
abbrev pub met_owner : CatalogueView → MetVersion → Owner
met_owner index s = candidate_owner index s.name s.place

-- the root, then the versions met
abbrev pub owners_of : CatalogueView → List MetVersion → List Owner
owners_of index versions = the_root ∷ map (met_owner index) versions

-- a name has a candidate at this place
abbrev pub IsCandidate : CatalogueView → List ℕ → ℕ → Type 0
IsCandidate index name place = IsSome (slice_get (candidates_of (rows_by_name index) name) place)

-- a candidate stands there
abbrev pub IsThere : CatalogueView → MetVersion → Type 0
IsThere index s = IsCandidate index s.name s.place

-- each version once, and a candidate for each
pub record AreMetVersions (index : CatalogueView) (versions : List MetVersion) : Type 0 where
  pub distinct : AllPairs (λ s t. s ≢ t) versions
  pub there : All (IsThere index) versions

-- more versions after these
pub record Grows (index : CatalogueView) (old new : List MetVersion) : Type 0 where
  pub more : List MetVersion
  pub is : new ≡ old ++ more
  pub still : AreMetVersions index old → AreMetVersions index new

-- ---- the content of those that are here

-- a package with the place that it had among those met
abbrev pub Placed : Type 0
Placed = Package × ℕ

abbrev pub placed_view : PlacedPackage → Placed
placed_view k = (package_view k.locked, k.place)

abbrev pub placed_views : List PlacedPackage → List Placed
placed_views ks = map placed_view ks

-- the package at a place that is here
abbrev pub package_if : Problem → Bool → Option Owner → Option Package
package_if q false o = None
package_if q true o = option_map (λ n. package_of q n []) o

-- with a package more, if there is one
abbrev pub kept_with : List Placed → Option Package → ℕ → List Placed
kept_with ks None n = ks
kept_with ks (Some p) n = ks ++ (p, n) ∷ []

abbrev pub places_in : List Placed → List ℕ
places_in ks = map (λ k. k.1) ks

module _ (q : Problem) (owners : List Owner) where
  -- some owner stands at place n
  abbrev pub IsPlace : ℕ → Type 0
  IsPlace n = (o : Owner) × (slice_get owners n ≡ Some o)

  -- the package is the owner at its place
  abbrev pub IsPackage : Placed → Type 0
  IsPackage k = (o : Owner) × (slice_get owners k.1 ≡ Some o) × (k.0 ≡ package_of q o (k.0).list)

  -- a package for each owner that is here, among the first n
  pub record AreKept (here : List Bool) (n : ℕ) (ks : List Placed) : Type 0 where
    pub members : (m : ℕ) → Contains (places_in ks) m ↔ ((m < n) × (flag_at here m ≡ true) × IsPlace m)
    pub packages : All IsPackage ks
    pub distinct : AllPairs (λ k m. k.1 ≢ m.1) ks

-- in package order
abbrev pub AreInOrder : List Placed → Type 0
AreInOrder ks = AllPairs (λ k m. package_cmp k.0 m.0 ≡ Less) ks

-- by place, where a package of that place stands
abbrev pub AreRanks : List ℕ → List (Option ℕ) → Type 0
AreRanks places ranks = (t r : ℕ) → (slice_get ranks t ≡ Some (Some r)) ↔ (slice_get places r ≡ Some t)

-- the rank of a target that is enabled
abbrev pub rank_if : Option ℕ → Bool → List (Option ℕ) → Option ℕ
rank_if target false ranks = None
rank_if target true ranks = option_and_then (λ t. option_and_then (λ o. o) (slice_get ranks t)) target

abbrev pub after : Option ℕ → List ℕ → List ℕ
after None ns = ns
after (Some n) ns = n ∷ ns

-- with a rank more, if there is one
abbrev pub with_rank : List ℕ → Option ℕ → List ℕ
with_rank ns None = ns
with_rank ns (Some n) = ns ++ n ∷ []

-- the ranks of the targets of enabled dependencies, from number i on
abbrev pub ranks_from : ℕ → List (Option ℕ) → List Bool → List (Option ℕ) → List ℕ
ranks_from i [] enabled ranks = []
ranks_from i (t ∷ ts) enabled ranks = after (rank_if t (flag_at enabled i) ranks) (ranks_from (suc i) ts enabled ranks)

-- the rank of the target of some enabled dependency
abbrev pub IsListed : List (Option ℕ) → List Bool → List (Option ℕ) → ℕ → Type 0
IsListed targets enabled ranks r =
    (i t : ℕ) × (flag_at enabled i ≡ true) × (slice_get targets i ≡ Some (Some t)) × (slice_get ranks t ≡ Some (Some r))

-- lowest first, none twice
abbrev pub IsRising : List ℕ → Type 0
IsRising ns = AllPairs (λ i j. i < j) ns

abbrev pub targets_if : Option NodeView → List (Option ℕ)
targets_if None = []
targets_if (Some n) = n.targets

abbrev pub targets_at : List NodeView → ℕ → List (Option ℕ)
targets_at nodes n = targets_if (slice_get nodes n)

abbrev pub flags_at : List (List Bool) → ℕ → List Bool
flags_at enabled n = unwrap_or (slice_get enabled n) []

-- R holds of what stands at one place of two lists
pub record AreBeside {X Y : Type 0} (R : X → Y → Type 0) (xs : List X) (ys : List Y) : Type 0 where
  pub as_many : length xs ≡ length ys
  pub each : (n : ℕ) (x : X) (y : Y) → slice_get xs n ≡ Some x → slice_get ys n ≡ Some y → R x y

-- the package with a list of the ranks that are so
pub record IsWithList (IsIn : ℕ → ℕ → Type 0) (k : Placed) (p : Package) : Type 0 where
  pub head : p ≡ record k.0 { list = p.list }
  pub rising : IsRising p.list
  pub members : (r : ℕ) → Contains p.list r ↔ IsIn k.1 r

module _ (nodes : List NodeView) (enabled : List (List Bool)) where
  -- the packages with the lists that the ranks give
  abbrev pub HaveLists : List (Option ℕ) → List Placed → Content → Type 0
  HaveLists ranks ks ps =
      AreBeside (λ k p. IsWithList (λ n r. IsListed (targets_at nodes n) (flags_at enabled n) ranks r) k p) ks ps

module _ (nodes : List NodeView) (enabled : List (List Bool)) where
  -- place t is where some enabled dependency of place n leads
  abbrev pub LeadsFrom : ℕ → ℕ → Type 0
  LeadsFrom n t = (i : ℕ) × (flag_in enabled n i ≡ true) × (target_at nodes n i ≡ Some t)

  -- the packages, and in each list those to which enabled dependencies lead
  abbrev pub AreListed : List Placed → Content → Type 0
  AreListed ks ps =
      AreBeside (λ k p. IsWithList (λ n r. (s : ℕ) × LeadsFrom n s × (slice_get (places_in ks) r ≡ Some s)) k p) ks ps
