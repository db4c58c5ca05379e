-- Packages that are sorted, of which no two tie, are in package order.
use Rattle.std.proofs.Common.{◌≡◌, ◌≢◌, ℕ, ◌<◌, true, false, List, [], ◌∷◌, length, get_or, refl, ap, ap₂, ◌∙◌, arith}
use Rattle.std.proofs.Common.{Ordering}
use Rattle.std.specs.List.{AllPairs}
use Rattle.std.specs.List.Sorted.{IsPermutation, IsSortedBy}
use Rattle.std.specs.Ordering.{is_lt, ordering_reverse}
use Rattle.std.specs.declared.cmp.Ordering.TheVariants.{Less, Equal, Greater}
use Rattle.std.proofs.lemmas.List.{length-map}
use Rattle.std.proofs.lemmas.List.Sorted.{sorted_far, ranks_by}
use Rattle.std.proofs.lemmas.Option.{slice_get-get_or, get_or_from_slice_get}
use Rattle.model.specs.Content.{Package}
use Rattle.model.specs.Order.{package_cmp}
use Rattle.model.proofs.Permuted.{pairs-permutation}
use Rattle.lockfile.specs.inner.Views.{package_view}
use Rattle.model.proofs.PackageOrder.{package_total}
use Rattle.model.proofs.Places.{map_at}
use Rattle.selection.specs.inner.Contents.{AreInOrder, Placed, placed_view, placed_views}
use Rattle.selection.specs.declared.placed.PlacedPackage.{PlacedPackage}

less : (o p : Ordering) → o ≡ ordering_reverse p → is_lt p ≡ false → o ≢ Equal → o ≡ Less
less Less p e h n = refl
less Equal p e h n = absurd (n refl)
less Greater Less e h n = absurd (let x : true ≡ false = h in cc)
less Greater Equal e h n = cc
less Greater Greater e h n = cc

turned : (p r : Package) → package_cmp p r ≢ Equal → package_cmp r p ≢ Equal
turned p r n e = n (package_total.antisymm p r ∙ ap ordering_reverse e)

pub in_order : (ks ys : List PlacedPackage) → AllPairs (λ k m. package_cmp k.0 m.0 ≢ Equal) (placed_views ks)
    → IsPermutation (placed_views ks) (placed_views ys)
    → IsSortedBy (λ (x y : PlacedPackage). is_lt (package_cmp (package_view x.locked) (package_view y.locked))) ys
    → AreInOrder (placed_views ys)
in_order ks ys apart moved sorted i j d lt within =
    let inside : j < length ys = rw length-map at within in
    by ys sorted (pairs-permutation (λ (k m : Placed). package_cmp k.0 m.0 ≢ Equal)
    (λ k m n. turned k.0 m.0 n) (placed_views ks) (placed_views ys) moved apart) i j d lt inside within
  where
    by : (ys : List PlacedPackage)
        → IsSortedBy (λ (x y : PlacedPackage). is_lt (package_cmp (package_view x.locked) (package_view y.locked))) ys
        → AllPairs (λ k m. package_cmp k.0 m.0 ≢ Equal) (placed_views ys)
        → (i j : ℕ) (d : Placed) → i < j → j < length ys → j < length (placed_views ys)
        → package_cmp (get_or (placed_views ys) i d).0 (get_or (placed_views ys) j d).0 ≡ Less
    by [] sorted far i j d lt inside within = absurd (omega (arith, inside))
    by (y ∷ rest) sorted far i j d lt inside within =
        let ys = y ∷ rest in
        let a = get_or ys i y in
        let b = get_or ys j y in
        let up =
        sorted_far (λ (x y : PlacedPackage). is_lt (package_cmp (package_view x.locked) (package_view y.locked)))
        (ranks_by package_total (λ (k : PlacedPackage). package_view k.locked)) ys sorted i j y
        (omega (arith, lt)) inside in
        let at_i : get_or (placed_views ys) i d ≡ placed_view a = get_or_from_slice_get (placed_views ys) i
        (placed_view a) d (map_at placed_view ys i a (slice_get-get_or ys i y (omega (arith, lt, inside)))) in
        let at_j : get_or (placed_views ys) j d ≡ placed_view b = get_or_from_slice_get (placed_views ys) j
        (placed_view b) d (map_at placed_view ys j b (slice_get-get_or ys j y inside)) in
        let no_tie = far i j d lt within in
        less (package_cmp (get_or (placed_views ys) i d).0 (get_or (placed_views ys) j d).0)
        (package_cmp (get_or (placed_views ys) j d).0 (get_or (placed_views ys) i d).0)
        (package_total.antisymm (get_or (placed_views ys) i d).0 (get_or (placed_views ys) j d).0)
        (ap₂ (λ (k m : Placed). is_lt (package_cmp k.0 m.0)) at_j at_i ∙ up) no_tie
