-- Owners that are put in package order stay the same ones, and rise.
use Rattle.std.proofs.Common.{◌≡◌, ◌≢◌, ℕ, List, [], ◌∷◌, get_or, arith, true, false, cond, Contains, Ordering, Less}
use Rattle.std.proofs.Common.{Equal, Greater, is_gt, refl, sym, ap, ap₂, ◌∙◌, subst, subst₂, true≢false, nat_cmp, Some}
use Rattle.std.specs.Cmp.{IsTotalOrder}
use Rattle.std.specs.Cmp.Lexicographic.{slice_cmp}
use Rattle.std.specs.List.{All, AllPairs}
use Rattle.std.specs.List.Sorted.{IsPermutation}
use Rattle.std.specs.Ordering.{ordering_reverse, ordering_then}
use Rattle.std.proofs.lemmas.Bool.Decides.{nat_tests}
use Rattle.std.proofs.lemmas.Cmp.{on_total}
use Rattle.std.proofs.lemmas.List.Kept.{AllPairs-cons}
use Rattle.std.proofs.lemmas.List.Sorted.{IsPermutation-refl, IsPermutation-sym, IsPermutation-cons}
use Rattle.std.proofs.lemmas.List.Sorted.{IsPermutation-trans, IsPermutation-middle, All-permutation}
use Rattle.std.proofs.lemmas.List.Sorted.{Contains-permutation}
use Rattle.semver.specs.Identifiers.{parts_text}
use Rattle.model.specs.Content.{Problem, Candidate, candidates_of}
use Rattle.model.specs.Order.{text_cmp, precedence, version_cmp, source_cmp, package_cmp, IsCatalogue, put_in}
use Rattle.model.specs.Vertices.{Owner, the_root, version_of}
use Rattle.model.specs.Axioms.{IsOwner}
use Rattle.model.specs.inner.ContentOf.{Kept, package_of, kept_cmp, in_package_order}
use Rattle.model.proofs.Contents.{each_version_tied}
use Rattle.model.proofs.Lists.{all_cons, all_first, all_rest, pairs_none, pairs_one, pairs_rest, pairs_all}
use Rattle.model.proofs.PackageOrder.{package_total}
use Rattle.model.proofs.Permuted.{pairs-permutation, rising-same}

-- the parts of a comparison that ties
then-tie : (a b : Ordering) → ordering_then a b ≡ Equal → (a ≡ Equal) × (b ≡ Equal)
then-tie Less b h = cc
then-tie Equal b h = (refl, h)
then-tie Greater b h = cc

nat-tie : (a b : ℕ) → nat_cmp a b ≡ Equal → a ≡ b
nat-tie a b h = grind (arith, nat_tests, h)

pub text-tie : (a b : List ℕ) → text_cmp a b ≡ Equal → a ≡ b
text-tie [] [] h = refl
text-tie [] (y ∷ ys) h = cc
text-tie (x ∷ xs) [] h = cc
text-tie (x ∷ xs) (y ∷ ys) h = let e =
    then-tie (nat_cmp x y) (slice_cmp nat_cmp xs ys) h in ap₂ (λ z zs. z ∷ zs) (nat-tie x y e.0) (text-tie xs ys e.1)

less-equal : Less ≡ Equal → ⊥
less-equal e = cc

module _ (q : Problem) where
  abbrev pub Rises : Kept → Kept → Type 0
  Rises a b = kept_cmp q a b ≡ Less

  abbrev pub Differ : Kept → Kept → Type 0
  Differ a b = kept_cmp q a b ≢ Equal

  pub kept_total : IsTotalOrder (kept_cmp q)
  kept_total = on_total (λ (k : Kept). package_of q k.owner []) package_total

  pub place-permutes : (k : Kept) (ms : List Kept) → IsPermutation (k ∷ ms) (put_in (kept_cmp q) k ms)
  place-permutes k [] = IsPermutation-refl (k ∷ [])
  place-permutes k (m ∷ ms) = elim (is_gt (kept_cmp q k m)) as
      (λ b. IsPermutation (k ∷ m ∷ ms) (cond b (m ∷ put_in (kept_cmp q) k ms) (k ∷ m ∷ ms))) [
        | true ↦ IsPermutation-trans (k ∷ m ∷ ms) (m ∷ k ∷ ms) (m ∷ put_in (kept_cmp q) k ms)
            (IsPermutation-sym (m ∷ k ∷ ms) (k ∷ m ∷ ms) (IsPermutation-middle (m ∷ []) k ms))
            (IsPermutation-cons m (k ∷ ms) (put_in (kept_cmp q) k ms) (place-permutes k ms))
        | false ↦ IsPermutation-refl (k ∷ m ∷ ms)
      ]

  pub order-permutes : (ks : List Kept) → IsPermutation ks (in_package_order q ks)
  unfolding in_package_order
  order-permutes [] = IsPermutation-refl []
  order-permutes (k ∷ ks) =
      IsPermutation-trans (k ∷ ks) (k ∷ in_package_order q ks) (put_in (kept_cmp q) k (in_package_order q ks))
      (IsPermutation-cons k ks (in_package_order q ks) (order-permutes ks)) (place-permutes k (in_package_order q ks))

  place-rises : (k : Kept) (ms : List Kept) → AllPairs Rises ms → All (Differ k) ms
      → AllPairs Rises (put_in (kept_cmp q) k ms)
  place-rises k [] h apart = pairs_one Rises k
  place-rises k (m ∷ ms) h apart =
      by (kept_cmp q k m) refl (place-rises k ms (pairs_rest Rises m ms h) (all_rest (Differ k) m ms apart))
    where
      above : All (Rises m) ms
      above = pairs_all Rises m ms h

      by : (o : Ordering) → kept_cmp q k m ≡ o → AllPairs Rises (put_in (kept_cmp q) k ms)
          → AllPairs Rises (cond (is_gt o) (m ∷ put_in (kept_cmp q) k ms) (k ∷ m ∷ ms))
      by Less x rest = AllPairs-cons Rises k (m ∷ ms)
          (all_cons (Rises k) m ms x (λ i d lt. kept_total.trans k m (get_or ms i d) x (above i d lt))) h
      by Equal x rest = absurd (all_first (Differ k) m ms apart x)
      by Greater x rest = AllPairs-cons Rises m (put_in (kept_cmp q) k ms)
          (All-permutation (Rises m) (k ∷ ms) (put_in (kept_cmp q) k ms) (place-permutes k ms)
          (all_cons (Rises m) k ms (kept_total.antisymm m k ∙ ap ordering_reverse x) above)) rest

  pub order-rises : (ks : List Kept) → AllPairs Differ ks → AllPairs Rises (in_package_order q ks)
  unfolding in_package_order
  order-rises [] h = pairs_none Rises
  order-rises (k ∷ ks) h = place-rises k (in_package_order q ks) (order-rises ks (pairs_rest Differ k ks h))
      (All-permutation (Differ k) ks (in_package_order q ks) (order-permutes ks) (pairs_all Differ k ks h))

  -- owners that differ, and stand in an order in which none comes before an earlier one, stand in package order
  pub order-unique : (ks ys : List Kept) → AllPairs Differ ks → IsPermutation ks ys
      → AllPairs (λ a b. is_gt (kept_cmp q a b) ≡ false) ys → ys ≡ in_package_order q ks
  order-unique ks ys apart permuted sorted =
      let from_ys =
      IsPermutation-trans ys ks (in_package_order q ks) (IsPermutation-sym ks ys permuted) (order-permutes ks) in
      rising-same Rises never ys (in_package_order q ks) rises (order-rises ks apart)
      (λ k c. Contains-permutation ys (in_package_order q ks) k from_ys c)
      (λ k c.
      Contains-permutation (in_package_order q ks) ys k (IsPermutation-sym ys (in_package_order q ks) from_ys) c)
    where
      never : (a b : Kept) → Rises a b → Rises b a → ⊥
      never a b h k = let x : Less ≡ Greater = sym h ∙ kept_total.antisymm a b ∙ ap ordering_reverse k in cc

      less : (o : Ordering) → o ≢ Equal → is_gt o ≡ false → o ≡ Less
      less Less n h = refl
      less Equal n h = absurd (n refl)
      less Greater n h = absurd (true≢false h)

      still_apart : AllPairs Differ ys
      still_apart =
          pairs-permutation Differ (λ a b h e. h (kept_total.antisymm a b ∙ ap ordering_reverse e)) ks ys permuted apart

      rises : AllPairs Rises ys
      rises i j d lt within =
          less (kept_cmp q (get_or ys i d) (get_or ys j d)) (still_apart i j d lt within) (sorted i j d lt within)

  module _ (catalogue : IsCatalogue q) where
    -- two owners that differ don't tie
    owners-differ : (a b : Owner) → IsOwner q a → IsOwner q b → a ≢ b
        → package_cmp (package_of q a []) (package_of q b []) ≢ Equal
    owners-differ the_root the_root o p n e = n refl
    owners-differ the_root (version_of m w) o p n e =
        let x = then-tie (text_cmp q.name m) (ordering_then (version_cmp q.version w) Greater) e in
        let y : Greater ≡ Equal = (then-tie (version_cmp q.version w) Greater x.1).1 in
        less-equal (ap ordering_reverse y)
    owners-differ (version_of m v) the_root o p n e =
        let x = then-tie (text_cmp m q.name) (ordering_then (version_cmp v q.version) Less) e in
        let y : Less ≡ Equal = (then-tie (version_cmp v q.version) Less x.1).1 in
        less-equal y
    owners-differ (version_of m v) (version_of l w) (c, i, c_is) (r, j, r_is) n e =
        let x =
        then-tie (text_cmp m l) (ordering_then (version_cmp v w) (source_cmp (Some q.source) (Some q.source))) e in
        let y = then-tie (version_cmp v w) (source_cmp (Some q.source) (Some q.source)) x.1 in
        let names : m ≡ l = text-tie m l x.0 in
        let tie : precedence v w ≡ Equal = (then-tie (precedence v w) (text_cmp (parts_text v) (parts_text w)) y.0).0 in
        let same : c ≡ r =
        each_version_tied q catalogue m c r i (subst (λ k. Contains (candidates_of q.candidates k) r) (sym names) j)
        (subst₂ (λ v w. precedence v w ≡ Equal) (sym c_is) (sym r_is) tie) in
        n (ap₂ version_of names (sym c_is ∙ ap (λ (x : Candidate). x.version) same ∙ r_is))

    -- owners that are there, each once, differ
    pub kept-differ : (ks : List Kept) → All (λ k. IsOwner q k.owner) ks
        → AllPairs (λ a b. a.owner ≢ b.owner) ks → AllPairs Differ ks
    kept-differ ks owners distinct i j d lt within =
        owners-differ (get_or ks i d).owner (get_or ks j d).owner (owners i d (omega (arith, lt, within)))
        (owners j d within) (distinct i j d lt within)
