-- The content of the owners that are kept has a package for each of them, and their targets as its lists.
use Rattle.std.proofs.Common.{◌≡◌, ◌↔◌, ℕ, zero, suc, ◌+◌, ◌<◌, ◌≤◌, List, [], ◌∷◌, map, length, Bool, true, false}
use Rattle.std.proofs.Common.{cond, Contains, Option, Some, None, option_map, slice_get, Less, refl, sym, ap, ◌∙◌}
use Rattle.std.proofs.Common.{subst, subst₂, inl, inr, true≢false, arith}
use Rattle.std.specs.List.{list_any, All, AllPairs}
use Rattle.std.specs.List.Sorted.{IsPermutation}
use Rattle.std.proofs.lemmas.Bool.{and_from}
use Rattle.std.proofs.lemmas.List.{length-map}
use Rattle.std.proofs.lemmas.List.Kept.{AllPairs-cons}
use Rattle.std.proofs.lemmas.List.Sorted.{IsPermutation-sym, Contains-permutation}
use Rattle.std.proofs.lemmas.Option.{none-some, same_Some, slice_get-map}
use Rattle.model.specs.Summary.{Dependency, same_text}
use Rattle.model.specs.Selection.{enabled, Brings}
use Rattle.model.specs.Content.{Package, Problem, candidates_of, candidate_at, is_root, same_version}
use Rattle.model.specs.Order.{package_cmp, IsContent, IsCatalogue}
use Rattle.model.specs.Vertices.{Owner, the_root, version_of, same_owner, owner_brings}
use Rattle.model.specs.Walk.{name_of, IsReachedFact, IsLink, StandsFor}
use Rattle.model.specs.inner.ContentOf.{Kept, package_of, in_package_order, places_from, content_of, IsTargetOf}
use Rattle.model.specs.inner.ContentOf.{AreKept}
use Rattle.model.proofs.Lists.{in_none, in_cons, in_first, in_rest, to_any, any_of, all_get, all_none, all_cons}
use Rattle.model.proofs.Lists.{all_first, all_rest, pairs_none, pairs_all, pairs_rest}
use Rattle.model.proofs.Places.{place_of, got_in}
use Rattle.model.proofs.Same.{owner-same, owner-refl, text-refl, version-refl}
use Rattle.model.proofs.Ordered.{Rises, order-permutes, order-rises, kept-differ}

module _ {X Y : Type 0} (f : X → Y) where
  all_map : (P : Y → Type 0) → ((x : X) → P (f x)) → (xs : List X) → All P (map f xs)
  all_map P h [] = all_none P
  all_map P h (x ∷ xs) = all_cons P (f x) (map f xs) (h x) (all_map P h xs)

  all_map_if : (P : X → Type 0) (Q : Y → Type 0) → ((x : X) → P x → Q (f x)) → (xs : List X)
      → All P xs → All Q (map f xs)
  all_map_if P Q h [] k = all_none Q
  all_map_if P Q h (x ∷ xs) k =
      all_cons Q (f x) (map f xs) (h x (all_first P x xs k)) (all_map_if P Q h xs (all_rest P x xs k))

  pub pairs_map : (R : X → X → Type 0) (S : Y → Y → Type 0) → ((x y : X) → R x y → S (f x) (f y)) → (xs : List X)
      → AllPairs R xs → AllPairs S (map f xs)
  pairs_map R S h [] k = pairs_none S
  pairs_map R S h (x ∷ xs) k =
      AllPairs-cons S (f x) (map f xs) (all_map_if (R x) (S (f x)) (h x) xs (pairs_all R x xs k))
      (pairs_map R S h xs (pairs_rest R x xs k))

-- ---- the places of targets

-- the owner is among the targets
abbrev IsAmong : List Owner → Kept → Type 0
IsAmong ts k = list_any (same_owner k.owner) ts ≡ true

pub record Placed (ks : List Kept) (ts : List Owner) (n t : ℕ) : Type 0 where
  pub j : ℕ
  pub k : Kept
  pub is : t ≡ n + j
  pub got : slice_get ks j ≡ Some k
  pub among : IsAmong ts k

placed_from : (n t : ℕ) (ks : List Kept) (ts : List Owner) → Contains (places_from n ks ts) t → Placed ks ts n t
placed_from n t [] ts c = absurd (in_none t c)
placed_from n t (k ∷ ks) ts c = by (λ c. placed_from (suc n) t ks ts c) (list_any (same_owner k.owner) ts) refl c
  where
    later : Placed ks ts (suc n) t → Placed (k ∷ ks) ts n t
    later p = record { j = suc p.j; k = p.k; is = omega (arith, p.is); got = p.got; among = p.among }

    by : (Contains (places_from (suc n) ks ts) t → Placed ks ts (suc n) t) → (b : Bool)
        → list_any (same_owner k.owner) ts ≡ b
        → Contains (cond b (n ∷ places_from (suc n) ks ts) (places_from (suc n) ks ts)) t → Placed (k ∷ ks) ts n t
    by rest false e c = later (rest c)
    by rest true e c = elim (in_cons n t (places_from (suc n) ks ts) c) [
      | inl same ↦ record { j = zero; k = k; is = omega (arith, same); got = refl; among = e }
      | inr c ↦ later (rest c)
    ]

to_placed : (n : ℕ) (ks : List Kept) (ts : List Owner) (j : ℕ) (k : Kept) → slice_get ks j ≡ Some k → IsAmong ts k
    → Contains (places_from n ks ts) (n + j)
to_placed n [] ts j k e a = absurd (none-some k e)
to_placed n (m ∷ ks) ts zero k e a =
    let h : list_any (same_owner m.owner) ts ≡ true = subst (IsAmong ts) (sym (same_Some m k e)) a in
    let z : n ≡ n + 0 = omega arith in
    subst₂ (λ (b : Bool) (t : ℕ). Contains (cond b (n ∷ places_from (suc n) ks ts) (places_from (suc n) ks ts)) t)
    (sym h) z (in_first n (places_from (suc n) ks ts))
to_placed n (m ∷ ks) ts (suc j) k e a =
    let rest = to_placed (suc n) ks ts j k e a in
    let z : suc n + j ≡ n + suc j = omega arith in
    let c : Contains (places_from (suc n) ks ts) (n + suc j) = subst (Contains (places_from (suc n) ks ts)) z rest in
    elim (list_any (same_owner m.owner) ts) as
    (λ b. Contains (cond b (n ∷ places_from (suc n) ks ts) (places_from (suc n) ks ts)) (n + suc j)) [
      | true ↦ in_rest n (n + suc j) (places_from (suc n) ks ts) c
      | false ↦ c
    ]

-- they lie between n and n + length ks, and rise
places_within : (n : ℕ) (ks : List Kept) (ts : List Owner)
    → All (λ t. (n ≤ t) × (t < n + length ks)) (places_from n ks ts)
places_within n [] ts = all_none (λ t. (n ≤ t) × (t < n + 0))
places_within n (k ∷ ks) ts =
    let later : All (λ t. (n ≤ t) × (t < n + suc (length ks))) (places_from (suc n) ks ts) =
    λ i d lt. let h = places_within (suc n) ks ts i d lt in (omega (arith, h.0), omega (arith, h.1)) in
    elim (list_any (same_owner k.owner) ts) as (λ b. All (λ t. (n ≤ t) × (t < n + suc (length ks)))
    (cond b (n ∷ places_from (suc n) ks ts) (places_from (suc n) ks ts))) [
      | true ↦ all_cons
          (λ t. (n ≤ t) × (t < n + suc (length ks))) n (places_from (suc n) ks ts) (omega arith, omega arith) later
      | false ↦ later
    ]

places_rise : (n : ℕ) (ks : List Kept) (ts : List Owner) → AllPairs (λ i j. i < j) (places_from n ks ts)
places_rise n [] ts = pairs_none (λ i j. i < j)
places_rise n (k ∷ ks) ts =
    elim (list_any (same_owner k.owner) ts) as
    (λ b. AllPairs (λ i j. i < j) (cond b (n ∷ places_from (suc n) ks ts) (places_from (suc n) ks ts))) [
      | true ↦ AllPairs-cons (λ i j. i < j) n (places_from (suc n) ks ts)
          (λ i d lt. (places_within (suc n) ks ts i d lt).0) (places_rise (suc n) ks ts)
      | false ↦ places_rise (suc n) ks ts
    ]

-- ---- packages

module _ (q : Problem) where
  cmp_lists : (o p : Owner) (l m : List ℕ)
      → package_cmp (package_of q o l) (package_of q p m) ≡ package_cmp (package_of q o []) (package_of q p [])
  cmp_lists the_root the_root l m = refl
  cmp_lists the_root (version_of n v) l m = refl
  cmp_lists (version_of n v) the_root l m = refl
  cmp_lists (version_of n v) (version_of u w) l m = refl

  root_is : (l : List ℕ) → is_root q (package_of q the_root l) ≡ true
  root_is l =
      and_from (same_text q.name q.name) (same_version q.version q.version) (text-refl q.name) (version-refl q.version)

  -- the package of an owner has its name
  pub name_back : (o : Owner) (l : List ℕ) → name_of q (package_of q o l) ≡ o
  name_back the_root l = ap (λ b. cond b the_root (version_of q.name q.version)) (root_is l)
  name_back (version_of n v) l = refl

  list_back : (o : Owner) (l : List ℕ) → (package_of q o l).list ≡ l
  list_back the_root l = refl
  list_back (version_of n v) l = refl

  root_sum : (o : Owner) (l : List ℕ) → is_root q (package_of q o l) ≡ true → (package_of q o l).checksum ≡ None
  root_sum the_root l h = refl
  root_sum (version_of n v) l h = absurd (true≢false (sym h))

  source_is : (o : Owner) (l : List ℕ) → is_root q (package_of q o l) ≡ false
      → (package_of q o l).source ≡ Some q.source
  source_is the_root l h = absurd (true≢false (sym (root_is l) ∙ h))
  source_is (version_of n v) l h = refl

  sum_is : (o : Owner) (l : List ℕ) → is_root q (package_of q o l) ≡ false
      → (package_of q o l).checksum ≡ option_map (λ c. c.checksum)
      (candidate_at (candidates_of q.candidates (package_of q o l).name) (package_of q o l).version)
  sum_is the_root l h = absurd (true≢false (sym (root_is l) ∙ h))
  sum_is (version_of n v) l h = refl

  module _ (LeadsTo : Owner → ℕ → Dependency → Owner → Type 0) (catalogue : IsCatalogue q) (kept : List Kept)
      (are : AreKept q LeadsTo kept) where
    pub ks : List Kept
    ks = in_package_order q kept

    permuted : IsPermutation kept ks
    unfolding ks
    permuted = order-permutes q kept

    pub places : Kept → List ℕ
    places k = places_from 0 ks k.targets

    pub as_package : Kept → Package
    as_package k = package_of q k.owner (places k)

    content_is : content_of q kept ≡ map as_package ks
    unfolding as_package places ks
    content_is = refl

    -- the package at a place is that of the owner there
    pub record At (n : ℕ) (p : Package) : Type 0 where
      pub k : Kept
      pub got : slice_get ks n ≡ Some k
      pub is : p ≡ as_package k

    at : (n : ℕ) (p : Package) → slice_get (map as_package ks) n ≡ Some p → At n p
    at n p got = by (slice_get ks n) refl (sym (slice_get-map as_package ks n) ∙ got)
      where
        by : (o : Option Kept) → slice_get ks n ≡ o → option_map as_package o ≡ Some p → At n p
        by None e h = absurd (none-some p h)
        by (Some k) e h = record { k = k; got = e; is = sym (same_Some (as_package k) p h) }

    to_at : (n : ℕ) (k : Kept) → slice_get ks n ≡ Some k → slice_get (map as_package ks) n ≡ Some (as_package k)
    to_at n k e = slice_get-map as_package ks n ∙ ap (option_map as_package) e

    named : (n : ℕ) (p : Package) (x : At n p) → name_of q p ≡ (x.k).owner
    unfolding as_package
    named n p x = ap (name_of q) x.is ∙ name_back (x.k).owner (places x.k)

    -- the owner at a place is one that is kept, and back
    from_order : (k : Kept) → Contains ks k → Contains kept k
    from_order k c = Contains-permutation ks kept k (IsPermutation-sym kept ks permuted) c

    to_order : (k : Kept) → Contains kept k → Contains ks k
    to_order k c = Contains-permutation kept ks k permuted c

    -- the targets of a kept owner
    targets_at : (k : Kept) → Contains ks k → (t : Owner) → Contains k.targets t ↔ IsTargetOf q LeadsTo k.owner t
    targets_at k c = let r = place_of kept k (from_order k c) in
        all_get (λ k. (t : Owner) → Contains k.targets t ↔ IsTargetOf q LeadsTo k.owner t) kept r.0 k are.targets r.1

    among_target : (k m : Kept) → IsAmong k.targets m → Contains k.targets m.owner
    among_target k m a = let r =
        any_of (same_owner m.owner) k.targets a in subst (Contains k.targets) (sym (owner-same m.owner r.0 r.2)) r.1

    to_among : (k m : Kept) → Contains k.targets m.owner → IsAmong k.targets m
    to_among k m c = to_any (same_owner m.owner) k.targets m.owner c (owner-refl m.owner)

    abbrev Before : Package → Package → Type 0
    Before p r = package_cmp p r ≡ Less

    formed : IsContent (map as_package ks)
    unfolding as_package places ks
    formed = record {
      in_order = pairs_map as_package (Rises q) Before (λ k m h. cmp_lists k.owner m.owner (places k) (places m) ∙ h) ks
          (order-rises q kept (kept-differ q catalogue kept are.owners are.distinct));
      within = all_map as_package (λ p. All (λ t. t < length (map as_package ks)) p.list)
          (λ k. subst (All (λ t. t < length (map as_package ks))) (sym (list_back k.owner (places k)))
          (λ i d lt. let h = places_within 0 ks k.targets i d lt in omega (arith, h.1, length-map ks as_package))) ks;
      rising = all_map as_package (λ p. AllPairs (λ i j. i < j) p.list)
          (λ k. subst (AllPairs (λ i j. i < j)) (sym (list_back k.owner (places k))) (places_rise 0 ks k.targets)) ks;
    }

    link_there : (n t : ℕ) (p : Package) (x : At n p) → Contains p.list t
        → (r : Package) × (i : ℕ) × (d : Dependency) × (slice_get (map as_package ks) t ≡ Some r)
        × IsLink q LeadsTo p r i d
    unfolding as_package places
    link_there n t p x c =
        let listed : Contains (places x.k) t =
        subst (λ l. Contains l t) (ap (λ (p : Package). p.list) x.is ∙ list_back (x.k).owner (places x.k)) c in
        let y = placed_from 0 t ks (x.k).targets listed in
        let place : y.j ≡ t = omega (arith, y.is) in
        let z = (targets_at x.k (got_in ks n x.k x.got) (y.k).owner).0 (among_target x.k y.k y.among) in
        let name_p : name_of q p ≡ (x.k).owner = named n p x in
        let name_r : name_of q (as_package y.k) ≡ (y.k).owner = name_back (y.k).owner (places y.k) in (
          as_package y.k,
          z.0,
          z.1,
          to_at t y.k (subst (λ j. slice_get ks j ≡ Some y.k) place y.got),
          record {
            brings = subst (λ o. Brings (owner_brings q) o z.0 z.1) (sym name_p) z.2;
            is_enabled = subst (λ o. IsReachedFact q LeadsTo (enabled o z.0)) (sym name_p) z.3;
            leads = subst₂ (λ o u. LeadsTo o z.0 z.1 u) (sym name_p) (sym name_r) z.4;
          },
        )

    link_back : (n t : ℕ) (p : Package) (x : At n p) (r : Package) (i : ℕ) (d : Dependency) (y : At t r)
        → IsLink q LeadsTo p r i d → Contains p.list t
    unfolding as_package places
    link_back n t p x r i d y l =
        let name_p : name_of q p ≡ (x.k).owner = named n p x in
        let name_r : name_of q r ≡ (y.k).owner = named t r y in
        let target : IsTargetOf q LeadsTo (x.k).owner (y.k).owner = (
          i,
          d,
          subst (λ o. Brings (owner_brings q) o i d) name_p l.brings,
          subst (λ o. IsReachedFact q LeadsTo (enabled o i)) name_p l.is_enabled,
          subst₂ (λ o u. LeadsTo o i d u) name_p name_r l.leads,
        ) in
        let c = (targets_at x.k (got_in ks n x.k x.got) (y.k).owner).1 target in
        let placed = to_placed 0 ks (x.k).targets t y.k y.got (to_among x.k y.k c) in
        let z : 0 + t ≡ t = omega arith in
        subst (λ l. Contains l t) (sym (ap (λ (p : Package). p.list) x.is ∙ list_back (x.k).owner (places x.k)))
        (subst (Contains (places_from 0 ks (x.k).targets)) z placed)

    stands : StandsFor q LeadsTo (map as_package ks)
    unfolding as_package
    stands = record {
      is_content = formed;
      packages = λ t. (
        λ h. let r = (are.reached t).0 h in
            let y = place_of ks r.0 (to_order r.0 r.1) in
            (y.0, as_package r.0, to_at y.0 r.0 y.1, name_back (r.0).owner (places r.0) ∙ r.2),
        λ (n, p, got, is). let x = at n p got in
            (are.reached t).1 (x.k, from_order x.k (got_in ks n x.k x.got), sym (named n p x) ∙ is),
      );
      root_checksum = λ n p got h. let x = at n p got in
          subst (λ (r : Package). r.checksum ≡ None) (sym x.is)
          (root_sum (x.k).owner (places x.k) (subst (λ r. is_root q r ≡ true) x.is h));
      sources = λ n p got h. let x = at n p got in
          subst (λ (r : Package). r.source ≡ Some q.source) (sym x.is)
          (source_is (x.k).owner (places x.k) (subst (λ r. is_root q r ≡ false) x.is h));
      checksums = λ n p got h. let x = at n p got in
          subst (λ (r : Package). r.checksum
          ≡ option_map (λ c. c.checksum) (candidate_at (candidates_of q.candidates r.name) r.version)) (sym x.is)
          (sum_is (x.k).owner (places x.k) (subst (λ r. is_root q r ≡ false) x.is h));
      lists = λ n t p got. let x = at n p got in (
        λ c. link_there n t p x c,
        λ z. link_back n t p x z.0 z.1 z.2 (at t z.0 z.3) z.4,
      );
    }

    -- the content stands for what is reached
    pub gathered : StandsFor q LeadsTo (content_of q kept)
    gathered = subst (StandsFor q LeadsTo) (sym content_is) stands
