-- Ranks, and the lists that they make.
use Rattle.std.proofs.Common.{◌≡◌, ◌≢◌, ◌↔◌, ℕ, zero, suc, ◌+◌, ◌<◌, ◌≤◌, Bool, true, false, List, [], ◌∷◌, ◌++◌}
use Rattle.std.proofs.Common.{length, get_or, drop, nat_eq, Contains, Bor, Vec, Result, Ok, Err, IfOk, Option, Some}
use Rattle.std.proofs.Common.{None, option_map, slice_get, refl, sym, ap, ap₂, ◌∙◌, subst, subst₂, inl, inr, ◌⊎◌, arith}
use Rattle.std.specs.List.{AllPairs}
use Rattle.std.specs.Option.{option_and_then}
use Rattle.std.proofs.Math.Seq.{drop-cons}
use Rattle.std.proofs.Math.ListN.{set}
use Rattle.std.proofs.lemmas.Bool.{cases_eq, cases_order}
use Rattle.std.specs.Slice.{IsItemAt}
use Rattle.std.specs.Ordering.{nat_cmp}
use Rattle.std.specs.List.{dedup}
use Rattle.std.specs.List.Sorted.{IsPermutation, IsSorted}
use Rattle.std.specs.List.Retain.{DiffersFromLast, IsFiltered}
use Rattle.std.specs.declared.alloc.Global.{Global}
use Rattle.std.specs.declared.alloc.AllocError.{AllocError}
use Rattle.lockfile.specs.inner.Views.{package_views}
use Rattle.lockfile.specs.declared.package.Package.{Package}
use Rattle.std.proofs.lemmas.List.{append_assoc, length-append, length-set, get_or-set_same, get_or-set_other}
use Rattle.std.proofs.lemmas.List.Filters.{dedup_is}
use Rattle.std.proofs.lemmas.List.Kept.{AllPairs-from_increasing, Contains-dedup_nat, Contains-from_dedup}
use Rattle.std.proofs.lemmas.List.Sorted.{Contains-permutation, IsPermutation-sym}
use Rattle.std.proofs.lemmas.Map.Keys.{IsStrictlyIncreasing-dedup}
use Rattle.std.proofs.lemmas.Option.{slice_get_within, slice_get_past, slice_get-map, slice_get-get_or, same_Some}
use Rattle.std.proofs.lemmas.Option.{none-some}
use Rattle.model.proofs.Lists.{in_none, in_cons, in_first, in_rest, pairs_get}
use Rattle.model.proofs.Places.{get_push_cases, map_at}
use Rattle.catalogue.proofs.Rows.{item_at}
use Rattle.facts.specs.inner.Graphs.{NodeView, flag_at, node_view, node_views, target_at, target_if}
use Rattle.facts.specs.declared.node.Node.{Node}
use Rattle.selection.specs.inner.Contents.{AreBeside, AreListed, AreRanks, HaveLists, Placed, places_in, IsListed}
use Rattle.selection.specs.inner.Contents.{IsRising}
use Rattle.selection.specs.inner.Contents.{after, targets_at, targets_if, rank_if, ranks_from, with_rank}
use Rattle.model.specs.Content.{Content}

-- ---- the ranks of enabled targets

pub ranks_step : (n : ℕ) (ts : List (Option ℕ)) (bs : List Bool) (rs : List (Option ℕ)) (d : Option ℕ) → n < length ts
    → ranks_from n (drop n ts) bs rs
    ≡ after (rank_if (get_or ts n d) (flag_at bs n) rs) (ranks_from (n + 1) (drop (n + 1) ts) bs rs)
ranks_step n ts bs rs d lt =
    ap (λ l. ranks_from n l bs rs) (drop-cons ts n d lt)
    ∙ ap (λ k. after (rank_if (get_or ts n d) (flag_at bs n) rs) (ranks_from k (drop k ts) bs rs)) (next n)
  where
    next : (n : ℕ) → suc n ≡ n + 1
    next n = omega arith

with_after : (ns : List ℕ) (o : Option ℕ) (rest : List ℕ) → with_rank ns o ++ rest ≡ ns ++ after o rest
with_after ns None rest = refl
with_after ns (Some n) rest = append_assoc ns (n ∷ []) rest

pub ranks_go_on : (n : ℕ) (ts : List (Option ℕ)) (bs : List Bool) (rs : List (Option ℕ)) (d o : Option ℕ)
    (so_far new all : List ℕ) → n < length ts → o ≡ rank_if (get_or ts n d) (flag_at bs n) rs
    → new ≡ with_rank so_far o → so_far ++ ranks_from n (drop n ts) bs rs ≡ all
    → new ++ ranks_from (n + 1) (drop (n + 1) ts) bs rs ≡ all
ranks_go_on n ts bs rs d o so_far new all lt is f told =
    let rest = ranks_from (n + 1) (drop (n + 1) ts) bs rs in
    ap (λ xs. xs ++ rest) f ∙ with_after so_far o rest
    ∙ ap (λ xs. so_far ++ xs) (sym (ranks_step n ts bs rs d lt ∙ ap (λ o. after o rest) (sym is))) ∙ told

-- what the list has

if_rank : (t : Option ℕ) (b : Bool) (rs : List (Option ℕ)) (r : ℕ) → rank_if t b rs ≡ Some r
    → (s : ℕ) × (b ≡ true) × (t ≡ Some s) × (slice_get rs s ≡ Some (Some r))
if_rank t false rs r h = absurd (none-some r h)
if_rank None true rs r h = absurd (none-some r h)
if_rank (Some s) true rs r h = (s, refl, refl, joined (slice_get rs s) h)
  where
    joined : (o : Option (Option ℕ)) → option_and_then (λ o. o) o ≡ Some r → o ≡ Some (Some r)
    joined None h = absurd (none-some r h)
    joined (Some None) h = absurd (none-some r h)
    joined (Some (Some x)) h = ap Some h

rank_is : (t : Option ℕ) (b : Bool) (rs : List (Option ℕ)) (r s : ℕ) → b ≡ true → t ≡ Some s
    → slice_get rs s ≡ Some (Some r) → rank_if t b rs ≡ Some r
rank_is t b rs r s e f got = ap₂ (λ t b. rank_if t b rs) f e ∙ ap (option_and_then (λ o. o)) got

-- the same from number k on
abbrev ListedFrom : ℕ → List (Option ℕ) → List Bool → List (Option ℕ) → ℕ → Type 0
ListedFrom k ts bs rs r =
    (i s : ℕ) × (flag_at bs (k + i) ≡ true) × (slice_get ts i ≡ Some (Some s)) × (slice_get rs s ≡ Some (Some r))

in_after : (o : Option ℕ) (ns : List ℕ) (r : ℕ) → Contains (after o ns) r → (o ≡ Some r) ⊎ Contains ns r
in_after None ns r c = inr c
in_after (Some x) ns r c = elim (in_cons x r ns c) [ inl e ↦ inl (ap Some e) | inr d ↦ inr d ]

after_first : (o : Option ℕ) (ns : List ℕ) (r : ℕ) → o ≡ Some r → Contains (after o ns) r
after_first o ns r e = subst (λ o. Contains (after o ns) r) (sym e) (in_first r ns)

after_rest : (o : Option ℕ) (ns : List ℕ) (r : ℕ) → Contains ns r → Contains (after o ns) r
after_rest None ns r c = c
after_rest (Some x) ns r c = in_rest x r ns c

listed_from : (k : ℕ) (ts : List (Option ℕ)) (bs : List Bool) (rs : List (Option ℕ)) (r : ℕ)
    → Contains (ranks_from k ts bs rs) r → ListedFrom k ts bs rs r
listed_from k [] bs rs r c = absurd (in_none r c)
listed_from k (t ∷ ts) bs rs r c = elim (in_after (rank_if t (flag_at bs k) rs) (ranks_from (suc k) ts bs rs) r c) [
  | inl e ↦ let (s, b, is, got) =
      if_rank t (flag_at bs k) rs r e in (0, s, ap (flag_at bs) (zero_on k) ∙ b, ap Some is, got)
  | inr d ↦ let (i, s, b, at, got) =
      listed_from (suc k) ts bs rs r d in (suc i, s, ap (flag_at bs) (suc_on k i) ∙ b, at, got)
]
  where
    zero_on : (k : ℕ) → k + 0 ≡ k
    zero_on k = omega arith

    suc_on : (k i : ℕ) → k + suc i ≡ suc k + i
    suc_on k i = omega arith

from_listed : (k : ℕ) (ts : List (Option ℕ)) (bs : List Bool) (rs : List (Option ℕ)) (r : ℕ) → ListedFrom k ts bs rs r
    → Contains (ranks_from k ts bs rs) r
from_listed k [] bs rs r (i, s, b, at, got) = absurd (none-some (Some s) at)
from_listed k (t ∷ ts) bs rs r (zero, s, b, at, got) =
    after_first (rank_if t (flag_at bs k) rs) (ranks_from (suc k) ts bs rs) r
    (rank_is t (flag_at bs k) rs r s (ap (flag_at bs) (zero_on k) ∙ b) (same_Some t (Some s) at) got)
  where
    zero_on : (k : ℕ) → k ≡ k + 0
    zero_on k = omega arith
from_listed k (t ∷ ts) bs rs r (suc i, s, b, at, got) =
    after_rest (rank_if t (flag_at bs k) rs) (ranks_from (suc k) ts bs rs) r
    (from_listed (suc k) ts bs rs r (i, s, ap (flag_at bs) (suc_on k i) ∙ b, at, got))
  where
    suc_on : (k i : ℕ) → suc k + i ≡ k + suc i
    suc_on k i = omega arith

pub listed_is : (ts : List (Option ℕ)) (bs : List Bool) (rs : List (Option ℕ)) (r : ℕ)
    → Contains (ranks_from 0 ts bs rs) r ↔ IsListed ts bs rs r
listed_is ts bs rs r = (
  (λ c. let (i, s, b, at, got) = listed_from 0 ts bs rs r c in (i, s, ap (flag_at bs) (from_zero i) ∙ b, at, got)),
  (λ (i, s, b, at, got). from_listed 0 ts bs rs r (i, s, ap (flag_at bs) (sym (from_zero i)) ∙ b, at, got)),
)
  where
    from_zero : (i : ℕ) → i ≡ 0 + i
    from_zero i = omega arith

-- ---- the ranks of places

-- the ranks of the first n places
pub record RanksTo (places : List ℕ) (count n : ℕ) (ranks : List (Option ℕ)) : Type 0 where
  pub many : length ranks ≡ count
  pub are : (t r : ℕ) → (slice_get ranks t ≡ Some (Some r)) ↔ ((r < n) × (slice_get places r ≡ Some t))

pub ranks_are : (places : List ℕ) (count n : ℕ) (ranks : List (Option ℕ)) → RanksTo places count n ranks
    → length places ≤ n → AreRanks places ranks
ranks_are places count n ranks h le t r = (
  (λ got. ((h.are t r).0 got).1),
  (λ at. let lt = slice_get_within places r t at in (h.are t r).1 (omega (arith, lt, le), at)),
)

pub one_rank : (places : List ℕ) (count n p : ℕ) (ranks : List (Option ℕ)) → AllPairs (λ a b. a ≢ b) places
    → slice_get places n ≡ Some p → p < count → RanksTo places count n ranks
    → RanksTo places count (n + 1) (set ranks p (Some n))
one_rank places count n p ranks apart at_p lt h = record {
  many = length-set ranks p (Some n) ∙ h.many;
  are = λ t r. (to t r, from t r);
}
  where
    within : p < length ranks
    within = let many = h.many in omega (arith, lt, many)

    here : slice_get (set ranks p (Some n)) p ≡ Some (Some n)
    here =
        slice_get-get_or (set ranks p (Some n)) p None (subst (λ k. p < k) (sym (length-set ranks p (Some n))) within)
        ∙ ap Some (get_or-set_same ranks p (Some n) None within)

    other : (t : ℕ) → t ≢ p → slice_get (set ranks p (Some n)) t ≡ slice_get ranks t
    other t different = elim (cases_order t (length ranks)) [
      | inl e ↦ past t (omega (arith, e))
      | inr o ↦ elim o [
        | inl below ↦ slice_get-get_or (set ranks p (Some n)) t None
            (subst (λ k. t < k) (sym (length-set ranks p (Some n))) below)
            ∙ ap Some (get_or-set_other ranks p t (Some n) None different) ∙ sym (slice_get-get_or ranks t None below)
        | inr above ↦ past t (omega (arith, above))
      ]
    ]
      where
        past : (t : ℕ) → length ranks ≤ t → slice_get (set ranks p (Some n)) t ≡ slice_get ranks t
        past t le = slice_get_past (set ranks p (Some n)) t (subst (λ k. k ≤ t) (sym (length-set ranks p (Some n))) le)
            ∙ sym (slice_get_past ranks t le)

    same_place : (r m t : ℕ) → slice_get places r ≡ Some t → slice_get places m ≡ Some t → r ≡ m
    same_place r m t got had = elim (cases_order r m) [
      | inl e ↦ e
      | inr o ↦ elim o [
        | inl below ↦ absurd (pairs_get (λ a b. a ≢ b) places r m t t apart below got had refl)
        | inr above ↦ absurd (pairs_get (λ a b. a ≢ b) places m r t t apart above had got refl)
      ]
    ]

    to : (t r : ℕ) → slice_get (set ranks p (Some n)) t ≡ Some (Some r) → (r < n + 1) × (slice_get places r ≡ Some t)
    to t r got = elim (cases_eq t p) [
      | inl e ↦
          let is : Some n ≡ Some r =
          same_Some (Some n) (Some r) (sym (ap (slice_get (set ranks p (Some n))) e ∙ here) ∙ got) in
          let number : n ≡ r = same_Some n r is in
          (omega (arith, number), ap (slice_get places) (sym number) ∙ at_p ∙ ap Some (sym e))
      | inr different ↦ let b = (h.are t r).0 (sym (other t different) ∙ got) in let below =
          b.0 in (omega (arith, below), b.1)
    ]

    from : (t r : ℕ) → (r < n + 1) × (slice_get places r ≡ Some t) → slice_get (set ranks p (Some n)) t ≡ Some (Some r)
    from t r (below, at) = elim (cases_eq t p) [
      | inl e ↦ let number : r ≡ n = same_place r n t at (at_p ∙ ap Some (sym e)) in
          ap (slice_get (set ranks p (Some n))) e ∙ here ∙ ap (λ k. Some (Some k)) (sym number)
      | inr different ↦ elim (cases_order r n) [
        | inl number ↦ absurd (different (same_Some t p (sym (ap (slice_get places) (sym number) ∙ at) ∙ at_p)))
        | inr o ↦ elim o [
          | inl less ↦ other t different
              ∙ (h.are t r).1 (less, at)
          | inr more ↦ absurd (omega (arith, below, more))
        ]
      ]
    ]

-- ---- sorted and without repeats

pub rising_list : (xs ys zs : List ℕ) → IsSorted nat_cmp ys → IsFiltered (DiffersFromLast nat_eq) [] ys zs → IsRising zs
rising_list xs ys zs sorted kept = subst IsRising (sym (dedup_is nat_eq ys zs kept))
    (AllPairs-from_increasing (dedup nat_eq ys) (IsStrictlyIncreasing-dedup ys sorted))

pub same_in_list : (xs ys zs : List ℕ) (r : ℕ) → IsPermutation xs ys → IsFiltered (DiffersFromLast nat_eq) [] ys zs
    → Contains zs r ↔ Contains xs r
same_in_list xs ys zs r moved kept =
    let is = dedup_is nat_eq ys zs kept in (
      (λ c. Contains-permutation ys xs r (IsPermutation-sym xs ys moved)
          (Contains-from_dedup nat_eq ys r (subst (λ l. Contains l r) is c))),
      (λ c. subst (λ l. Contains l r) (sym is) (Contains-dedup_nat ys r (Contains-permutation xs ys r moved c))),
    )

-- ---- what stands at a place

pub targets_got : (nodes : List Node) (n : ℕ) (m : Node) → slice_get nodes n ≡ Some m
    → targets_at (node_views nodes) n ≡ m.targets.items
targets_got nodes n m got = ap targets_if (map_at node_view nodes n m got)

pub targets_none : (nodes : List Node) (n : ℕ) → slice_get nodes n ≡ None → targets_at (node_views nodes) n ≡ []
targets_none nodes n none = ap targets_if (slice_get-map node_view nodes n ∙ ap (option_map node_view) none)

pub no_item : {X : Type 0} (xs : List X) (i : ℕ) (r : Option (Bor X)) → IsItemAt xs i r
    → r ≡ None → slice_get xs i ≡ None
no_item {X = X} xs i r h e =
    by (slice_get xs i) (sym (ap (option_map (λ (b : Bor X). b.now)) e) ∙ item_at (λ (x : X). x) xs i r h)
  where
    by : (o : Option X) → None ≡ option_map (λ (x : X). x) o → o ≡ None
    by None h = refl
    by (Some x) h = absurd (none-some x h)

-- ---- packages with their lists

pub beside_more : {X Y : Type 0} (R : X → Y → Type 0) (xs : List X) (ys : List Y) (x : X) (y : Y) → AreBeside R xs ys
    → R x y → AreBeside R (xs ++ x ∷ []) (ys ++ y ∷ [])
beside_more R xs ys x y h r =
    let many = h.as_many in
    record {
      as_many = length-append xs (x ∷ []) ∙ omega (arith, many) ∙ sym (length-append ys (y ∷ []));
      each = λ n a b got had. elim (get_push_cases xs x n a got) [
        | inl e ↦ elim (get_push_cases ys y n b had) [
          | inl f ↦ h.each n a b e f
          | inr f ↦ let lt = slice_get_within xs n a e in let last = f.0 in absurd (omega (arith, lt, last, many))
        ]
        | inr e ↦ elim (get_push_cases ys y n b had) [
          | inl f ↦ let lt = slice_get_within ys n b f in let last = e.0 in absurd (omega (arith, lt, last, many))
          | inr f ↦ subst₂ R e.1 f.1 r
        ]
      ];
    }

target_there : (nodes : List NodeView) (n i s : ℕ) → slice_get (targets_at nodes n) i ≡ Some (Some s)
    → target_at nodes n i ≡ Some s
target_there nodes n i s got = by (slice_get nodes n) got
  where
    by : (o : Option NodeView) → slice_get (targets_if o) i ≡ Some (Some s) → target_if i o ≡ Some s
    by None h = absurd (none-some (Some s) h)
    by (Some v) h = ap (option_and_then (λ o. o)) h

target_back : (nodes : List NodeView) (n i s : ℕ) → target_at nodes n i ≡ Some s
    → slice_get (targets_at nodes n) i ≡ Some (Some s)
target_back nodes n i s got = by (slice_get nodes n) got
  where
    joined : (o : Option (Option ℕ)) → option_and_then (λ o. o) o ≡ Some s → o ≡ Some (Some s)
    joined None h = absurd (none-some s h)
    joined (Some None) h = absurd (none-some s h)
    joined (Some (Some x)) h = ap Some h

    by : (o : Option NodeView) → target_if i o ≡ Some s → slice_get (targets_if o) i ≡ Some (Some s)
    by None h = absurd (none-some s h)
    by (Some v) h = joined (slice_get v.targets i) h

-- what the ranks say is what dependencies lead to
pub lists_are : (nodes : List NodeView) (enabled : List (List Bool)) (ranks : List (Option ℕ)) (ks : List Placed)
    (ps : Content) → AreRanks (places_in ks) ranks
    → HaveLists nodes enabled ranks ks ps → AreListed nodes enabled ks ps
lists_are nodes enabled ranks ks ps are h = record {
  as_many = h.as_many;
  each = λ n k p got had.
      let w = h.each n k p got had in
      record {
        head = w.head;
        rising = w.rising;
        members = λ r. (
          (λ c. let (i, s, flag, at, rank) =
              (w.members r).0 c in (s, (i, flag, target_there nodes k.1 i s at), (are s r).0 rank)),
          (λ (s, (i, flag, at), place). (w.members r).1 (i, s, flag, target_back nodes k.1 i s at, (are s r).1 place)),
        );
      };
}

pub listed_ok : (nodes : List NodeView) (enabled : List (List Bool)) (ranks : List (Option ℕ)) (ks : List Placed)
    (r : Result (Vec Package Global) AllocError) → AreRanks (places_in ks) ranks
    → IfOk r (λ v. HaveLists nodes enabled ranks ks (package_views v.items))
    → IfOk r (λ v. AreListed nodes enabled ks (package_views v.items))
listed_ok nodes enabled ranks ks (Ok v) are h = lists_are nodes enabled ranks ks (package_views v.items) are h
listed_ok nodes enabled ranks ks (Err e) are h = h
