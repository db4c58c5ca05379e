-- What stands in the order of its names has those of a name side by side.
use Rattle.std.proofs.Common.{◌≡◌, ℕ, zero, suc, ◌+◌, ◌-◌, ◌<◌, ◌≤◌, Bool, true, false, not, cond, ◌&&◌, List, []}
use Rattle.std.proofs.Common.{◌∷◌, map}
use Rattle.std.proofs.Common.{filter, take, drop, length, get_or, Contains, Ordering, Less, Equal, Greater, refl, sym}
use Rattle.std.proofs.Common.{ap, ap₂}
use Rattle.std.proofs.Common.{◌∙◌, subst, arith, true≢false}
use Rattle.std.specs.Cmp.Lexicographic.{nat_list_cmp_total, texts_ties}
use Rattle.std.specs.List.Sorted.{IsPartitionedBy, IsPartitionPoint, IsNonDecreasingBy, IsSortedByKey, IsStableByKey}
use Rattle.std.specs.List.Sorted.{ties}
use Rattle.std.specs.Ordering.{is_lt, is_le, is_eq, ordering_index, ordering_reverse}
use Rattle.std.proofs.lemmas.List.{get_or-drop, length-drop, take_rest}
use Rattle.std.proofs.lemmas.List.Elements.{filter_agree}
use Rattle.std.proofs.lemmas.List.Sorted.{searchable_from_sorted}
use Rattle.model.specs.Order.{text_cmp}
use Rattle.model.specs.Summary.{same_text}
use Rattle.model.proofs.Lists.{in_first, in_filter}
use Rattle.model.proofs.Same.{text-same}

-- ---- orderings

lower : (a b : Ordering) → ordering_index a ≤ ordering_index b → is_lt b ≡ true → is_lt a ≡ true
lower Less b le h = refl
lower a Equal le h = absurd (true≢false (sym h))
lower a Greater le h = absurd (true≢false (sym h))
lower Equal Less le h = absurd (omega (arith, le))
lower Greater Less le h = absurd (omega (arith, le))

no_higher : (a b : Ordering) → ordering_index a ≤ ordering_index b → is_le b ≡ true → is_le a ≡ true
no_higher Less b le h = refl
no_higher Equal b le h = refl
no_higher Greater Greater le h = h
no_higher Greater Less le h = absurd (omega (arith, le))
no_higher Greater Equal le h = absurd (omega (arith, le))

neither_first : (o : Ordering) → (not (is_lt o) && not (is_lt (ordering_reverse o))) ≡ is_eq o
neither_first Less = refl
neither_first Equal = refl
neither_first Greater = refl

below_apart : (o : Ordering) → is_lt o ≡ true → is_eq (ordering_reverse o) ≡ false
below_apart Less h = refl
below_apart Equal h = absurd (true≢false (sym h))
below_apart Greater h = absurd (true≢false (sym h))

within_same : (o : Ordering) → is_lt o ≡ false → is_le o ≡ true → is_eq (ordering_reverse o) ≡ true
within_same Less h l = absurd (true≢false h)
within_same Equal h l = refl
within_same Greater h l = absurd (true≢false (sym l))

above_apart : (o : Ordering) → is_le o ≡ false → is_eq (ordering_reverse o) ≡ false
above_apart Less h = absurd (true≢false h)
above_apart Equal h = absurd (true≢false h)
above_apart Greater h = refl

-- ---- what lies between

module _ {X : Type 0} (p : X → Bool) where
  -- what fails at the front may be left out
  skipped : (xs : List X) (i : ℕ) → ((k : ℕ) (d : X) → k < i → k < length xs → p (get_or xs k d) ≡ false)
      → filter p xs ≡ filter p (drop i xs)
  skipped [] zero h = refl
  skipped [] (suc i) h = refl
  skipped (x ∷ xs) zero h = refl
  skipped (x ∷ xs) (suc i) h =
      ap (λ b. cond b (x ∷ filter p xs) (filter p xs)) (h 0 x (omega arith) (omega arith))
      ∙ skipped xs i (λ k d low within. h (suc k) d (omega (arith, low)) (omega (arith, within)))

  kept : (xs : List X) (j : ℕ) → j ≤ length xs → ((k : ℕ) (d : X) → k < j → p (get_or xs k d) ≡ true)
      → ((k : ℕ) (d : X) → j ≤ k → k < length xs → p (get_or xs k d) ≡ false) → filter p xs ≡ take j xs
  kept [] zero few low high = refl
  kept [] (suc j) few low high = absurd (omega (arith, few))
  kept (x ∷ xs) zero few low high =
      ap (λ b. cond b (x ∷ filter p xs) (filter p xs)) (high 0 x (omega arith) (omega arith))
      ∙ kept xs zero (omega arith) (λ k d less. absurd (omega (arith, less)))
      (λ k d more within. high (suc k) d (omega arith) (omega (arith, within)))
  kept (x ∷ xs) (suc j) few low high =
      ap (λ b. cond b (x ∷ filter p xs) (filter p xs)) (low 0 x (omega arith))
      ∙ ap (λ ys. x ∷ ys) (kept xs j (omega (arith, few)) (λ k d less. low (suc k) d (omega (arith, less)))
      (λ k d more within. high (suc k) d (omega (arith, more)) (omega (arith, within))))

pub filter-seen : {X Y : Type 0} (v : X → Y) (t : Y → Bool) (xs : List X)
    → filter t (map v xs) ≡ map v (filter (λ x. t (v x)) xs)
filter-seen v t [] = refl
filter-seen {X} {Y} v t (x ∷ xs) = by (t (v x)) (filter-seen v t xs)
  where
    by : (b : Bool) → filter t (map v xs) ≡ map v (filter (λ x. t (v x)) xs)
        → cond b (v x ∷ filter t (map v xs)) (filter t (map v xs))
        ≡ map v (cond b (x ∷ filter (λ x. t (v x)) xs) (filter (λ x. t (v x)) xs))
    by true e = ap (λ ys. v x ∷ ys) e
    by false e = e

-- ---- by names

module _ {X : Type 0} (key : X → List ℕ) where
  abbrev is_of : List ℕ → X → Bool
  is_of name x = same_text name (key x)

  of_is : (name : List ℕ) (x : X) → is_of name x ≡ is_eq (ordering_reverse (text_cmp (key x) name))
  of_is name x = texts_ties name (key x) ∙ ap is_eq (nat_list_cmp_total.antisymm name (key x))

  module _ (xs : List X) (name : List ℕ) (sorted : IsSortedByKey key text_cmp xs) where
    rises : IsNonDecreasingBy (λ x. ordering_index (text_cmp (key x) name)) xs
    rises = searchable_from_sorted nat_list_cmp_total key xs name sorted

    pub before_parted : IsPartitionedBy (λ x. is_lt (text_cmp (key x) name)) xs
    before_parted i j d le within h =
        lower (text_cmp (key (get_or xs i d)) name) (text_cmp (key (get_or xs j d)) name) (rises i j d le within) h

    pub up_to_parted : IsPartitionedBy (λ x. is_le (text_cmp (key x) name)) xs
    up_to_parted i j d le within h =
        no_higher (text_cmp (key (get_or xs i d)) name) (text_cmp (key (get_or xs j d)) name) (rises i j d le within) h

  -- what is left behind a place is in order too
  pub rest_sorted : (xs : List X) (i : ℕ) → i ≤ length xs → IsSortedByKey key text_cmp xs
      → IsSortedByKey key text_cmp (take (length xs - i) (drop i xs))
  rest_sorted xs i few sorted = rw (take_rest xs i) (rest few sorted)
    where
      rest : i ≤ length xs → IsSortedByKey key text_cmp xs → IsSortedByKey key text_cmp (drop i xs)
      rest few sorted k d from within =
          let next : i + (k + 1) ≡ i + k + 1 = omega arith in
          ap₂ (λ x y. is_lt (text_cmp (key x) (key y))) (get_or-drop i xs (k + 1) d ∙ ap (λ n. get_or xs n d) next)
          (get_or-drop i xs k d)
          ∙ sorted (i + k) d (omega arith) (omega (arith, length-drop i xs, within, few))

  -- those of a name lie between those before it and those behind it
  between : (xs : List X) (name : List ℕ) (i j : ℕ)
      → IsPartitionPoint (λ x. is_lt (text_cmp (key x) name) ≡ true) (λ x. is_lt (text_cmp (key x) name) ≡ false) xs i
      → j ≤ length (drop i xs)
      → IsPartitionPoint (λ x. is_le (text_cmp (key x) name) ≡ true)
      (λ x. is_le (text_cmp (key x) name) ≡ false) (drop i xs) j
      → take j (drop i xs) ≡ filter (is_of name) xs
  between xs name i j first few last =
      let long = length-drop i xs in
      sym (skipped (is_of name) xs i
      (λ n d low within. of_is name (get_or xs n d)
      ∙ below_apart (text_cmp (key (get_or xs n d)) name) (first.0 n d (omega arith) low))
      ∙ kept (is_of name) (drop i xs) j few
      (λ n d low. of_is name (get_or (drop i xs) n d)
      ∙ within_same (text_cmp (key (get_or (drop i xs) n d)) name)
      (subst (λ x. is_lt (text_cmp (key x) name) ≡ false) (sym (get_or-drop i xs n d))
      (first.1 (i + n) d (omega arith) (omega arith))) (last.0 n d (omega arith) low))
      (λ n d high within. of_is name (get_or (drop i xs) n d)
      ∙ above_apart (text_cmp (key (get_or (drop i xs) n d)) name) (last.1 n d high within)))

  pub piece_is : (xs : List X) (name : List ℕ) (i j : ℕ)
      → IsPartitionPoint (λ x. is_lt (text_cmp (key x) name) ≡ true) (λ x. is_lt (text_cmp (key x) name) ≡ false) xs i
      → j ≤ length (take (length xs - i) (drop i xs))
      → IsPartitionPoint (λ x. is_le (text_cmp (key x) name) ≡ true)
      (λ x. is_le (text_cmp (key x) name) ≡ false) (take (length xs - i) (drop i xs)) j
      → take j (take (length xs - i) (drop i xs)) ≡ filter (is_of name) xs
  piece_is xs name i j first = rw (take_rest xs i) (λ few last. between xs name i j first few last)

  -- ---- a stable sort keeps those of a name in their order

  tie_is : (x y : X) → ties (λ x y. is_lt (text_cmp (key x) (key y))) x y ≡ same_text (key x) (key y)
  tie_is x y =
      ap (λ o. not (is_lt (text_cmp (key x) (key y))) && not (is_lt o)) (nat_list_cmp_total.antisymm (key y) (key x))
      ∙ neither_first (text_cmp (key x) (key y)) ∙ sym (texts_ties (key x) (key y))

  module _ (xs ys : List X) (stable : IsStableByKey key text_cmp xs ys) (name : List ℕ) where
    same_of : (x : X) → is_of name x ≡ true → filter (is_of name) ys ≡ filter (is_of name) xs
    same_of x e =
        let tie : (y : X) → is_of name y ≡ ties (λ x y. is_lt (text_cmp (key x) (key y))) x y
        = λ y. ap (λ n. same_text n (key y)) (text-same name (key x) e) ∙ sym (tie_is x y) in
        filter_agree (is_of name) (ties (λ x y. is_lt (text_cmp (key x) (key y))) x) tie ys ∙ stable x
        ∙ sym (filter_agree (is_of name) (ties (λ x y. is_lt (text_cmp (key x) (key y))) x) tie xs)

    first_is : (zs : List X) (x : X) (r : List X) → filter (is_of name) zs ≡ x ∷ r → is_of name x ≡ true
    first_is zs x r e = (in_filter (is_of name) zs x (subst (λ l. Contains l x) (sym e) (in_first x r))).1

    pub same_named : filter (is_of name) ys ≡ filter (is_of name) xs
    same_named = by (filter (is_of name) ys) (filter (is_of name) xs) refl refl
      where
        by : (a b : List X) → filter (is_of name) ys ≡ a → filter (is_of name) xs ≡ b
            → filter (is_of name) ys ≡ filter (is_of name) xs
        by [] [] e f = e ∙ sym f
        by (x ∷ r) b e f = same_of x (first_is ys x r e)
        by [] (x ∷ r) e f = same_of x (first_is xs x r f)
