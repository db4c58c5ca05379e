-- How many texts are less compares as the texts do.
use Rattle.std.proofs.Common.{◌≡◌, ℕ, zero, suc, ◌+◌, ◌<◌, ◌≤◌, Bool, true, false, cond, List, [], ◌∷◌, map, filter}
use Rattle.std.proofs.Common.{length, get_or, Contains, Ordering, inl, inr, refl, sym, ap, ap₂, ◌∙◌, subst, arith, Less}
use Rattle.std.proofs.Common.{Equal, Greater}
use Rattle.std.specs.List.Sorted.{IsPartitionedBy, IsPartitionPoint, IsPermutation, IsSorted}
use Rattle.std.specs.Ordering.{is_lt, nat_cmp, ordering_reverse}
use Rattle.std.specs.Cmp.{nat_cmp_is}
use Rattle.std.proofs.lemmas.Cmp.{nat_list_cmp_total, tied_itself}
use Rattle.std.proofs.lemmas.List.{length-map, get_or_default}
use Rattle.std.proofs.Math.ListN.{get_or-map}
use Rattle.std.proofs.lemmas.List.Sorted.{Contains-permutation, searchable_from_sorted}
use Rattle.model.specs.Order.{text_cmp}
use Rattle.model.proofs.Lists.{in_none, in_cons, in_first, in_rest}
use Rattle.model.proofs.Ordered.{text-tie}
use Rattle.model.proofs.Tests.{below-less}
use Rattle.checker.specs.inner.Names.{rank_of, rank_at, text_at, AreRanks}

-- ---- a place that parts those that pass from the others is how many pass

pub count_is : {X : Type 0} (p : X → Bool) (xs : List X) (i : ℕ) → i ≤ length xs
    → IsPartitionPoint (λ y. p y ≡ true) (λ y. p y ≡ false) xs i → length (filter p xs) ≡ i
count_is p [] i within parted = omega (arith, within)
count_is p (x ∷ xs) zero within parted =
    let no : p x ≡ false = parted.1 0 x (omega arith) (omega arith) in
    rw no (count_is p xs zero (omega arith) (
      (λ k d low lt. absurd (omega (arith, lt))),
      (λ k d low lt. parted.1 (suc k) d (omega arith) (omega (arith, lt))),
    ))
count_is p (x ∷ xs) (suc i) within parted =
    let yes : p x ≡ true = parted.0 0 x (omega arith) (omega arith) in
    rw yes (ap suc (count_is p xs i (omega (arith, within)) (
      (λ k d low lt. parted.0 (suc k) d (omega arith)
          (omega (arith, lt))),
      (λ k d low lt. parted.1 (suc k) d (omega (arith, low)) (omega (arith, lt))),
    )))

-- ---- the texts that are less

-- one text more is less than none more
no_fewer : (z : List ℕ) (xs : List (List ℕ)) (y : List ℕ) → rank_of xs y ≤ rank_of (z ∷ xs) y
no_fewer z xs y = by (is_lt (text_cmp z y))
  where
    by : (b : Bool) → rank_of xs y
        ≤ length (cond b (z ∷ filter (λ t. is_lt (text_cmp t y)) xs) (filter (λ t. is_lt (text_cmp t y)) xs))
    by true = omega arith
    by false = omega arith

-- a text that is less than one is less than a greater one too
one_more : (z : List ℕ) (xs : List (List ℕ)) (x y : List ℕ) (k : ℕ) → text_cmp x y ≡ Less
    → rank_of xs x + k ≤ rank_of xs y → rank_of (z ∷ xs) x + k ≤ rank_of (z ∷ xs) y
one_more z xs x y k lt rest = by (text_cmp z x) refl
  where
    by : (a : Ordering) → text_cmp z x ≡ a → rank_of (z ∷ xs) x + k ≤ rank_of (z ∷ xs) y
    by Less e = let f : text_cmp z y ≡ Less = nat_list_cmp_total.trans z x y e lt in rw (e, f) (omega (arith, rest))
    by Equal e = rw e (omega (arith, rest, no_fewer z xs y))
    by Greater e = rw e (omega (arith, rest, no_fewer z xs y))

-- those that are less than one are less than a greater one too, and it is one of them
less_more : (xs : List (List ℕ)) (x y : List ℕ) → text_cmp x y ≡ Less → rank_of xs x ≤ rank_of xs y
less_more [] x y lt = omega arith
less_more (z ∷ xs) x y lt =
    let rest = less_more xs x y lt in
    let more = one_more z xs x y 0 lt (omega (arith, rest)) in
    omega (arith, more)

less_rank : (xs : List (List ℕ)) (x y : List ℕ) → text_cmp x y ≡ Less → Contains xs x → rank_of xs x < rank_of xs y
less_rank [] x y lt c = absurd (in_none x c)
less_rank (z ∷ xs) x y lt c = elim (in_cons z x xs c) [
  | inl same ↦
      let here : text_cmp z x ≡ Equal = ap (λ w. text_cmp w x) same ∙ tied_itself nat_list_cmp_total x in
      let there : text_cmp z y ≡ Less = ap (λ w. text_cmp w y) same ∙ lt in
      let rest = less_more xs x y lt in
      rw (here, there) (omega (arith, rest))
  | inr later ↦
      let rest = less_rank xs x y lt later in
      let more = one_more z xs x y 1 lt (omega (arith, rest)) in
      omega (arith, more)
]

pub ranks_compare : (xs : List (List ℕ)) (x y : List ℕ) → Contains xs x → Contains xs y
    → nat_cmp (rank_of xs x) (rank_of xs y) ≡ text_cmp x y
ranks_compare xs x y c d = by (text_cmp x y) refl
  where
    by : (r : Ordering) → text_cmp x y ≡ r → nat_cmp (rank_of xs x) (rank_of xs y) ≡ text_cmp x y
    by Less e = sym (nat_cmp_is (rank_of xs x) (rank_of xs y) Less (less_rank xs x y e c)) ∙ sym e
    by Equal e = sym (nat_cmp_is (rank_of xs x) (rank_of xs y) Equal (ap (rank_of xs) (text-tie x y e))) ∙ sym e
    by Greater e = sym (nat_cmp_is (rank_of xs x) (rank_of xs y) Greater
        (less_rank xs y x (nat_list_cmp_total.antisymm y x ∙ ap ordering_reverse e) d)) ∙ sym e

-- ---- the ranks of texts among those of a list that has each

read_at : (texts : List (List ℕ)) (n : ℕ) → n < length texts → Contains texts (text_at texts n)
read_at [] n lt = absurd (omega (arith, lt))
read_at (x ∷ texts) zero lt = in_first x texts
read_at (x ∷ texts) (suc n) lt = in_rest x (text_at texts n) texts (read_at texts n (omega (arith, lt)))

rank_read : (sorted texts : List (List ℕ)) (n : ℕ) → n < length texts
    → rank_at (map (rank_of sorted) texts) n ≡ rank_of sorted (text_at texts n)
rank_read sorted [] n lt = absurd (omega (arith, lt))
rank_read sorted (x ∷ texts) zero lt = refl
rank_read sorted (x ∷ texts) (suc n) lt = rank_read sorted texts n (omega (arith, lt))

pub ranks_are : (texts sorted : List (List ℕ)) (ranks : List ℕ) → IsPermutation texts sorted
    → ranks ≡ map (rank_of sorted) texts → AreRanks texts ranks
ranks_are texts sorted ranks moved is = record { same = same; order = order }
  where
    same : length ranks ≡ length texts
    same = ap length is ∙ length-map texts (rank_of sorted)

    order : (n m : ℕ) → n < length ranks → m < length ranks
        → nat_cmp (rank_at ranks n) (rank_at ranks m) ≡ text_cmp (text_at texts n) (text_at texts m)
    order n m ln lm =
        let kn : n < length texts = omega (arith, ln, same) in
        let km : m < length texts = omega (arith, lm, same) in
        ap₂ nat_cmp (ap (λ r. rank_at r n) is ∙ rank_read sorted texts n kn)
        (ap (λ r. rank_at r m) is ∙ rank_read sorted texts m km)
        ∙ ranks_compare sorted (text_at texts n) (text_at texts m)
        (Contains-permutation texts sorted (text_at texts n) moved (read_at texts n kn))
        (Contains-permutation texts sorted (text_at texts m) moved (read_at texts m km))

-- ---- the place at which a search of texts that rise ends

parts_sorted : (sorted : List (List ℕ)) (x : List ℕ) → IsSorted text_cmp sorted
    → IsPartitionedBy (λ y. is_lt (text_cmp y x)) sorted
parts_sorted sorted x up i j d le lt h =
    let rises = searchable_from_sorted nat_list_cmp_total (λ (t : List ℕ). t) sorted x up i j d le lt in
    below-less (text_cmp (get_or sorted i d) x) (text_cmp (get_or sorted j d) x) rises h

-- ---- the same of what has texts

pub parts_by : {X : Type 0} (f : X → List ℕ) (xs : List X) (x : List ℕ) → IsSorted text_cmp (map f xs)
    → IsPartitionedBy (λ y. is_lt (text_cmp (f y) x)) xs
parts_by f xs x up i j d le lt h =
    let within : j < length (map f xs) = subst (λ n. j < n) (sym (length-map xs f)) lt in
    ap (λ y. is_lt (text_cmp y x)) (sym (get_or-map f xs i d))
    ∙ parts_sorted (map f xs) x up i j (f d) le within (ap (λ y. is_lt (text_cmp y x)) (get_or-map f xs j d) ∙ h)

pub count_by : {X Y : Type 0} (f : X → Y) (p : Y → Bool) (xs : List X)
    → length (filter (λ y. p (f y)) xs) ≡ length (filter p (map f xs))
count_by f p [] = refl
count_by f p (x ∷ xs) = by (count_by f p xs) (p (f x))
  where
    by : length (filter (λ y. p (f y)) xs) ≡ length (filter p (map f xs)) → (b : Bool)
        → length (cond b (x ∷ filter (λ y. p (f y)) xs) (filter (λ y. p (f y)) xs))
        ≡ length (cond b (f x ∷ filter p (map f xs)) (filter p (map f xs)))
    by rest true = ap suc rest
    by rest false = rest

pub sorted_texts : {X : Type 0} (f : X → List ℕ) (xs : List X) → IsSorted (λ a b. text_cmp (f a) (f b)) xs
    → IsSorted text_cmp (map f xs)
sorted_texts f [] up k d low lt = absurd (omega (arith, lt))
sorted_texts f (x ∷ xs) up k d low lt =
    let same = length-map (x ∷ xs) f in
    let within : k + 1 < length (x ∷ xs) = omega (arith, lt, same) in
    let first = get_or_default (map f (x ∷ xs)) (k + 1) d (f x) lt ∙ get_or-map f (x ∷ xs) (k + 1) x in
    let second = get_or_default (map f (x ∷ xs)) k d (f x) (omega (arith, lt)) ∙ get_or-map f (x ∷ xs) k x in
    ap₂ (λ a b. is_lt (text_cmp a b)) first second ∙ up k x low within
