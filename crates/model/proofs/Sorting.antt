-- Lists in a total order: `in_order` puts them there, and a sort of elements of which no two tie gives the same list.
use Rattle.std.proofs.Common.{◌≡◌, ℕ, zero, suc, ◌+◌, ◌<◌, Bool, true, false, cond, ◌||◌, List, [], ◌∷◌, map, length}
use Rattle.std.proofs.Common.{get_or, ◌⊎◌, inl, inr, refl, sym, ◌∙◌, subst, arith, Ordering, add-one}
use Rattle.std.specs.Cmp.{IsTotalOrder}
use Rattle.std.specs.List.{AllByRecursion, IsDistinct, list_any, IsAllAdjacentAnswer}
use Rattle.std.specs.List.Sorted.{IsStrictlySortedBy, IsPermutation, IsSortedBy}
use Rattle.std.specs.Ordering.{is_eq, is_gt, is_lt, eq_by_cmp, ordering_reverse}
use Rattle.std.specs.declared.cmp.Ordering.TheVariants.{Less, Equal, Greater}
use Rattle.std.proofs.lemmas.Cmp.{tied_itself, eq_by_cmp_equiv}
use Rattle.std.proofs.lemmas.List.Elements.{All-from_recursion, recursion_from_All}
use Rattle.std.proofs.lemmas.List.Sorted.{All-permutation, IsPermutation-sym, IsPermutation-map}
use Rattle.std.proofs.lemmas.Map.Keys.{IsDistinct-from_sorted, IsDistinct-IsPermutation}
use Rattle.model.specs.Order.{put_in, in_order, has_alike}

pub each-weaker : {X : Type 0} (P Q : X → Type 0) → ((x : X) → P x → Q x) → (xs : List X)
    → AllByRecursion P xs → AllByRecursion Q xs
each-weaker P Q f [] h = tt
each-weaker P Q f (x ∷ xs) h = (f x h.0, each-weaker P Q f xs h.1)

-- ---- what `has_alike` tests

or-left : (a b : Bool) → (a || b) ≡ false → a ≡ false
or-left true b h = h
or-left false b h = refl

or-right : (a b : Bool) → (a || b) ≡ false → b ≡ false
or-right true b h = cc
or-right false b h = h

or-second : (a b : Bool) → b ≡ true → (a || b) ≡ true
or-second true b h = refl
or-second false b h = h

or-false : (a b : Bool) → a ≡ false → b ≡ false → (a || b) ≡ false
or-false true b h k = h
or-false false b h k = k

none-passes : {X : Type 0} (t : X → Bool) (xs : List X) → list_any t xs ≡ false → AllByRecursion (λ y. t y ≡ false) xs
none-passes t [] h = tt
none-passes t (x ∷ xs) h = (or-left (t x) _ h, none-passes t xs (or-right (t x) _ h))

none-any : {X : Type 0} (t : X → Bool) (xs : List X) → AllByRecursion (λ y. t y ≡ false) xs → list_any t xs ≡ false
none-any t [] h = refl
none-any t (x ∷ xs) h = or-false (t x) _ h.0 (none-any t xs h.1)

pub distinct-from_none : {X : Type 0} (e : X → X → Bool) (xs : List X) → has_alike e xs ≡ false → IsDistinct e xs
unfolding IsDistinct
distinct-from_none e [] h = tt
distinct-from_none e (x ∷ xs) h =
    (none-passes (e x) xs (or-left (list_any (e x) xs) _ h), distinct-from_none e xs (or-right (list_any (e x) xs) _ h))

pub none-from_distinct : {X : Type 0} (e : X → X → Bool) (xs : List X) → IsDistinct e xs → has_alike e xs ≡ false
unfolding IsDistinct
none-from_distinct e [] h = refl
none-from_distinct e (x ∷ xs) h = or-false (list_any (e x) xs) _ (none-any (e x) xs h.0) (none-from_distinct e xs h.1)

-- a list and its permutation have alike elements together
pub has_alike-permutation : {X : Type 0} (e : X → X → Bool) → ((x y : X) → e x y ≡ e y x) → (xs ys : List X)
    → IsPermutation xs ys → has_alike e ys ≡ true → has_alike e xs ≡ true
has_alike-permutation e flips xs ys p h = by_case (has_alike e xs) refl
  where
    by_case : (b : Bool) → has_alike e xs ≡ b → b ≡ true
    by_case true is = refl
    by_case false is = let no : has_alike e ys ≡ false =
        none-from_distinct e ys (IsDistinct-IsPermutation e flips xs ys p (distinct-from_none e xs is)) in cc

-- tests that agree on the elements find alike elements together
any-agrees : {X : Type 0} (s t : X → Bool) (xs : List X) → AllByRecursion (λ y. s y ≡ t y) xs
    → list_any s xs ≡ list_any t xs
any-agrees s t [] h = refl
any-agrees s t (x ∷ xs) h = rw (h.0, any-agrees s t xs h.1) refl

pub has_alike-agrees : {X : Type 0} (P : X → Type 0) (d e : X → X → Bool) → ((x y : X) → P x → P y → d x y ≡ e x y)
    → (xs : List X) → AllByRecursion P xs → has_alike d xs ≡ has_alike e xs
has_alike-agrees P d e same [] h = refl
has_alike-agrees P d e same (x ∷ xs) h = rw (
  any-agrees (d x) (e x) xs
      (each-weaker P (λ y. d x y ≡ e x y) (λ y p. same x y h.0 p) xs h.1),
  has_alike-agrees P d e same xs h.1,
) refl

-- ---- `in_order`

pub each-put : {X : Type 0} (R : X → X → Ordering) (P : X → Type 0) (x : X) (ys : List X) → P x → AllByRecursion P ys
    → AllByRecursion P (put_in R x ys)
each-put R P x [] p h = (p, tt)
each-put R P x (y ∷ ys) p h = elim (is_gt (R x y)) as (λ b. AllByRecursion P
    (cond b (y ∷ put_in R x ys) (x ∷ (y ∷ ys)))) [ true ↦ (h.0, each-put R P x ys p h.1) | false ↦ (p, h) ]

pub each-in_order : {X : Type 0} (R : X → X → Ordering) (P : X → Type 0) (xs : List X) → AllByRecursion P xs
    → AllByRecursion P (in_order R xs)
each-in_order R P [] h = tt
each-in_order R P (x ∷ xs) h = each-put R P x (in_order R xs) h.0 (each-in_order R P xs h.1)

-- x comes before y, before which it is to go, or it comes after it
above : {X : Type 0} {R : X → X → Ordering} (o : IsTotalOrder R) (x y : X) → is_gt (R x y) ≡ true → R y x ≡ Less
above {R = R} o x y h = o.antisymm y x ∙ below (R x y) h
  where
    below : (r : Ordering) → is_gt r ≡ true → ordering_reverse r ≡ Less
    below Less g = cc
    below Equal g = cc
    below Greater g = refl

before : (r : Ordering) → is_gt r ≡ false → is_eq r ≡ false → r ≡ Less
before Less g e = refl
before Equal g e = cc
before Greater g e = cc

-- one step of a put, where the rest is in order
put-step : {X : Type 0} {R : X → X → Ordering} (o : IsTotalOrder R) (x y : X) (ys : List X)
    → IsStrictlySortedBy R (y ∷ ys) → IsStrictlySortedBy R (put_in R x ys) → is_eq (R x y) ≡ false
    → (b : Bool) → is_gt (R x y) ≡ b → IsStrictlySortedBy R (cond b (y ∷ put_in R x ys) (x ∷ (y ∷ ys)))
unfolding IsStrictlySortedBy
put-step {R = R} o x y ys s rest apart true g = (each-put R (λ z. R y z ≡ Less) x ys (above o x y g) s.0, rest)
put-step {R = R} o x y ys s rest apart false g =
    let less : R x y ≡ Less = before (R x y) g apart in
    ((less, each-weaker (λ z. R y z ≡ Less) (λ z. R x z ≡ Less) (λ z. o.trans x y z less) ys s.0), s)

sorted-put : {X : Type 0} {R : X → X → Ordering} (o : IsTotalOrder R) (x : X) (ys : List X) → IsStrictlySortedBy R ys
    → AllByRecursion (λ y. is_eq (R x y) ≡ false) ys → IsStrictlySortedBy R (put_in R x ys)
unfolding IsStrictlySortedBy
sorted-put o x [] s apart = (tt, tt)
sorted-put {R = R} o x (y ∷ ys) s apart =
    put-step o x y ys s (sorted-put o x ys s.1 apart.1) apart.0 (is_gt (R x y)) refl

pub sorted-in_order : {X : Type 0} {R : X → X → Ordering} (o : IsTotalOrder R) (xs : List X)
    → IsDistinct (eq_by_cmp R) xs → IsStrictlySortedBy R (in_order R xs)
unfolding IsStrictlySortedBy IsDistinct
sorted-in_order o [] d = tt
sorted-in_order {R = R} o (x ∷ xs) d =
    sorted-put o x (in_order R xs) (sorted-in_order o xs d.1) (each-in_order R (λ y. is_eq (R x y) ≡ false) xs d.0)

-- ---- two lists in strict order with the same elements

abbrev pub In : {X : Type 0} → X → List X → Type 0
In z [] = ⊥
In z (x ∷ xs) = (z ≡ x) ⊎ In z xs

pub each-in : {X : Type 0} (xs : List X) → AllByRecursion (λ z. In z xs) xs
each-in [] = tt
each-in (x ∷ xs) = (inl refl, each-weaker (λ z. In z xs) (λ z. In z (x ∷ xs)) (λ z h. inr h) xs (each-in xs))

at-each : {X : Type 0} (P : X → Type 0) (xs : List X) (z : X) → AllByRecursion P xs → In z xs → P z
at-each P [] z h i = absurd i
at-each P (x ∷ xs) z h i = elim i [ inl e ↦ subst P (sym e) h.0 | inr j ↦ at-each P xs z h.1 j ]

in-put : {X : Type 0} (R : X → X → Ordering) (x : X) (ys : List X) (z : X) → (z ≡ x) ⊎ In z ys → In z (put_in R x ys)
in-put R x [] z h = h
in-put R x (y ∷ ys) z h = elim (is_gt (R x y)) as (λ b. In z (cond b (y ∷ put_in R x ys) (x ∷ (y ∷ ys)))) [
  | true ↦ elim h [
    | inl e ↦ inr
        (in-put R x ys z (inl e))
    | inr i ↦ elim i [ inl e ↦ inl e | inr j ↦ inr (in-put R x ys z (inr j)) ]
  ]
  | false ↦ h
]

in-in_order : {X : Type 0} (R : X → X → Ordering) (xs : List X) (z : X) → In z xs → In z (in_order R xs)
in-in_order R [] z h = h
in-in_order R (x ∷ xs) z h =
    in-put R x (in_order R xs) z (elim h [ inl e ↦ inl e | inr i ↦ inr (in-in_order R xs z i) ])

pub irreflexive : {X : Type 0} {R : X → X → Ordering} (o : IsTotalOrder R) (x : X) → R x x ≡ Less → ⊥
irreflexive o x h = let tie = tied_itself o x in cc

asymmetric : {X : Type 0} {R : X → X → Ordering} (o : IsTotalOrder R) (x y : X) → R x y ≡ Less → R y x ≡ Less → ⊥
asymmetric o x y h k = irreflexive o x (o.trans x y x h k)

-- the first of each of two lists in order is the first of the other
same-first : {X : Type 0} {R : X → X → Ordering} (o : IsTotalOrder R) (x y : X) (xs ys : List X)
    → AllByRecursion (λ z. R x z ≡ Less) xs → AllByRecursion (λ z. R y z ≡ Less) ys
    → In x (y ∷ ys) → In y (x ∷ xs) → x ≡ y
same-first {R = R} o x y xs ys below above i j = elim i [
  | inl e ↦ e
  | inr k ↦ elim j [
    | inl e ↦ sym e
    | inr l ↦ absurd
        (asymmetric o x y (at-each (λ z. R x z ≡ Less) xs y below l) (at-each (λ z. R y z ≡ Less) ys x above k))
  ]
]

-- what is after x in one list is after it in the other
in-rest : {X : Type 0} {R : X → X → Ordering} (o : IsTotalOrder R) (x y z : X) (ys : List X) → x ≡ y → R x z ≡ Less
    → In z (y ∷ ys) → In z ys
in-rest {R = R} o x y z ys e less i =
    elim i [ inl f ↦ absurd (irreflexive o x (subst (λ w. R x w ≡ Less) (f ∙ sym e) less)) | inr k ↦ k ]

each-rest : {X : Type 0} {R : X → X → Ordering} (o : IsTotalOrder R) (x y : X) (ys : List X) → x ≡ y → (zs : List X)
    → AllByRecursion (λ z. R x z ≡ Less) zs → AllByRecursion (λ z. In z (y ∷ ys)) zs → AllByRecursion (λ z. In z ys) zs
each-rest o x y ys e [] less i = tt
each-rest o x y ys e (z ∷ zs) less i = (in-rest o x y z ys e less.0 i.0, each-rest o x y ys e zs less.1 i.1)

same-members : {X : Type 0} {R : X → X → Ordering} (o : IsTotalOrder R) (xs ys : List X) → IsStrictlySortedBy R xs
    → IsStrictlySortedBy R ys → AllByRecursion (λ z. In z ys) xs → AllByRecursion (λ z. In z xs) ys → xs ≡ ys
unfolding IsStrictlySortedBy
same-members o [] [] s t i j = refl
same-members o [] (y ∷ ys) s t i j = absurd j.0
same-members o (x ∷ xs) [] s t i j = absurd i.0
same-members {R = R} o (x ∷ xs) (y ∷ ys) s t i j =
    let e : x ≡ y = same-first o x y xs ys s.0 t.0 i.0 j.0 in
    let rest : xs ≡ ys =
    same-members o xs ys s.1 t.1 (each-rest o x y ys e xs s.0 i.1) (each-rest o y x xs (sym e) ys t.0 j.1) in
    cc

-- what a sort leaves in strict order has no two that tie, and is `in_order` of what it was given
pub distinct-sorted : {X : Type 0} {R : X → X → Ordering} (o : IsTotalOrder R) (xs ys : List X) → IsPermutation xs ys
    → IsStrictlySortedBy R ys → IsDistinct (eq_by_cmp R) xs
distinct-sorted {R = R} o xs ys p s = IsDistinct-IsPermutation (eq_by_cmp R) (eq_by_cmp_equiv o).symm ys xs
    (IsPermutation-sym xs ys p) (IsDistinct-from_sorted R ys s)

pub in_order-sorted : {X : Type 0} {R : X → X → Ordering} (o : IsTotalOrder R) (xs ys : List X) → IsPermutation xs ys
    → IsStrictlySortedBy R ys → in_order R xs ≡ ys
in_order-sorted {R = R} o xs ys p s =
    same-members o (in_order R xs) ys (sorted-in_order o xs (distinct-sorted o xs ys p s)) s
    (each-in_order R (λ z. In z ys) xs (recursion_from_All _ xs
    (All-permutation (λ z. In z ys) ys xs (IsPermutation-sym xs ys p) (All-from_recursion _ ys (each-in ys)))))
    (each-weaker (λ z. In z xs) (λ z. In z (in_order R xs)) (λ z. in-in_order R xs z) ys
    (recursion_from_All _ ys (All-permutation (λ z. In z xs) xs ys p (All-from_recursion _ xs (each-in xs)))))

-- ---- from neighbours

-- elements each below the next, as a view shows them, are in strict order
pub sorted-neighbours : {X K : Type 0} {R : K → K → Ordering} (o : IsTotalOrder R) (v : X → K) (xs : List X)
    → ((k : ℕ) (d : X) → k + 1 < length xs → R (v (get_or xs k d)) (v (get_or xs (k + 1) d)) ≡ Less)
    → IsStrictlySortedBy R (map v xs)
unfolding IsStrictlySortedBy
sorted-neighbours o v [] h = tt
sorted-neighbours o v (x ∷ []) h = (tt, tt)
sorted-neighbours {R = R} o v (x ∷ (y ∷ ys)) h =
    let rest = sorted-neighbours o v (y ∷ ys) (λ k d l. rw add-one (rw add-one at (h (suc k) d (omega arith)))) in
    let less : R (v x) (v y) ≡ Less = h 0 x (omega arith) in (
      (
        less,
        each-weaker (λ z. R (v y) z ≡ Less) (λ z. R (v x) z ≡ Less)
            (λ z. o.trans (v x) (v y) z less) (map v ys) rest.0,
      ),
      rest,
    )

pub alike-neighbours : {X K : Type 0} (e : K → K → Bool) (v : X → K) (xs : List X) (k : ℕ) → k + 1 < length xs
    → ((d : X) → e (v (get_or xs k d)) (v (get_or xs (k + 1) d)) ≡ true) → has_alike e (map v xs) ≡ true
alike-neighbours e v [] k l h = absurd (omega arith)
alike-neighbours e v (x ∷ []) k l h = absurd (omega arith)
alike-neighbours e v (x ∷ (y ∷ ys)) zero l h = rw (h x) refl
alike-neighbours e v (x ∷ (y ∷ ys)) (suc k) l h =
    let rest : has_alike e (map v (y ∷ ys)) ≡ true = alike-neighbours e v (y ∷ ys) k (omega arith)
    (λ d. rw add-one (rw add-one at (h d))) in or-second (list_any (e (v x)) (map v (y ∷ ys))) _ rest

-- ---- after a sort, what a test of the neighbours says

lt-less : (r : Ordering) → true ≡ is_lt r → r ≡ Less
lt-less Less h = refl
lt-less Equal h = cc
lt-less Greater h = cc

-- neither is below the other
tied : {K : Type 0} {R : K → K → Ordering} (o : IsTotalOrder R) (a b : K) → false ≡ is_lt (R a b)
    → is_lt (R b a) ≡ false → is_eq (R a b) ≡ true
tied {R = R} o a b h k = by_case (R a b) (R b a) h k (o.antisymm a b)
  where
    by_case : (r s : Ordering) → false ≡ is_lt r → is_lt s ≡ false → r ≡ ordering_reverse s → is_eq r ≡ true
    by_case Less s h k e = cc
    by_case Equal s h k e = refl
    by_case Greater Less h k e = cc
    by_case Greater Equal h k e = cc
    by_case Greater Greater h k e = cc

pub ordered-run : {X K : Type 0} {R : K → K → Ordering} (o : IsTotalOrder R) (v : X → K) (xs ys : List X)
    → IsPermutation xs ys
    → (r : Bool) → r ≡ true → IsAllAdjacentAnswer (λ x y b. b ≡ is_lt (R (v x) (v y))) ys r
    → (has_alike (eq_by_cmp R) (map v xs) ≡ false) × (in_order R (map v xs) ≡ map v ys)
    × IsStrictlySortedBy R (map v ys)
ordered-run o v xs ys p false e h = cc
ordered-run {R = R} o v xs ys p true e h =
    let moved : IsPermutation (map v xs) (map v ys) = IsPermutation-map v xs ys p in
    let up : IsStrictlySortedBy R (map v ys) =
    sorted-neighbours o v ys (λ k d l. lt-less (R (v (get_or ys k d)) (v (get_or ys (k + 1) d))) (h k d l)) in (
      none-from_distinct (eq_by_cmp R) (map v xs) (distinct-sorted o (map v xs) (map v ys) moved up),
      in_order-sorted o (map v xs) (map v ys) moved up,
      up,
    )

pub alike-run : {X K : Type 0} {R : K → K → Ordering} (o : IsTotalOrder R) (v : X → K) (xs ys : List X)
    → IsPermutation xs ys → IsSortedBy (λ x y. is_lt (R (v x) (v y))) ys
    → (r : Bool) → r ≡ false → IsAllAdjacentAnswer (λ x y b. b ≡ is_lt (R (v x) (v y))) ys r
    → has_alike (eq_by_cmp R) (map v xs) ≡ true
alike-run o v xs ys p s true e h = cc
alike-run {R = R} o v xs ys p s false e h =
    has_alike-permutation (eq_by_cmp R) (eq_by_cmp_equiv o).symm (map v xs) (map v ys) (IsPermutation-map v xs ys p)
    (alike-neighbours (eq_by_cmp R) v ys h.0 h.1
    (λ d. tied o (v (get_or ys h.0 d)) (v (get_or ys (h.0 + 1) d)) (h.2 d) (s h.0 d (omega arith) h.1)))

-- ---- after a sort of elements of which no two tie

apart-neighbours : {X K : Type 0} (e : K → K → Bool) (v : X → K) (xs : List X) (k : ℕ) (d : X) → IsDistinct e (map v xs)
    → k + 1 < length xs → e (v (get_or xs k d)) (v (get_or xs (k + 1) d)) ≡ false
unfolding IsDistinct
apart-neighbours e v [] k d h l = absurd (omega arith)
apart-neighbours e v (x ∷ []) k d h l = absurd (omega arith)
apart-neighbours e v (x ∷ (y ∷ ys)) zero d h l = h.0.0
apart-neighbours e v (x ∷ (y ∷ ys)) (suc k) d h l =
    rw add-one (rw add-one at (apart-neighbours e v (y ∷ ys) k d h.1 (omega arith)))

-- it is below the other, as it neither ties with it nor is above it
below-other : (r s : Ordering) → is_lt s ≡ false → is_eq r ≡ false → r ≡ ordering_reverse s → r ≡ Less
below-other Less s h k e = refl
below-other Equal s h k e = cc
below-other Greater Less h k e = cc
below-other Greater Equal h k e = cc
below-other Greater Greater h k e = cc

pub sorted-run : {X K : Type 0} {R : K → K → Ordering} (o : IsTotalOrder R) (v : X → K) (xs ys : List X)
    → IsPermutation xs ys → IsSortedBy (λ x y. is_lt (R (v x) (v y))) ys
    → IsDistinct (eq_by_cmp R) (map v xs) → map v ys ≡ in_order R (map v xs)
sorted-run {R = R} o v xs ys p s apart =
    let moved : IsPermutation (map v xs) (map v ys) = IsPermutation-map v xs ys p in
    let still : IsDistinct (eq_by_cmp R) (map v ys) =
    IsDistinct-IsPermutation (eq_by_cmp R) (eq_by_cmp_equiv o).symm (map v xs) (map v ys) moved apart in
    let up : IsStrictlySortedBy R (map v ys) = sorted-neighbours o v ys (λ k d l.
    below-other (R (v (get_or ys k d)) (v (get_or ys (k + 1) d))) (R (v (get_or ys (k + 1) d)) (v (get_or ys k d)))
    (s k d (omega arith) l) (apart-neighbours (eq_by_cmp R) v ys k d still l) (o.antisymm _ _)) in
    sym (in_order-sorted o (map v xs) (map v ys) moved up)
