-- A stable sort in a total order puts a list where `in_order` puts it, whatever ties.
use Rattle.std.proofs.Common.{◌≡◌, ℕ, suc, ◌+◌, ◌<◌, Bool, true, false, not, ◌&&◌, cond, List, [], ◌∷◌, map, length}
use Rattle.std.proofs.Common.{filter, get_or, refl, sym, ◌∙◌, ap, arith, Ordering, add-one}
use Rattle.std.specs.Cmp.{IsTotalOrder}
use Rattle.std.specs.List.{AllByRecursion}
use Rattle.std.specs.List.Sorted.{IsSortedBy, IsStableBy}
use Rattle.std.specs.Ordering.{is_eq, is_gt, is_lt, ordering_reverse}
use Rattle.std.specs.declared.cmp.Ordering.TheVariants.{Less, Equal, Greater}
use Rattle.std.proofs.lemmas.Cmp.{tied_itself, alike_right, on_total}
use Rattle.std.proofs.lemmas.List.Elements.{filter_agree}
use Rattle.model.specs.Order.{put_in, in_order}
use Rattle.model.proofs.Sorting.{each-put, each-weaker}

-- each element is not above those after it
abbrev Rises : {X : Type 0} → (X → X → Ordering) → List X → Type 0
Rises R [] = Unit {0}
Rises R (x ∷ xs) = AllByRecursion (λ y. is_gt (R x y) ≡ false) xs × Rises R xs

-- ---- along a list

apart : {X : Type 0} {R : X → X → Ordering} (o : IsTotalOrder R) (x y : X)
    → is_gt (R x y) ≡ true → is_gt (R y x) ≡ false
apart {R = R} o x y h = by_case (R x y) (R y x) h (o.antisymm x y)
  where
    by_case : (r s : Ordering) → is_gt r ≡ true → r ≡ ordering_reverse s → is_gt s ≡ false
    by_case Less s g e = cc
    by_case Equal s g e = cc
    by_case Greater Less g e = refl
    by_case Greater Equal g e = cc
    by_case Greater Greater g e = cc

not-above : {X : Type 0} {R : X → X → Ordering} (o : IsTotalOrder R) (x y z : X) → is_gt (R x y) ≡ false
    → is_gt (R y z) ≡ false → is_gt (R x z) ≡ false
not-above {R = R} o x y z h k = by_case (R x y) (R y z) refl refl h k
  where
    by_case : (r s : Ordering) → R x y ≡ r → R y z ≡ s → is_gt r ≡ false → is_gt s ≡ false → is_gt (R x z) ≡ false
    by_case Greater s e f g i = cc
    by_case Equal s e f g i = rw (o.congr x y z e, f) i
    by_case Less Greater e f g i = cc
    by_case Less Equal e f g i = rw (← alike_right o y z x f, e) refl
    by_case Less Less e f g i = rw (o.trans x y z e f) refl

rises-put : {X : Type 0} {R : X → X → Ordering} (o : IsTotalOrder R) (x : X) (ys : List X) → Rises R ys
    → Rises R (put_in R x ys)
rises-put o x [] h = (tt, tt)
rises-put {R = R} o x (y ∷ ys) h = by_case (is_gt (R x y)) refl (rises-put o x ys h.1)
  where
    by_case : (b : Bool) → is_gt (R x y) ≡ b → Rises R (put_in R x ys)
        → Rises R (cond b (y ∷ put_in R x ys) (x ∷ (y ∷ ys)))
    by_case true e rest = (each-put R (λ z. is_gt (R y z) ≡ false) x ys (apart o x y e) h.0, rest)
    by_case false e rest = (
      (
        e,
        each-weaker (λ z. is_gt (R y z) ≡ false) (λ z. is_gt (R x z) ≡ false)
            (λ z k. not-above o x y z e k) ys h.0,
      ),
      h,
    )

rises-in_order : {X : Type 0} {R : X → X → Ordering} (o : IsTotalOrder R) (xs : List X) → Rises R (in_order R xs)
rises-in_order o [] = tt
rises-in_order {R = R} o (x ∷ xs) = rises-put o x (in_order R xs) (rises-in_order o xs)

rises-sorted : {X : Type 0} {R : X → X → Ordering} (o : IsTotalOrder R) (xs : List X)
    → ((k : ℕ) (d : X) → k + 1 < length xs → is_lt (R (get_or xs (k + 1) d) (get_or xs k d)) ≡ false) → Rises R xs
rises-sorted o [] h = tt
rises-sorted o (x ∷ []) h = (tt, tt)
rises-sorted {R = R} o (x ∷ (y ∷ ys)) h =
    let rest = rises-sorted o (y ∷ ys) (λ k d l. rw add-one (rw add-one at (h (suc k) d (omega arith)))) in
    let first : is_gt (R x y) ≡ false = below (R x y) (R y x) (h 0 x (omega arith)) (o.antisymm x y) in (
      (
        first,
        each-weaker (λ z. is_gt (R y z) ≡ false) (λ z. is_gt (R x z) ≡ false)
            (λ z k. not-above o x y z first k) ys rest.0,
      ),
      rest,
    )
  where
    below : (r s : Ordering) → is_lt s ≡ false → r ≡ ordering_reverse s → is_gt r ≡ false
    below Less s g e = refl
    below Equal s g e = refl
    below Greater Less g e = cc
    below Greater Equal g e = cc
    below Greater Greater g e = cc

-- ---- the elements that tie with one

abbrev Tying : {X : Type 0} → (X → X → Ordering) → X → List X → List X
Tying R z xs = filter (λ x. is_eq (R z x)) xs

tie-test : {X : Type 0} {R : X → X → Ordering} (o : IsTotalOrder R) (x y : X)
    → (not (is_lt (R x y)) && not (is_lt (R y x))) ≡ is_eq (R x y)
tie-test {R = R} o x y = by_case (R x y) (R y x) (o.antisymm x y)
  where
    by_case : (r s : Ordering) → r ≡ ordering_reverse s → (not (is_lt r) && not (is_lt s)) ≡ is_eq r
    by_case Less s e = refl
    by_case Equal Less e = cc
    by_case Equal Equal e = refl
    by_case Equal Greater e = cc
    by_case Greater Less e = refl
    by_case Greater Equal e = cc
    by_case Greater Greater e = cc

not-both : {X : Type 0} {R : X → X → Ordering} (o : IsTotalOrder R) (x y z : X) → is_gt (R x y) ≡ true
    → is_eq (R z x) ≡ true → is_eq (R z y) ≡ true → ⊥
not-both {R = R} o x y z g h k =
    let first : R z x ≡ Equal = equal (R z x) h in
    let both : R z y ≡ R x y = o.congr z x y first in
    let second : R x y ≡ Equal = sym both ∙ equal (R z y) k in
    cc
  where
    equal : (r : Ordering) → is_eq r ≡ true → r ≡ Equal
    equal Less e = cc
    equal Equal e = refl
    equal Greater e = cc

tying-put : {X : Type 0} {R : X → X → Ordering} (o : IsTotalOrder R) (z x : X) (ys : List X)
    → Tying R z (put_in R x ys) ≡ Tying R z (x ∷ ys)
tying-put o z x [] = refl
tying-put {R = R} o z x (y ∷ ys) =
    by_case (is_gt (R x y)) (is_eq (R z x)) (is_eq (R z y)) refl refl refl (tying-put o z x ys)
  where
    by_case : (g b c : Bool) → is_gt (R x y) ≡ g → is_eq (R z x) ≡ b → is_eq (R z y) ≡ c
        → Tying R z (put_in R x ys) ≡ Tying R z (x ∷ ys)
        → Tying R z (cond g (y ∷ put_in R x ys) (x ∷ (y ∷ ys))) ≡ Tying R z (x ∷ (y ∷ ys))
    by_case false b c e f h rest = refl
    by_case true true true e f h rest = absurd (not-both o x y z e f h)
    by_case true true false e f h rest = rw (h, rest, f) refl
    by_case true false c e f h rest = rw (rest, f) refl

tying-in_order : {X : Type 0} {R : X → X → Ordering} (o : IsTotalOrder R) (z : X) (xs : List X)
    → Tying R z (in_order R xs) ≡ Tying R z xs
tying-in_order o z [] = refl
tying-in_order {R = R} o z (x ∷ xs) =
    tying-put o z x (in_order R xs) ∙ ap (λ t. cond (is_eq (R z x)) (x ∷ t) t) (tying-in_order o z xs)

-- ---- two lists that rise and have the same elements that tie are one

none-tie : {X : Type 0} (t : X → Bool) (xs : List X) → AllByRecursion (λ x. t x ≡ false) xs → filter t xs ≡ []
none-tie t [] h = refl
none-tie t (x ∷ xs) h = rw h.0 (none-tie t xs h.1)

below-all : {X : Type 0} {R : X → X → Ordering} (o : IsTotalOrder R) (x y : X) (ys : List X) → R x y ≡ Less
    → AllByRecursion (λ z. is_gt (R y z) ≡ false) ys → Tying R x (y ∷ ys) ≡ []
below-all {X = X} {R = R} o x y ys e h = none-tie (λ z. is_eq (R x z)) (y ∷ ys) (
  rw e refl,
  each-weaker (λ z. is_gt (R y z) ≡ false) (λ z. is_eq (R x z) ≡ false) (λ z k. by_case z (R y z) refl k) ys h,
)
  where
    by_case : (z : X) (r : Ordering) → R y z ≡ r → is_gt r ≡ false → is_eq (R x z) ≡ false
    by_case z Less f k = rw (o.trans x y z e f) refl
    by_case z Equal f k = rw (← alike_right o y z x f, e) refl
    by_case z Greater f k = cc

tied-first : {X : Type 0} {R : X → X → Ordering} (o : IsTotalOrder R) (x : X) (xs : List X)
    → Tying R x (x ∷ xs) ≡ x ∷ Tying R x xs
tied-first o x xs = rw (tied_itself o x) refl

cons-same : {X : Type 0} (x y : X) (xs ys : List X) → x ∷ xs ≡ y ∷ ys → (x ≡ y) × (xs ≡ ys)
cons-same x y xs ys e = (cc, cc)

nothing : {X : Type 0} (x : X) (xs : List X) → x ∷ xs ≡ [] → ⊥
nothing x xs e = cc

pub same-rising : {X : Type 0} {R : X → X → Ordering} (o : IsTotalOrder R) (xs ys : List X) → Rises R xs → Rises R ys
    → ((z : X) → Tying R z xs ≡ Tying R z ys) → xs ≡ ys
same-rising o [] [] h k e = refl
same-rising o [] (y ∷ ys) h k e = absurd (nothing y _ (sym (e y ∙ tied-first o y ys)))
same-rising o (x ∷ xs) [] h k e = absurd (nothing x _ (sym (tied-first o x xs) ∙ e x))
same-rising {X = X} {R = R} o (x ∷ xs) (y ∷ ys) h k e = by_case (R x y) refl (same-rising o xs ys h.1 k.1)
  where
    rest : x ≡ y → (z : X) → Tying R z xs ≡ Tying R z ys
    rest s z = drop_one (is_eq (R z x)) (is_eq (R z y)) (ap (λ w. is_eq (R z w)) s) (e z)
      where
        drop_one : (b c : Bool) → b ≡ c → cond b (x ∷ Tying R z xs) (Tying R z xs)
            ≡ cond c (y ∷ Tying R z ys) (Tying R z ys) → Tying R z xs ≡ Tying R z ys
        drop_one true true f g = (cons-same x y (Tying R z xs) (Tying R z ys) g).1
        drop_one false false f g = g
        drop_one true false f g = cc
        drop_one false true f g = cc

    by_case : (r : Ordering) → R x y ≡ r → (((z : X) → Tying R z xs ≡ Tying R z ys) → xs ≡ ys) → x ∷ xs ≡ y ∷ ys
    by_case Less f tail = absurd (nothing x _ (sym (tied-first o x xs) ∙ e x ∙ below-all o x y ys f k.0))
    by_case Greater f tail =
        let less : R y x ≡ Less = o.antisymm y x ∙ ap ordering_reverse f in
        absurd (nothing y _ (sym (tied-first o y ys) ∙ sym (e y) ∙ below-all o y x xs less h.0))
    by_case Equal f tail =
        let second : Tying R x (y ∷ ys) ≡ y ∷ Tying R x ys = rw f refl in
        let same = cons-same x y _ _ (sym (tied-first o x xs) ∙ e x ∙ second) in
        let tails : xs ≡ ys = tail (rest same.0) in
        rw (same.0, tails) refl

-- ---- after a sort

put-map : {X K : Type 0} (R : K → K → Ordering) (v : X → K) (x : X) (ys : List X)
    → put_in R (v x) (map v ys) ≡ map v (put_in (λ a b. R (v a) (v b)) x ys)
put-map R v x [] = refl
put-map R v x (y ∷ ys) = by_case (is_gt (R (v x) (v y))) (put-map R v x ys)
  where
    by_case : (b : Bool) → put_in R (v x) (map v ys) ≡ map v (put_in (λ a b. R (v a) (v b)) x ys)
        → cond b (v y ∷ put_in R (v x) (map v ys)) (v x ∷ (v y ∷ map v ys))
        ≡ map v (cond b (y ∷ put_in (λ a b. R (v a) (v b)) x ys) (x ∷ (y ∷ ys)))
    by_case true e = ap (λ t. v y ∷ t) e
    by_case false e = refl

pub in_order-map : {X K : Type 0} (R : K → K → Ordering) (v : X → K) (xs : List X)
    → in_order R (map v xs) ≡ map v (in_order (λ a b. R (v a) (v b)) xs)
in_order-map R v [] = refl
in_order-map R v (x ∷ xs) =
    ap (put_in R (v x)) (in_order-map R v xs) ∙ put-map R v x (in_order (λ a b. R (v a) (v b)) xs)

pub in_order-stable : {X K : Type 0} {R : K → K → Ordering} (o : IsTotalOrder R) (v : X → K) (xs ys : List X)
    → IsSortedBy (λ x y. is_lt (R (v x) (v y))) ys → IsStableBy (λ x y. is_lt (R (v x) (v y))) xs ys
    → in_order R (map v xs) ≡ map v ys
in_order-stable {X = X} {R = R} o v xs ys s t =
    let on = on_total v o in
    let S : X → X → Ordering = λ a b. R (v a) (v b) in
    let same : in_order S xs ≡ ys =
    same-rising on (in_order S xs) ys (rises-in_order on xs) (rises-sorted on ys (λ k d l. s k d (omega arith) l))
    (λ z. tying-in_order on z xs ∙ sym (filter_agree (λ x. not (is_lt (S z x)) && not (is_lt (S x z)))
    (λ x. is_eq (S z x)) (tie-test on z) xs) ∙ sym (t z)
    ∙ filter_agree (λ x. not (is_lt (S z x)) && not (is_lt (S x z))) (λ x. is_eq (S z x)) (tie-test on z) ys) in
    in_order-map R v xs ∙ ap (map v) same
