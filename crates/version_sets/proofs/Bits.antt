-- Words of bits, bit by bit.
use Rattle.std.proofs.Common.{◌≡◌, ℕ, zero, suc, ◌+◌, ◌-◌, ◌*◌, ◌/◌, ◌%◌, ◌^◌, ◌<◌, ◌≤◌, Bool, true, false, not, ◌&&◌}
use Rattle.std.proofs.Common.{◌||◌, eqb, List, [], ◌∷◌, length, map, get_or, min, max, bit_and, bit_or, refl, ap, ap₂}
use Rattle.std.proofs.Common.{sym, ◌∙◌, subst, arith, eq-eqb, inl, inr}
use Rattle.std.proofs.lemmas.Bool.{and_from, and_parts, cases_lt, eqb-true, true≢false, false≢true}
use Rattle.std.proofs.lemmas.List.{get_or_default, get_or_past, same_lists}
use Rattle.std.proofs.lemmas.Nat.{and_le_l, or_lt}
use Rattle.std.proofs.lemmas.Nat.Bits.{bit_at-lt, bit_at-zero, bit_at_and, bit_at_not, bit_at_or, same_from_bits_below}
use Rattle.std.proofs.lemmas.Simd.{get_or-zip2, length-zip2}
use Rattle.std.specs.Int.{bit_at, bit_not, w64}
use Rattle.std.specs.Simd.Lanes.{zip2}
use Rattle.version_sets.specs.Sets.{Members, has, inside, join, meet, meets, rest}
use Rattle.version_sets.specs.inner.Listed.{set_where}
use Rattle.version_sets.specs.inner.Words.{IsWords, all_zero, and_not, has_bit}
use Rattle.version_sets.proofs.Within.{inside_has, meets_at}
use Rattle.version_sets.proofs.Listing.{has-set_where, join_where, length-set_where, meet_where, rest_where, set_agree}

-- one bit
abbrev pub bit_is : ℕ → ℕ → Bool
bit_is w j = eqb (bit_at w j) 1

test_max : (a b : ℕ) → a < 2 → b < 2 → eqb (max a b) 1 ≡ (eqb a 1 || eqb b 1)
test_max zero zero h k = refl
test_max zero (suc zero) h k = refl
test_max zero (suc (suc b)) h k = absurd (omega arith)
test_max (suc zero) zero h k = refl
test_max (suc zero) (suc zero) h k = refl
test_max (suc zero) (suc (suc b)) h k = absurd (omega arith)
test_max (suc (suc a)) b h k = absurd (omega arith)

test_min : (a b : ℕ) → a < 2 → b < 2 → eqb (min a b) 1 ≡ (eqb a 1 && eqb b 1)
test_min zero zero h k = refl
test_min zero (suc zero) h k = refl
test_min zero (suc (suc b)) h k = absurd (omega arith)
test_min (suc zero) zero h k = refl
test_min (suc zero) (suc zero) h k = refl
test_min (suc zero) (suc (suc b)) h k = absurd (omega arith)
test_min (suc (suc a)) b h k = absurd (omega arith)

test_turned : (a : ℕ) → a < 2 → eqb (1 - a) 1 ≡ not (eqb a 1)
test_turned zero h = refl
test_turned (suc zero) h = refl
test_turned (suc (suc a)) h = absurd (omega arith)

pub bit_or_is : (x y j : ℕ) → bit_is (bit_or x y) j ≡ (bit_is x j || bit_is y j)
bit_or_is x y j =
    ap (λ k. eqb k 1) (bit_at_or x y j) ∙ test_max (bit_at x j) (bit_at y j) (bit_at-lt x j) (bit_at-lt y j)

pub bit_and_is : (x y j : ℕ) → bit_is (bit_and x y) j ≡ (bit_is x j && bit_is y j)
bit_and_is x y j =
    ap (λ k. eqb k 1) (bit_at_and x y j) ∙ test_min (bit_at x j) (bit_at y j) (bit_at-lt x j) (bit_at-lt y j)

pub bit_not_is : (x j : ℕ) → x < 2 ^ 64 → j < 64 → bit_is (bit_not w64 x) j ≡ not (bit_is x j)
bit_not_is x j fits low = ap (λ k. eqb k 1) (bit_at_not w64 x j fits low) ∙ test_turned (bit_at x j) (bit_at-lt x j)

pub bit_zero : (j : ℕ) → bit_is 0 j ≡ false
bit_zero j = ap (λ k. eqb k 1) (bit_at-zero j)

pub bit_same : (x y j : ℕ) → bit_is x j ≡ bit_is y j → bit_at x j ≡ bit_at y j
bit_same x y j e = by (bit_at x j) (bit_at y j) (bit_at-lt x j) (bit_at-lt y j) e
  where
    by : (a b : ℕ) → a < 2 → b < 2 → eqb a 1 ≡ eqb b 1 → a ≡ b
    by zero zero h k e = refl
    by zero (suc zero) h k e = cc
    by zero (suc (suc b)) h k e = absurd (omega arith)
    by (suc zero) zero h k e = cc
    by (suc zero) (suc zero) h k e = refl
    by (suc zero) (suc (suc b)) h k e = absurd (omega arith)
    by (suc (suc a)) b h k e = absurd (omega arith)

-- bits of a list of words: number 64 * k + j is bit j of word k
word_of : (k j : ℕ) → j < 64 → (64 * k + j) / 64 ≡ k
word_of k j h = omega arith

place_of : (k j : ℕ) → j < 64 → (64 * k + j) % 64 ≡ j
place_of k j h = omega arith

pub bit_in_word : (ws : List ℕ) (k j : ℕ) → j < 64 → has_bit ws (64 * k + j) ≡ bit_is (get_or ws k 0) j
bit_in_word ws k j h = ap₂ (λ w p. bit_is (get_or ws w 0) p) (word_of k j h) (place_of k j h)

-- no bit lies past the words
pub none_past : (ws : List ℕ) (i : ℕ) → length ws ≤ i / 64 → has_bit ws i ≡ false
none_past ws i past = ap (λ w. bit_is w (i % 64)) (get_or_past ws (i / 64) 0 past) ∙ bit_zero (i % 64)

-- the bits of two lists of words put together
module _ (f : ℕ → ℕ → ℕ) (g : Bool → Bool → Bool) (each : (x y j : ℕ) → bit_is (f x y) j ≡ g (bit_is x j) (bit_is y j))
    (nothing : g false false ≡ false) where
  has_zipped : (a b : List ℕ) (i : ℕ) → length a ≡ length b → has_bit (zip2 f a b) i ≡ g (has_bit a i) (has_bit b i)
  has_zipped a b i same = elim (cases_lt (i / 64) (length a)) [
    | inl low ↦ ap (λ w. bit_is w (i % 64)) (get_or-zip2 f a b (i / 64) 0 0 0 low (omega arith))
        ∙ each (get_or a (i / 64) 0) (get_or b (i / 64) 0) (i % 64)
    | inr past ↦ none_past (zip2 f a b) i (omega (arith, length-zip2 f a b same)) ∙ sym nothing
        ∙ sym (ap₂ g (none_past a i past) (none_past b i (omega arith)))
  ]

  zipped_words : (n : ℕ) (a b : List ℕ) → ((x y : ℕ) → x < 2 ^ 64 → y < 2 ^ 64 → f x y < 2 ^ 64) → IsWords n a
      → IsWords n b → IsWords n (zip2 f a b)
  zipped_words n a b bound p q = record {
    small = p.small;
    long = length-zip2 f a b (p.long ∙ sym q.long) ∙ p.long;
    fits = λ k. elim (cases_lt k (length a)) [
      | inl low ↦ subst (λ w. w < 2 ^ 64) (sym (get_or-zip2 f a b k 0 0 0 low (omega (arith, p.long, q.long))))
          (bound (get_or a k 0) (get_or b k 0) (p.fits k) (q.fits k))
      | inr past ↦ subst (λ w. w < 2 ^ 64)
          (sym (get_or_past (zip2 f a b) k 0 (omega (arith, length-zip2 f a b (p.long ∙ sym q.long))))) (omega arith)
    ];
    clear = λ i h. has_zipped a b i (p.long ∙ sym q.long) ∙ ap₂ g (p.clear i h) (q.clear i h) ∙ nothing;
  }

pub has_or : (a b : List ℕ) (i : ℕ) → length a ≡ length b → has_bit (zip2 bit_or a b) i ≡ (has_bit a i || has_bit b i)
has_or = has_zipped bit_or (λ x y. x || y) bit_or_is refl

pub has_and : (a b : List ℕ) (i : ℕ) → length a ≡ length b → has_bit (zip2 bit_and a b) i ≡ (has_bit a i && has_bit b i)
has_and = has_zipped bit_and (λ x y. x && y) bit_and_is refl

pub words_or : (n : ℕ) (a b : List ℕ) → IsWords n a → IsWords n b → IsWords n (zip2 bit_or a b)
words_or n a b = zipped_words bit_or (λ x y. x || y) bit_or_is refl n a b (or_lt 64)

pub words_and : (n : ℕ) (a b : List ℕ) → IsWords n a → IsWords n b → IsWords n (zip2 bit_and a b)
words_and n a b = zipped_words bit_and (λ x y. x && y) bit_and_is refl n a b (λ x y h k. omega (arith, and_le_l x y))

pub or_is : (n : ℕ) (a b : List ℕ) → IsWords n a → IsWords n b
    → set_where n (has_bit (zip2 bit_or a b)) ≡ join (set_where n (has_bit a)) (set_where n (has_bit b))
or_is n a b p q = set_agree (has_bit (zip2 bit_or a b)) (λ i. has_bit a i || has_bit b i) n
    (λ i within. has_or a b i (p.long ∙ sym q.long)) ∙ sym (join_where n (has_bit a) (has_bit b))

pub and_is : (n : ℕ) (a b : List ℕ) → IsWords n a → IsWords n b
    → set_where n (has_bit (zip2 bit_and a b)) ≡ meet (set_where n (has_bit a)) (set_where n (has_bit b))
and_is n a b p q = set_agree (has_bit (zip2 bit_and a b)) (λ i. has_bit a i && has_bit b i) n
    (λ i within. has_and a b i (p.long ∙ sym q.long)) ∙ sym (meet_where n (has_bit a) (has_bit b))

-- a number of the universe lies in one of the words
pub word_within : (n : ℕ) (ws : List ℕ) (i : ℕ) → length ws ≡ (n - 1) / 64 + 1 → i < n → i / 64 < length ws
word_within n ws i long within = omega arith

pub get_or-map_under : (xs : List ℕ) (k : ℕ) → k < length xs
    → get_or (map (bit_not w64) xs) k 0 ≡ bit_not w64 (get_or xs k 0)
get_or-map_under [] k low = absurd (omega arith)
get_or-map_under (x ∷ xs) zero low = refl
get_or-map_under (x ∷ xs) (suc k) low = get_or-map_under xs k (omega arith)

-- all bits turned
pub turned_is : (n : ℕ) (ws : List ℕ) → IsWords n ws
    → set_where n (has_bit (map (bit_not w64) ws)) ≡ rest (set_where n (has_bit ws))
turned_is n ws p =
    set_agree (has_bit (map (bit_not w64) ws)) (λ i. not (has_bit ws i)) n
    (λ i within. ap (λ w. bit_is w (i % 64)) (get_or-map_under ws (i / 64) (word_within n ws i p.long within))
    ∙ bit_not_is (get_or ws (i / 64) 0) (i % 64) (p.fits (i / 64)) (omega arith))
    ∙ sym (rest_where n (has_bit ws))

-- tests of whole lists
pub both_ways : (b c : Bool) → (b ≡ true → c ≡ true) → (c ≡ true → b ≡ true) → b ≡ c
both_ways true true f g = refl
both_ways false false f g = refl
both_ways true false f g = sym (f refl)
both_ways false true f g = g refl

pub zeros_at : (xs : List ℕ) (k : ℕ) → all_zero xs ≡ true → k < length xs → get_or xs k 0 ≡ 0
zeros_at [] k h low = absurd (omega arith)
zeros_at (x ∷ xs) zero h low = eqb-true x 0 (and_parts (eqb x 0) (all_zero xs) h).0
zeros_at (x ∷ xs) (suc k) h low = zeros_at xs k (and_parts (eqb x 0) (all_zero xs) h).1 (omega arith)

pub zeros_from : (xs : List ℕ) → ((k : ℕ) → k < length xs → get_or xs k 0 ≡ 0) → all_zero xs ≡ true
zeros_from [] h = refl
zeros_from (x ∷ xs) h =
    and_from (eqb x 0) (all_zero xs) (eq-eqb x 0 (h 0 (omega arith))) (zeros_from xs (λ k low. h (suc k) (omega arith)))

inside_from : (xs ys : Members) → length xs ≡ length ys
    → ((i : ℕ) → i < length xs → has xs i ≡ true → has ys i ≡ true) → inside xs ys ≡ true
inside_from [] ys e h = refl
inside_from (x ∷ xs) [] e h = absurd (omega arith)
inside_from (true ∷ xs) (y ∷ ys) e h = and_from y (inside xs ys) (h 0 (omega arith) refl)
    (inside_from xs ys (omega arith) (λ i low. h (suc i) (omega arith)))
inside_from (false ∷ xs) (y ∷ ys) e h = inside_from xs ys (omega arith) (λ i low. h (suc i) (omega arith))

apart_from : (xs ys : Members) → ((i : ℕ) → has xs i ≡ true → has ys i ≡ true → ⊥) → not (meets xs ys) ≡ true
apart_from [] ys h = refl
apart_from (x ∷ xs) [] h = refl
apart_from (true ∷ xs) (true ∷ ys) h = absurd (h 0 refl refl)
apart_from (true ∷ xs) (false ∷ ys) h = apart_from xs ys (λ i. h (suc i))
apart_from (false ∷ xs) (y ∷ ys) h = apart_from xs ys (λ i. h (suc i))

apart_at : (xs ys : Members) (i : ℕ) → not (meets xs ys) ≡ true → has xs i ≡ true → has ys i ≡ true → ⊥
apart_at xs ys i h x y = false≢true (sym (ap not (meets_at xs ys i x y)) ∙ h)

-- a word is 0 where no bit is set
no_bits : (w : ℕ) → w < 2 ^ 64 → ((j : ℕ) → j < 64 → bit_is w j ≡ false) → w ≡ 0
no_bits w fits none =
    same_from_bits_below 64 w 0 fits (omega arith) (λ j low. bit_same w 0 j (none j low ∙ sym (bit_zero j)))

pub and_not_bit : (x y j : ℕ) → y < 2 ^ 64 → j < 64 → bit_is (and_not x y) j ≡ (bit_is x j && not (bit_is y j))
and_not_bit x y j fits low = bit_and_is x (bit_not w64 y) j ∙ ap (λ b. bit_is x j && b) (bit_not_is y j fits low)

-- the numbers of a set as bits of its words
module _ (n : ℕ) (a b : List ℕ) (p : IsWords n a) (q : IsWords n b) where
  pub has_is : (ws : List ℕ) → IsWords n ws → (i : ℕ) → has (set_where n (has_bit ws)) i ≡ has_bit ws i
  has_is ws r i = elim (cases_lt i n) [
    | inl low ↦ has-set_where n (has_bit ws) i low
    | inr past ↦ get_or_past (set_where n (has_bit ws)) i false
        (omega (arith, length-set_where n (has_bit ws))) ∙ sym (r.clear i past)
  ]

  -- a bit of a word is a number
  bit_number : (ws : List ℕ) → IsWords n ws → (k j : ℕ) → j < 64
      → has (set_where n (has_bit ws)) (64 * k + j) ≡ bit_is (get_or ws k 0) j
  bit_number ws r k j low = has_is ws r (64 * k + j) ∙ bit_in_word ws k j low

  pub within_is : all_zero (zip2 and_not a b) ≡ inside (set_where n (has_bit a)) (set_where n (has_bit b))
  within_is = both_ways (all_zero (zip2 and_not a b))
      (inside (set_where n (has_bit a)) (set_where n (has_bit b))) forwards backwards
    where
      word_is : (k : ℕ) → k < length a → get_or (zip2 and_not a b) k 0 ≡ and_not (get_or a k 0) (get_or b k 0)
      word_is k low = get_or-zip2 and_not a b k 0 0 0 low (omega (arith, p.long, q.long))

      forwards : all_zero (zip2 and_not a b) ≡ true → inside (set_where n (has_bit a)) (set_where n (has_bit b)) ≡ true
      forwards z = inside_from (set_where n (has_bit a)) (set_where n (has_bit b))
          (length-set_where n (has_bit a) ∙ sym (length-set_where n (has_bit b)))
          (λ i low h.
          let bit : bit_is (get_or a (i / 64) 0) (i % 64) ≡ true = sym (has_is a p i) ∙ h in
          let place : i / 64 < length a = word_within n a i p.long (omega (arith, length-set_where n (has_bit a))) in
          let none : and_not (get_or a (i / 64) 0) (get_or b (i / 64) 0) ≡ 0 = sym (word_is (i / 64) place)
          ∙ zeros_at (zip2 and_not a b) (i / 64) z (omega (arith, length-zip2 and_not a b (p.long ∙ sym q.long))) in
          has_is b q i ∙ implied (bit_is (get_or a (i / 64) 0) (i % 64)) (bit_is (get_or b (i / 64) 0) (i % 64)) bit
          (sym (and_not_bit (get_or a (i / 64) 0) (get_or b (i / 64) 0) (i % 64) (q.fits (i / 64)) (omega arith))
          ∙ ap (λ w. bit_is w (i % 64)) none ∙ bit_zero (i % 64)))
        where
          implied : (x y : Bool) → x ≡ true → (x && not y) ≡ false → y ≡ true
          implied true true e h = refl
          implied true false e h = absurd (true≢false h)
          implied false y e h = absurd (false≢true e)

      backwards : inside (set_where n (has_bit a)) (set_where n (has_bit b)) ≡ true → all_zero (zip2 and_not a b) ≡ true
      backwards h = zeros_from (zip2 and_not a b) (λ k low.
          let place : k < length a = omega (arith, length-zip2 and_not a b (p.long ∙ sym q.long)) in
          word_is k place ∙ no_bits (and_not (get_or a k 0) (get_or b k 0))
          (omega (arith, and_le_l (get_or a k 0) (bit_not w64 (get_or b k 0)), p.fits k))
          (λ j small. and_not_bit (get_or a k 0) (get_or b k 0) j (q.fits k) small
          ∙ ruled (bit_is (get_or a k 0) j) (bit_is (get_or b k 0) j)
          (λ x. sym (bit_number b q k j small) ∙ inside_has (set_where n (has_bit a)) (set_where n (has_bit b))
          (64 * k + j) h (bit_number a p k j small ∙ x))))
        where
          ruled : (x y : Bool) → (x ≡ true → y ≡ true) → (x && not y) ≡ false
          ruled true y h = ap not (h refl)
          ruled false y h = refl

  pub apart_is : all_zero (zip2 bit_and a b) ≡ not (meets (set_where n (has_bit a)) (set_where n (has_bit b)))
  apart_is = both_ways (all_zero (zip2 bit_and a b))
      (not (meets (set_where n (has_bit a)) (set_where n (has_bit b)))) forwards backwards
    where
      word_is : (k : ℕ) → k < length a → get_or (zip2 bit_and a b) k 0 ≡ bit_and (get_or a k 0) (get_or b k 0)
      word_is k low = get_or-zip2 bit_and a b k 0 0 0 low (omega (arith, p.long, q.long))

      forwards : all_zero (zip2 bit_and a b) ≡ true
          → not (meets (set_where n (has_bit a)) (set_where n (has_bit b))) ≡ true
      forwards z = apart_from (set_where n (has_bit a)) (set_where n (has_bit b)) (λ i x y.
          let here : bit_is (get_or a (i / 64) 0) (i % 64) ≡ true = sym (has_is a p i) ∙ x in
          let there : bit_is (get_or b (i / 64) 0) (i % 64) ≡ true = sym (has_is b q i) ∙ y in
          elim (cases_lt (i / 64) (length a)) [
            | inl place ↦
                (let none : bit_and (get_or a (i / 64) 0) (get_or b (i / 64) 0) ≡ 0 =
                sym (word_is (i / 64) place) ∙ zeros_at (zip2 bit_and a b) (i / 64) z
                (omega (arith, length-zip2 bit_and a b (p.long ∙ sym q.long))) in
                false≢true (sym (bit_zero (i % 64)) ∙ ap (λ w. bit_is w (i % 64)) (sym none) ∙ bit_and_is (get_or a
                (i / 64) 0) (get_or b (i / 64) 0) (i % 64) ∙ ap₂ (λ u v. u && v) here there))
            | inr past ↦ false≢true (sym (none_past a i past) ∙ here)
          ])

      backwards : not (meets (set_where n (has_bit a)) (set_where n (has_bit b))) ≡ true
          → all_zero (zip2 bit_and a b) ≡ true
      backwards h = zeros_from (zip2 bit_and a b) (λ k low.
          let place : k < length a = omega (arith, length-zip2 bit_and a b (p.long ∙ sym q.long)) in
          word_is k place ∙ no_bits (bit_and (get_or a k 0) (get_or b k 0))
          (omega (arith, and_le_l (get_or a k 0) (get_or b k 0), p.fits k))
          (λ j small. bit_and_is (get_or a k 0) (get_or b k 0) j
          ∙ not_both (bit_is (get_or a k 0) j) (bit_is (get_or b k 0) j)
          (λ x y. apart_at (set_where n (has_bit a)) (set_where n (has_bit b)) (64 * k + j) h
          (bit_number a p k j small ∙ x) (bit_number b q k j small ∙ y))))
        where
          not_both : (x y : Bool) → (x ≡ true → y ≡ true → ⊥) → (x && y) ≡ false
          not_both true true h = absurd (h refl refl)
          not_both true false h = refl
          not_both false y h = refl

  pub same_words : set_where n (has_bit a) ≡ set_where n (has_bit b) → a ≡ b
  same_words e = same_lists a b (p.long ∙ sym q.long) (λ k d low.
      get_or_zero a k d low ∙ same_from_bits_below 64 (get_or a k 0) (get_or b k 0) (p.fits k) (q.fits k)
      (λ j small. bit_same (get_or a k 0) (get_or b k 0) j
      (sym (bit_number a p k j small) ∙ ap (λ s. has s (64 * k + j)) e ∙ bit_number b q k j small))
      ∙ sym (get_or_zero b k d (omega (arith, p.long, q.long))))
    where
      get_or_zero : (xs : List ℕ) (k d : ℕ) → k < length xs → get_or xs k d ≡ get_or xs k 0
      get_or_zero xs k d low = get_or_default xs k d 0 low
