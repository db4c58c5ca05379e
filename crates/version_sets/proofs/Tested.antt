-- Sets of tests, as lists of numbers and as words.
use Rattle.std.proofs.Common.{◌≡◌, ◌≢◌, ℕ, zero, suc, ◌+◌, ◌-◌, ◌*◌, ◌/◌, ◌%◌, ◌^◌, ◌<◌, ◌≤◌, Bool, true, false, cond}
use Rattle.std.proofs.Common.{◌||◌, eqb, List, [], ◌∷◌, ◌++◌, length, get_or, bit_or, refl, ap, ap₂, sym, ◌∙◌, subst}
use Rattle.std.proofs.Common.{arith, inl, inr}
use Rattle.std.proofs.lemmas.Bool.{cases_eq, cases_lt}
use Rattle.std.proofs.lemmas.List.{get_or_append_left, length-append}
use Rattle.std.proofs.lemmas.Nat.Bits.{bit_at-pow_same, bit_at-pow_other}
use Rattle.std.proofs.Math.Bool.{or-false}
use Rattle.version_sets.specs.Sets.{Members, has}
use Rattle.version_sets.specs.inner.Listed.{set_where}
use Rattle.version_sets.specs.inner.Words.{AreWordsOf, IsWords, has_bit}
use Rattle.version_sets.proofs.Bits.{bit_is, bit_or_is, none_past}
use Rattle.version_sets.proofs.Listing.{set_agree, set_of_tests}

-- the bits below a place are the tests, and the others aren't set
pub record IsWordUpTo (tests : Members) (from place made : ℕ) : Type 0 where
  pub done : (j : ℕ) → j < place → bit_is made j ≡ has tests (from + j)
  pub others : (j : ℕ) → place ≤ j → bit_is made j ≡ false

pub word_more : (tests : Members) (from place made new : ℕ) → IsWordUpTo tests from place made
    → new ≡ cond (has tests (from + place)) (bit_or made (2 ^ place)) made → IsWordUpTo tests from (place + 1) new
word_more tests from place made new now is = by (has tests (from + place)) refl
  where
    by : (b : Bool) → has tests (from + place) ≡ b → IsWordUpTo tests from (place + 1) new
    by true e =
        let n : new ≡ bit_or made (2 ^ place) = is ∙ ap (λ b. cond b (bit_or made (2 ^ place)) made) e in
        let bit : (j : ℕ) → bit_is new j ≡ (bit_is made j || bit_is (2 ^ place) j) =
        λ j. ap (λ w. bit_is w j) n ∙ bit_or_is made (2 ^ place) j in
        record {
          done = λ j lt. elim (cases_eq j place) [
            | inl s ↦ bit j ∙ ap₂ (λ x y. x || y) (now.others j (omega (arith, s))) (ap (λ k. bit_is (2 ^ place) k) s
                ∙ ap (λ k. eqb k 1) (bit_at-pow_same place)) ∙ sym (ap (λ k. has tests (from + k)) s ∙ e)
            | inr o ↦ bit j ∙ ap₂ (λ x y. x || y) (now.done j (omega (arith, lt, o)))
                (ap (λ k. eqb k 1) (bit_at-pow_other place j o)) ∙ or-false (has tests (from + j))
          ];
          others = λ j le. (let o : j ≢ place = (λ (s : j ≡ place). omega (arith, le, s)) in
              bit j ∙ ap₂ (λ x y. x || y) (now.others j (omega (arith, le)))
              (ap (λ k. eqb k 1) (bit_at-pow_other place j o)));
        }
    by false e =
        let n : new ≡ made = is ∙ ap (λ b. cond b (bit_or made (2 ^ place)) made) e in
        record {
          done = λ j lt. elim (cases_eq j place) [
            | inl s ↦ ap (λ w. bit_is w j) n ∙ now.others j (omega (arith, s))
                ∙ sym (ap (λ k. has tests (from + k)) s ∙ e)
            | inr o ↦ ap (λ w. bit_is w j) n ∙ now.done j (omega (arith, lt, o))
          ];
          others = λ j le. ap (λ w. bit_is w j) n ∙ now.others j (omega (arith, le));
        }

-- words one after another

pub no_words : (tests : Members) → AreWordsOf tests 0 []
no_words tests = record { long = refl; fits = λ k. omega arith; bits = λ k j lt. absurd (omega (arith, lt)) }

pub one_word : (tests : Members) (n w : ℕ) (ws new : List ℕ) → AreWordsOf tests n ws → w < 2 ^ 64
    → ((j : ℕ) → j < 64 → bit_is w j ≡ has tests (64 * n + j)) → new ≡ ws ++ w ∷ [] → AreWordsOf tests (n + 1) new
one_word tests n w ws new now fits bits is = subst (AreWordsOf tests (n + 1)) (sym is) (record {
  long = (let e : length (ws ++ w ∷ []) ≡ length ws + 1 = length-append ws (w ∷ []) in omega (arith, e, now.long));
  fits = λ k. all_fit ws k now.fits;
  bits = λ k j lt low. elim (cases_lt k (length ws)) [
    | inl here ↦ ap (λ x. bit_is x j) (get_or_append_left ws (w ∷ []) 0 k here) ∙ now.bits k j here low
    | inr past ↦ (let e : length (ws ++ w ∷ []) ≡ length ws + 1 = length-append ws (w ∷ []) in let s : k ≡ length ws =
        omega (arith, e, lt, past) in
        ap (λ m. bit_is (get_or (ws ++ w ∷ []) m 0) j) s ∙ ap (λ x. bit_is x j) (at_end ws) ∙ bits j low
        ∙ ap (λ m. has tests (64 * m + j)) (sym (s ∙ now.long)))
  ];
})
  where
    at_end : (xs : List ℕ) → get_or (xs ++ w ∷ []) (length xs) 0 ≡ w
    at_end [] = refl
    at_end (x ∷ xs) = at_end xs

    all_fit : (xs : List ℕ) (k : ℕ) → ((k : ℕ) → get_or xs k 0 < 2 ^ 64) → get_or (xs ++ w ∷ []) k 0 < 2 ^ 64
    all_fit [] zero h = fits
    all_fit [] (suc k) h = omega arith
    all_fit (x ∷ xs) zero h = h 0
    all_fit (x ∷ xs) (suc k) h = all_fit xs k (λ i. h (suc i))

-- all words

no_test : (tests : Members) (i : ℕ) → length tests ≤ i → has tests i ≡ false
no_test [] i le = refl
no_test (t ∷ tests) zero le = absurd (omega (arith, le))
no_test (t ∷ tests) (suc i) le = no_test tests i (omega (arith, le))

module _ (tests : Members) (n : ℕ) (ws : List ℕ) (long : n ≡ length tests) (small : length tests ≤ 65536)
    (all : AreWordsOf tests ((length tests - 1) / 64 + 1) ws) where
  bits_are : (i : ℕ) → has_bit ws i ≡ has tests i
  bits_are i = elim (cases_lt (i / 64) (length ws)) [
    | inl here ↦ (let s : 64 * (i / 64) + i % 64 ≡ i =
        omega arith in all.bits (i / 64) (i % 64) here (omega arith) ∙ ap (has tests) s)
    | inr past ↦ (let l : length ws ≡ (length tests - 1) / 64 + 1 =
        all.long in none_past ws i past ∙ sym (no_test tests i (omega (arith, past, l))))
  ]

  pub tested_words : IsWords n ws
  tested_words = record {
    small = omega (arith, long, small);
    long = (let l : length ws ≡ (length tests - 1) / 64 + 1 = all.long in omega (arith, l, long));
    fits = all.fits;
    clear = λ i le. bits_are i ∙ no_test tests i (omega (arith, le, long));
  }

  pub tested_set : set_where n (has_bit ws) ≡ tests
  tested_set = set_agree (has_bit ws) (has tests) n (λ i lt. bits_are i) ∙ sym (set_of_tests tests n (sym long))

-- the tests of one word
pub lone_tests : (tests : Members) (w : ℕ) → length tests ≤ 64 → w < 2 ^ 64
    → ((j : ℕ) → j < 64 → bit_is w j ≡ has tests (64 * 0 + j)) → AreWordsOf tests ((length tests - 1) / 64 + 1) (w ∷ [])
lone_tests tests w small fits bits =
    subst (λ k. AreWordsOf tests k (w ∷ [])) long (one_word tests 0 w [] (w ∷ []) (no_words tests) fits bits refl)
  where
    long : 0 + 1 ≡ (length tests - 1) / 64 + 1
    long = omega arith
