-- The words of the numbers from one on and below another.
use Rattle.std.proofs.Common.{◌≡◌, ℕ, ◌+◌, ◌-◌, ◌*◌, ◌/◌, ◌%◌, ◌^◌, ◌<◌, ◌≤◌, Bool, not, ◌&&◌, eqb, List, [], ◌∷◌}
use Rattle.std.proofs.Common.{length, map, get_or, refl, ap, ap₂, sym, ◌∙◌, subst, arith, eq-eqb, inl, inr}
use Rattle.std.proofs.Math.Dec.{ltb}
use Rattle.std.proofs.lemmas.Bool.{cases_eq, cases_lt, le-ltb, lt-ltb, ne_eqb}
use Rattle.std.proofs.lemmas.List.{get_or_past}
use Rattle.std.proofs.lemmas.List.FromFn.{get_or-map-range_with_len, length-map-range_with_len}
use Rattle.std.specs.List.{range_with_len}
use Rattle.version_sets.specs.Sets.{between}
use Rattle.version_sets.specs.inner.Listed.{set_where}
use Rattle.version_sets.specs.inner.Windows.{AreEnds, flank_word, full_word, spread, words_for}
use Rattle.version_sets.specs.inner.Words.{IsWords, and_not, has_bit}
use Rattle.version_sets.proofs.Bits.{and_not_bit, bit_is, none_past}
use Rattle.version_sets.proofs.Filled.{word_fits}
use Rattle.version_sets.proofs.Flanks.{and_not_bitwise, flank_bit, full_bit, full_fits}
use Rattle.version_sets.proofs.Listing.{set_agree}
use Rattle.version_sets.proofs.Ranges.{between_where, in_range, in_range_below, in_range_inside, in_range_past}
use Rattle.version_sets.proofs.Spreads.{length-spread, spread_fits, spread_high, spread_in}
use Rattle.version_sets.proofs.Spreads.{spread_low}

-- one word
abbrev pub range_word : ℕ → ℕ → ℕ → ℕ
range_word from to k = and_not (full_word to k) (full_word from k)

pub range_fits : (from to k : ℕ) → range_word from to k < 2 ^ 64
range_fits from to k =
    and_not_bitwise.bound (full_word to k) (full_word from k) (full_fits to k) (full_fits from k)

pub range_bit : (from to k j : ℕ) → j < 64 → bit_is (range_word from to k) j ≡ in_range from to (64 * k + j)
range_bit from to k j low = and_not_bit (full_word to k) (full_word from k) j (full_fits from k) low
    ∙ ap₂ (λ x y. x && not y) (full_bit to k j low) (full_bit from k j low)

-- the words of a window of them
module _ (n from to first end : ℕ) (small : n ≤ 65536) (rising : from < to) (within : to ≤ n)
    (is : AreEnds n from to first end) (ws : List ℕ)
    (ws_are : ws ≡ map (range_word from to) (range_with_len first (end - first))) where
  long : length ws ≡ end - first
  long = ap length ws_are ∙ length-map-range_with_len (range_word from to) first (end - first)

  pub range_ends : first + length ws ≤ words_for n
  range_ends = omega (arith, long, is.rising, is.within)

  abbrev all : List ℕ
  all = spread n (eqb from 0) first ws (eqb to n)

  part : (i : ℕ) → 64 * (i / 64) + i % 64 ≡ i
  part i = omega arith

  flank_at : (b : Bool) (i : ℕ) → bit_is (flank_word n b (i / 64)) (i % 64) ≡ (b && ltb i n)
  flank_at b i = flank_bit n b (i / 64) (i % 64) (omega arith) ∙ ap (λ m. b && ltb m n) (part i)

  before : (i : ℕ) → i / 64 < first → (eqb from 0 && ltb i n) ≡ in_range from to i
  before i here = elim (cases_eq from 0) [
    | inl e ↦ (let low : 64 * first ≤ to = is.low e in
        ap₂ (λ x y. x && y) (eq-eqb from 0 e) (lt-ltb i n (omega arith))
        ∙ sym (in_range_inside from to i (omega arith) (omega arith)))
    | inr o ↦ (let low : 64 * first ≤ from = is.above (omega (arith, o)) in
        ap (λ x. x && ltb i n) (ne_eqb from 0 o) ∙ sym (in_range_below from to i (omega arith)))
  ]

  behind : (i : ℕ) → end ≤ i / 64 → (eqb to n && ltb i n) ≡ in_range from to i
  behind i here = elim (cases_eq to n) [
    | inl e ↦ (let high : from ≤ 64 * end = is.high e in
        ap (λ x. x && ltb i n) (eq-eqb to n e) ∙ elim (cases_lt i n) [
          | inl low ↦ lt-ltb i n low ∙ sym (in_range_inside from to i (omega arith) (omega arith))
          | inr past ↦ le-ltb i n past ∙ sym (in_range_past from to i (omega arith))
        ])
    | inr o ↦ (let high : to ≤ 64 * end = is.below (omega (arith, o)) in
        ap (λ x. x && ltb i n) (ne_eqb to n o) ∙ sym (in_range_past from to i (omega arith)))
  ]

  each : (i : ℕ) → has_bit all i ≡ in_range from to i
  each i = elim (cases_lt (i / 64) first) [
    | inl here ↦ ap (λ w. bit_is w (i % 64)) (spread_low n (eqb from 0) first ws (eqb to n) range_ends (i / 64) here)
        ∙ flank_at (eqb from 0) i ∙ before i here
    | inr past ↦ elim (cases_lt (i / 64) end) [
      | inl here ↦ (let place : first + (i / 64 - first) ≡ i / 64 = omega arith in
          ap (λ w. bit_is w (i % 64)) (spread_in n (eqb from 0) first ws (eqb to n) range_ends (i / 64) past
          (omega (arith, long))
          ∙ ap (λ l. get_or l (i / 64 - first) 0) ws_are
          ∙ get_or-map-range_with_len (range_word from to) first (end - first) (i / 64 - first) (i / 64) 0
          (omega arith) place)
          ∙ range_bit from to (i / 64) (i % 64) (omega arith) ∙ ap (in_range from to) (part i))
      | inr far ↦ ap (λ w. bit_is w (i % 64)) (spread_high n (eqb from 0) first ws (eqb to n) range_ends (i / 64)
          (omega (arith, long, is.rising)))
          ∙ flank_at (eqb to n) i ∙ behind i far
    ]
  ]

  ws_fit : (k : ℕ) → get_or ws k 0 < 2 ^ 64
  ws_fit k = elim (cases_lt k (length ws)) [
    | inl low ↦ subst (λ w. w < 2 ^ 64) (sym (ap (λ l. get_or l k 0) ws_are
        ∙ get_or-map-range_with_len (range_word from to) first (end - first) k (first + k) 0
        (omega (arith, long)) refl))
        (range_fits from to (first + k))
    | inr past ↦ subst (λ w. w < 2 ^ 64) (sym (get_or_past ws k 0 past)) (omega arith)
  ]

  pub range_words : IsWords n all
  range_words = record {
    small = small;
    long = length-spread n (eqb from 0) first ws (eqb to n) range_ends;
    fits = spread_fits n (eqb from 0) first ws (eqb to n) range_ends ws_fit;
    clear = λ i past. each i ∙ in_range_past from to i (omega arith);
  }

  pub range_set : set_where n (has_bit all) ≡ between n from to
  range_set = set_agree (has_bit all) (in_range from to) n (λ i low. each i)
      ∙ sym (between_where n from to (omega arith) within)

-- the same in one word
module _ (n from to : ℕ) (small : n ≤ 64) (within : to ≤ n) where
  abbrev word : ℕ
  word = range_word from to 0

  lone_bit : (i : ℕ) → has_bit (word ∷ []) i ≡ in_range from to i
  lone_bit i = elim (cases_lt i 64) [
    | inl low ↦ (let first : i / 64 ≡ 0 = omega arith in let part : 64 * 0 + i % 64 ≡ i = omega arith in
        ap (λ k. bit_is (get_or (word ∷ []) k 0) (i % 64)) first
        ∙ range_bit from to 0 (i % 64) (omega arith) ∙ ap (in_range from to) part)
    | inr past ↦ none_past (word ∷ []) i (omega arith) ∙ sym (in_range_past from to i (omega arith))
  ]

  pub lone_range : IsWords n (word ∷ [])
  lone_range = record {
    small = omega arith;
    long = omega arith;
    fits = word_fits word (range_fits from to 0);
    clear = λ i past. lone_bit i ∙ in_range_past from to i (omega arith);
  }

  pub lone_range_set : from ≤ to → set_where n (has_bit (word ∷ [])) ≡ between n from to
  lone_range_set rising = set_agree (has_bit (word ∷ [])) (in_range from to) n (λ i low. lone_bit i)
      ∙ sym (between_where n from to rising within)
