-- Words of which the first lies apart from a window of the others.
use Rattle.std.proofs.Common.{◌≡◌, ℕ, zero, suc, ◌+◌, ◌-◌, ◌*◌, ◌/◌, ◌%◌, ◌^◌, ◌<◌, ◌≤◌, Bool, true, false, not, ◌&&◌}
use Rattle.std.proofs.Common.{List, [], ◌∷◌, map, min, get_or, bit_and, refl, ap, ap₂, sym, ◌∙◌, subst, arith, inl, inr}
use Rattle.std.proofs.Math.Bool.{and-true}
use Rattle.std.proofs.Math.Dec.{ltb}
use Rattle.std.proofs.lemmas.Bool.{cases_lt, le-ltb, lt-ltb}
use Rattle.std.proofs.lemmas.Nat.{and_le_l}
use Rattle.std.specs.Int.{bit_not, w64}
use Rattle.std.specs.List.{range_with_len}
use Rattle.std.specs.Simd.Lanes.{zip2}
use Rattle.version_sets.specs.Sets.{between, has}
use Rattle.version_sets.specs.declared.wide.Wide.{Wide}
use Rattle.version_sets.specs.declared.window.Window.{Window}
use Rattle.version_sets.specs.inner.Forms.{HasWideWords, HasWords, IsWide, IsWindow, universe_of, wide_words, all_words}
use Rattle.version_sets.specs.inner.Listed.{set_where}
use Rattle.version_sets.specs.inner.Windows.{flank, flank_word, full_word, words_for}
use Rattle.version_sets.specs.inner.Words.{IsWords, has_bit}
use Rattle.version_sets.proofs.Bits.{bit_and_is, bit_is}
use Rattle.version_sets.proofs.Filled.{turned_fits}
use Rattle.version_sets.proofs.Flanks.{full_bit, same_word}
use Rattle.version_sets.proofs.Listing.{has-set_where, set_agree}
use Rattle.version_sets.proofs.Ranged.{range_bit, range_fits, range_word}
use Rattle.version_sets.proofs.Ranges.{between_none, between_where, in_range}
use Rattle.version_sets.proofs.Whole.{empty_set, flank_words, window_set, window_words}

-- a set by its words
module _ (n : ℕ) (ws : List ℕ) (w : Wide) (h : HasWideWords n ws w) where
  pub words_of_wide : IsWords n ws → IsWords (universe_of w) (wide_words w)
  words_of_wide p = subst (λ m. IsWords m (wide_words w)) (sym h.universe) (subst (IsWords n) (sym h.words) p)

  pub wide_set : set_where (universe_of w) (has_bit (wide_words w)) ≡ set_where n (has_bit ws)
  wide_set = ap₂ (λ m l. set_where m (has_bit l)) h.universe h.words

-- the words of the empty set or of the full one
full_later : (n m a : ℕ) → n ≡ 64 + m → full_word n (a + 1) ≡ full_word m a
unfolding full_word
full_later n m a is = ap (λ c. 2 ^ min c 64 - 1) less
  where
    less : n - 64 * (a + 1) ≡ m - 64 * a
    less = omega (arith, is)

flank_word_later : (n m : ℕ) (b : Bool) (a : ℕ) → n ≡ 64 + m → flank_word n b (a + 1) ≡ flank_word m b a
flank_word_later n m false a is = refl
flank_word_later n m true a is = full_later n m a is

flank_later : (n m : ℕ) (b : Bool) (a k : ℕ) → n ≡ 64 + m
    → map (flank_word n b) (range_with_len (a + 1) k) ≡ map (flank_word m b) (range_with_len a k)
flank_later n m b a zero is = refl
flank_later n m b a (suc k) is = ap₂ (λ w l. w ∷ l) (flank_word_later n m b a is) (flank_later n m b (a + 1) k is)

pub flank_first : (n m : ℕ) (b : Bool) → n ≡ 64 + m → 0 < m → flank n b ≡ flank_word n b 0 ∷ flank m b
unfolding flank
flank_first n m b is some = ap (λ k. map (flank_word n b) (range_with_len 0 k)) more
    ∙ ap (λ l. flank_word n b 0 ∷ l) (flank_later n m b 0 (words_for m) is)
  where
    more : words_for n ≡ suc (words_for m)
    more = omega (arith, is, some)

-- the first word is whole, so none of its bits is past the universe
turned_head : (n h : ℕ) → 64 < n → bit_and (bit_not w64 h) (full_word n 0) ≡ bit_not w64 h
turned_head n h large =
    let fits : bit_not w64 h < 2 ^ 64 = turned_fits (h ∷ []) 0 in
    same_word (bit_and (bit_not w64 h) (full_word n 0)) (bit_not w64 h)
    (omega (arith, fits, and_le_l (bit_not w64 h) (full_word n 0))) fits (λ j low.
    bit_and_is (bit_not w64 h) (full_word n 0) j
    ∙ ap (λ b. bit_is (bit_not w64 h) j && b) (full_bit n 0 j low ∙ lt-ltb (64 * 0 + j) n (omega arith))
    ∙ and-true (bit_is (bit_not w64 h) j))

pub turned_wide : (n m h : ℕ) (ws : List ℕ) → n ≡ 64 + m → 0 < m
    → bit_not w64 h ∷ zip2 bit_and (map (bit_not w64) ws) (flank m true)
    ≡ zip2 bit_and (map (bit_not w64) (h ∷ ws)) (flank n true)
turned_wide n m h ws is some =
    ap (λ x. x ∷ zip2 bit_and (map (bit_not w64) ws) (flank m true)) (sym (turned_head n h (omega (arith, is, some))))
    ∙ ap (zip2 bit_and (map (bit_not w64) (h ∷ ws))) (sym (flank_first n m true is some))

-- their bits
module _ (h : ℕ) (ws : List ℕ) where
  head_bit : (i : ℕ) → i < 64 → has_bit (h ∷ ws) i ≡ bit_is h i
  head_bit i low = ap₂ (λ k j. bit_is (get_or (h ∷ ws) k 0) j) first place
    where
      first : i / 64 ≡ 0
      first = omega arith

      place : i % 64 ≡ i
      place = omega arith

  rest_bit : (i : ℕ) → 64 ≤ i → has_bit (h ∷ ws) i ≡ has_bit ws (i - 64)
  rest_bit i past = ap₂ (λ k j. bit_is (get_or (h ∷ ws) k 0) j) later place
    where
      later : i / 64 ≡ suc ((i - 64) / 64)
      later = omega arith

      place : i % 64 ≡ (i - 64) % 64
      place = omega arith

  pub headed_words : (n : ℕ) → 0 < n → 64 + n ≤ 65536 → h < 2 ^ 64 → IsWords n ws → IsWords (64 + n) (h ∷ ws)
  headed_words n some small fits p = record {
    small = small;
    long = omega (arith, p.long, some);
    fits = each;
    clear = λ i past. rest_bit i (omega (arith, past)) ∙ p.clear (i - 64) (omega (arith, past));
  }
    where
      each : (k : ℕ) → get_or (h ∷ ws) k 0 < 2 ^ 64
      each zero = fits
      each (suc k) = p.fits k

-- the numbers from one on and below another
ltb_later : (i m : ℕ) → 64 ≤ i → ltb (i - 64) (m - 64) ≡ ltb i m
ltb_later i m past = elim (cases_lt i m) [
  | inl low ↦ lt-ltb (i - 64) (m - 64) (omega (arith, past, low)) ∙ sym (lt-ltb i m low)
  | inr high ↦ le-ltb (i - 64) (m - 64) (omega (arith, past, high)) ∙ sym (le-ltb i m high)
]

module _ (n from to : ℕ) (large : 64 < n) (rising : from ≤ to) (within : to ≤ n) (ws : List ℕ)
    (rest : set_where (n - 64) (has_bit ws) ≡ between (n - 64) (from - 64) (to - 64)) where
  later_bit : (i : ℕ) → 64 ≤ i → i < n → has_bit ws (i - 64) ≡ in_range from to i
  later_bit i past low =
      let here : i - 64 < n - 64 = omega (arith, past, low) in
      sym (has-set_where (n - 64) (has_bit ws) (i - 64) here)
      ∙ ap (λ s. has s (i - 64))
      (rest ∙ between_where (n - 64) (from - 64) (to - 64) (omega (arith, rising)) (omega (arith, within)))
      ∙ has-set_where (n - 64) (in_range (from - 64) (to - 64)) (i - 64) here
      ∙ ap₂ (λ b c. b && not c) (ltb_later i to past) (ltb_later i from past)

  pub wide_range : set_where n (has_bit (range_word from to 0 ∷ ws)) ≡ between n from to
  wide_range = set_agree (has_bit (range_word from to 0 ∷ ws)) (in_range from to) n (λ i low. elim (cases_lt i 64) [
    | inl first ↦ (let part : 64 * 0 + i ≡ i = omega arith in
        head_bit (range_word from to 0) ws i first ∙ range_bit from to 0 i first ∙ ap (in_range from to) part)
    | inr past ↦ rest_bit (range_word from to 0) ws i past ∙ later_bit i past low
  ]) ∙ sym (between_where n from to rising within)

pub is_wide : (n from to : ℕ) → 64 < n → n ≤ 65536 → from ≤ to → to ≤ n → (w : Window)
    → IsWindow (n - 64) (between (n - 64) (from - 64) (to - 64)) w → (h : ℕ) → h ≡ range_word from to 0
    → IsWide n (between n from to) (record { head = h; rest = w })
is_wide n from to large small rising within w is h h_is = record {
  universe = omega (arith, is.universe, large);
  words = headed_words h (all_words w) w.universe w.large (omega (arith, is.universe, large, small))
      (subst (λ x. x < 2 ^ 64) (sym h_is) (range_fits from to 0)) is.words;
  set = ap (λ x. set_where n (has_bit (x ∷ all_words w))) h_is
      ∙ wide_range n from to large rising within (all_words w) is.set;
}

-- a window of no number
pub no_range : (n from to : ℕ) (w : Window) → n ≤ 65536 → to ≤ n → from ≡ to → HasWords n (flank n false) w
    → IsWindow n (between n from to) w
no_range n from to w small within same h = record {
  universe = h.universe;
  words = window_words n (flank n false) w h (flank_words n false small);
  set = ap (λ m. set_where m (has_bit (all_words w))) (sym h.universe) ∙ window_set n (flank n false) w h ∙ empty_set n
      ∙ sym (ap (λ m. between n m to) same ∙ between_none n to within);
}
