-- How many numbers the words have that are kept, and those before and behind them.
use Rattle.std.proofs.Common.{◌≡◌, ℕ, zero, suc, ◌+◌, ◌-◌, ◌*◌, ◌^◌, ◌<◌, ◌≤◌, Bool, true, false, List, [], ◌∷◌}
use Rattle.std.proofs.Common.{◌++◌, length, take, drop, map, min, refl, ap, sym, ◌∙◌, subst, arith, inl, inr}
use Rattle.std.proofs.Math.Dec.{ltb}
use Rattle.std.proofs.lemmas.Bool.{cases_lt, le-ltb, lt-ltb}
use Rattle.std.proofs.lemmas.List.{take-append-drop}
use Rattle.std.proofs.lemmas.List.FromFn.{take-map-range_with_len}
use Rattle.std.specs.Int.RustNames.{count_ones}
use Rattle.std.specs.List.{range_with_len}
use Rattle.version_sets.specs.Sets.{size}
use Rattle.version_sets.specs.inner.Windows.{flank, flank_word, full_word, spread, words_for}
use Rattle.version_sets.specs.inner.Words.{ones_in}
use Rattle.version_sets.proofs.Bits.{bit_is}
use Rattle.version_sets.proofs.Filled.{ones_word}
use Rattle.version_sets.proofs.Flanks.{full_bit, full_fits}
use Rattle.version_sets.proofs.Listing.{map_agree_from}

size_below : (s n a m : ℕ) → size (map (λ j. ltb (s + j) n) (range_with_len a m)) ≡ min (n - (s + a)) m
size_below s n a zero = omega arith
size_below s n a (suc m) = elim (cases_lt (s + a) n) [
  | inl here ↦ ap (λ b. size (b ∷ map (λ j. ltb (s + j) n) (range_with_len (a + 1) m))) (lt-ltb (s + a) n here)
      ∙ omega (arith, size_below s n (a + 1) m)
  | inr past ↦ ap (λ b. size (b ∷ map (λ j. ltb (s + j) n) (range_with_len (a + 1) m))) (le-ltb (s + a) n past)
      ∙ omega (arith, size_below s n (a + 1) m)
]

ones_full : (n k : ℕ) → count_ones (full_word n k) ≡ min (n - 64 * k) 64
ones_full n k = by 64 refl
  where
    by : (m : ℕ) → m ≡ 64 → count_ones (full_word n k) ≡ min (n - 64 * k) 64
    by m e =
        let start : 64 * k + 0 ≡ 64 * k = omega arith in
        sym (ones_word m (full_word n k) (subst (λ l. full_word n k < 2 ^ l) (sym e) (full_fits n k)))
        ∙ ap size (map_agree_from (bit_is (full_word n k)) (λ j. ltb (64 * k + j) n) 0 m
        (λ j low high. full_bit n k j (omega arith))) ∙ size_below (64 * k) n 0 m ∙ omega (arith, start, e)

ones_run : (n a m : ℕ) → ones_in (map (flank_word n true) (range_with_len a m)) ≡ min (n - 64 * a) (64 * m)
ones_run n a zero = omega arith
ones_run n a (suc m) = omega (arith, ones_full n a, ones_run n (a + 1) m)

no_bits : count_ones 0 ≡ 0
unfolding count_ones
no_bits = refl

no_ones : (n a m : ℕ) → ones_in (map (flank_word n false) (range_with_len a m)) ≡ 0
no_ones n a zero = refl
no_ones n a (suc m) = omega (arith, no_ones n (a + 1) m, no_bits)

ones-append : (xs ys : List ℕ) → ones_in (xs ++ ys) ≡ ones_in xs + ones_in ys
ones-append [] ys = omega arith
ones-append (x ∷ xs) ys = omega (arith, ones-append xs ys)

pub before_full : (n first : ℕ) → first ≤ words_for n → ones_in (take first (flank n true)) ≡ min n (64 * first)
unfolding flank
before_full n first within =
    ap ones_in (take-map-range_with_len (flank_word n true) 0 (words_for n) first within)
    ∙ ones_run n 0 first ∙ omega arith

pub before_empty : (n first : ℕ) → first ≤ words_for n → ones_in (take first (flank n false)) ≡ 0
unfolding flank
before_empty n first within =
    ap ones_in (take-map-range_with_len (flank_word n false) 0 (words_for n) first within) ∙ no_ones n 0 first

parts : (xs : List ℕ) (end : ℕ) → ones_in (take end xs) + ones_in (drop end xs) ≡ ones_in xs
parts xs end = sym (ones-append (take end xs) (drop end xs)) ∙ ap ones_in (take-append-drop end xs)

whole_full : (n : ℕ) → ones_in (flank n true) ≡ n
unfolding flank
whole_full n = ones_run n 0 (words_for n) ∙ omega arith

whole_empty : (n : ℕ) → ones_in (flank n false) ≡ 0
unfolding flank
whole_empty n = no_ones n 0 (words_for n)

pub behind_full : (n end : ℕ) → end ≤ words_for n → ones_in (drop end (flank n true)) ≡ n - 64 * end
behind_full n end within = omega (arith, parts (flank n true) end, before_full n end within, whole_full n)

pub behind_empty : (n end : ℕ) → ones_in (drop end (flank n false)) ≡ 0
behind_empty n end = omega (arith, parts (flank n false) end, whole_empty n)

pub ones_spread : (n : ℕ) (low : Bool) (first : ℕ) (ws : List ℕ) (high : Bool) → ones_in (spread n low first ws high)
    ≡ ones_in (take first (flank n low)) + ones_in ws + ones_in (drop (first + length ws) (flank n high))
unfolding spread
ones_spread n low first ws high = ones-append (take first (flank n low)) (ws ++ drop (first + length ws) (flank n high))
    ∙ omega (arith, ones-append ws (drop (first + length ws) (flank n high)))
