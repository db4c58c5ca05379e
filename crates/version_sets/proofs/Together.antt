-- The words of two windows over one universe, put together and compared.
use Rattle.std.proofs.Common.{◌≡◌, ◌↔◌, ℕ, ◌+◌, ◌-◌, ◌<◌, ◌≤◌, Bool, true, false, List, length, drop, get_or, ap, ap₂}
use Rattle.std.proofs.Common.{sym, ◌∙◌, subst, arith, min, inl, inr}
use Rattle.std.proofs.lemmas.Bool.{cases_lt, false≢true}
use Rattle.std.proofs.lemmas.List.{length-take}
use Rattle.std.proofs.lemmas.Simd.{get_or-zip2, length-chunk, length-zip2}
use Rattle.std.specs.Prelude.{IsTrue}
use Rattle.std.specs.Simd.Lanes.{chunk, zip2}
use Rattle.version_sets.specs.declared.window.Window.{Window}
use Rattle.version_sets.specs.inner.Forms.{IsHull, IsHullAndEnds, IsNothingAt, IsOverlap, Keeps, all_words}
use Rattle.version_sets.specs.inner.Windows.{flank_word, spread, words_for}
use Rattle.version_sets.specs.inner.Words.{all_zero}
use Rattle.version_sets.proofs.Bits.{both_ways, zeros_at, zeros_from}
use Rattle.version_sets.proofs.Flanks.{IsBitwise, flank_zero, flanks_are}
use Rattle.version_sets.proofs.Kept.{window_long}
use Rattle.version_sets.proofs.Spreads.{chunk_at, of_flanked, zip_spread}

module _ (a b : Window) (from to : ℕ) (same : a.universe ≡ b.universe) (h : IsHull a b from to) where
  within_b : to ≤ words_for b.universe
  within_b = subst (λ n. to ≤ words_for n) same h.within

  long_b : length (all_words b) ≡ words_for a.universe
  long_b = window_long b ∙ ap words_for (sym same)

  both_long : length (all_words a) ≡ length (all_words b)
  both_long = window_long a ∙ sym long_b

  wide_a : length (chunk from (to - from) (all_words a)) ≡ to - from
  wide_a = length-chunk from (to - from) (all_words a) (omega (arith, window_long a, h.rising, h.within))

  pub hull_long : length (chunk from (to - from) (all_words a)) ≡ length (chunk from (to - from) (all_words b))
  hull_long = wide_a
      ∙ sym (length-chunk from (to - from) (all_words b) (omega (arith, long_b, h.rising, h.within)))

module _ (f : ℕ → ℕ → ℕ) (g : Bool → Bool → Bool) (is : IsBitwise f g) (a b : Window) (from to : ℕ)
    (same : a.universe ≡ b.universe) (h : IsHull a b from to) where
  pub hull_ends : from + length (zip2 f (chunk from (to - from) (all_words a)) (chunk from (to - from) (all_words b)))
      ≤ words_for a.universe
  hull_ends = omega (
    arith,
    length-zip2 f (chunk from (to - from) (all_words a)) (chunk from (to - from) (all_words b))
        (hull_long a b from to same h),
    (wide_a a b from to same h),
    h.rising,
    h.within,
  )

  pub hull_words : spread a.universe (g a.low b.low) from
      (zip2 f (chunk from (to - from) (all_words a)) (chunk from (to - from) (all_words b))) (g a.high b.high)
      ≡ zip2 f (all_words a) (all_words b)
  hull_words = zip_spread f g is a.universe a.low b.low a.high b.high from (chunk from (to - from) (all_words a))
      (chunk from (to - from) (all_words b)) (hull_long a b from to same h)
      (omega (arith, (wide_a a b from to same h), h.rising, h.within))
      ∙ ap₂ (zip2 f)
      (of_flanked a.universe a.low a.high (all_words a) from to (window_long a) h.rising h.within h.first)
      (ap (λ n. spread n b.low from (chunk from (to - from) (all_words b)) b.high) same
      ∙ of_flanked b.universe b.low b.high (all_words b) from to (window_long b) h.rising
      (within_b a b from to same h) h.second)

-- the words of both, one by one
module _ (f : ℕ → ℕ → ℕ) (g : Bool → Bool → Bool) (is : IsBitwise f g) (a b : Window) (same : a.universe ≡ b.universe)
    (from to : ℕ) (h : IsHullAndEnds a b from to) where
  abbrev both_at : ℕ → ℕ
  both_at k = f (get_or (all_words a) k 0) (get_or (all_words b) k 0)

  zipped_long : length (zip2 f (all_words a) (all_words b)) ≡ words_for a.universe
  zipped_long = length-zip2 f (all_words a) (all_words b) (both_long a b h.first h.last same h.hull) ∙ window_long a

  zipped_at : (k : ℕ) → k < words_for a.universe → get_or (zip2 f (all_words a) (all_words b)) k 0 ≡ both_at k
  zipped_at k low = get_or-zip2 f (all_words a) (all_words b) k 0 0 0 (omega (arith, window_long a))
      (omega (arith, long_b a b h.first h.last same h.hull))

  before : (k : ℕ) → k < h.first → both_at k ≡ flank_word a.universe (g a.low b.low) k
  before k here = ap₂ f (h.hull.first.before k here)
      (h.hull.second.before k here ∙ ap (λ n. flank_word n b.low k) (sym same))
      ∙ flanks_are f g is a.universe a.low b.low k

  behind : (k : ℕ) → h.last ≤ k → both_at k ≡ flank_word a.universe (g a.high b.high) k
  behind k here = ap₂ f (h.hull.first.behind k here)
      (h.hull.second.behind k here ∙ ap (λ n. flank_word n b.high k) (sym same))
      ∙ flanks_are f g is a.universe a.high b.high k

  -- if the words from one place on and below the other are 0, then all are
  each_zero : IsNothingAt f a b from to → (k : ℕ) → k < words_for a.universe → both_at k ≡ 0
  each_zero zero k low =
      let rising : h.first ≤ h.last = h.hull.rising in
      let within : h.last ≤ words_for a.universe = h.hull.within in
      let from_is : from ≡ h.first - 1 = h.from_is in
      let to_is : to ≡ min (words_for a.universe) (h.last + 1) = h.to_is in
      elim (cases_lt k h.first) [
        | inl here ↦ before k here ∙ flank_zero a.universe (g a.low b.low) from k (omega (arith, a.large))
            (sym (before from (omega arith)) ∙ zero from (omega arith) (omega arith))
        | inr past ↦ elim (cases_lt k h.last) [
          | inl here ↦ zero k (omega arith) (omega arith)
          | inr far ↦ behind k far ∙ flank_zero a.universe (g a.high b.high) h.last k (omega (arith, a.large))
              (sym (behind h.last (omega arith)) ∙ zero h.last (omega arith) (omega arith))
        ]
      ]

  all_zeros : IsNothingAt f a b from to → all_zero (zip2 f (all_words a) (all_words b)) ≡ true
  all_zeros zero = zeros_from (zip2 f (all_words a) (all_words b)) (λ k low.
      (let fits : k < words_for a.universe = omega (arith, zipped_long) in
      zipped_at k fits ∙ each_zero zero k fits))

  -- a test of some of these places, where the others are 0 anyhow
  pub tested_between : (t : Bool) (i j : ℕ) → (IsTrue t ↔ IsNothingAt f a b i j) → j ≤ to
      → (IsNothingAt f a b i j → IsNothingAt f a b from to) → t ≡ all_zero (zip2 f (all_words a) (all_words b))
  tested_between t i j is within others = both_ways t (all_zero (zip2 f (all_words a) (all_words b)))
      (λ yes. all_zeros (others (is.0 yes)))
      (λ yes. is.1 (λ k past low.
      (let fits : k < words_for a.universe = omega (arith, h.to_is) in
      sym (zipped_at k fits)
      ∙ zeros_at (zip2 f (all_words a) (all_words b)) k yes (omega (arith, zipped_long)))))

-- the places that both windows keep, and those before and behind them
pub part_fails : {P Q : Type 0} (t : Bool) → (IsTrue t ↔ P) → t ≡ false → (Q → P) → IsTrue false ↔ Q
part_fails t is failed part = ((λ yes. absurd (false≢true yes)), (λ whole. sym failed ∙ is.1 (part whole)))

kept_long : (w : Window) (first end : ℕ) → Keeps w first end
    → length (chunk first (end - first) (all_words w)) ≡ end - first
kept_long w first end keeps = elim (cases_lt first end) [
  | inl some ↦ length-chunk first (end - first) (all_words w)
      (omega (arith, keeps.to some, w.ends, window_long w))
  | inr none ↦ omega (arith, length-take (end - first) (drop first (all_words w)))
]

module _ (f : ℕ → ℕ → ℕ) (a b : Window) (from to first end : ℕ) (o : IsOverlap a b from to first end) where
  pub nothing_before : IsNothingAt f a b from to → IsNothingAt f a b from first
  nothing_before whole k past low = whole k past (omega (arith, o.rising, o.below))

  pub nothing_behind : IsNothingAt f a b from to → IsNothingAt f a b end to
  nothing_behind whole k past low = whole k (omega (arith, o.above (omega (arith, o.rising)), o.rising)) low

  nothing_kept : IsNothingAt f a b from to → IsNothingAt f a b first end
  nothing_kept whole k past low = whole k (omega (arith, o.above (omega (arith, o.below)))) (omega (arith, o.below))

  abbrev kept : Window → List ℕ
  kept w = chunk first (end - first) (all_words w)

  kept_at : (k : ℕ) → first ≤ k → k < end
      → get_or (zip2 f (kept a) (kept b)) (k - first) 0 ≡ f (get_or (all_words a) k 0) (get_or (all_words b) k 0)
  kept_at k past low =
      let within : k - first < end - first = omega arith in
      let place : first + (k - first) ≡ k = omega arith in
      get_or-zip2 f (kept a) (kept b) (k - first) 0 0 0 (omega (arith, kept_long a first end o.of_first))
      (omega (arith, kept_long b first end o.of_second))
      ∙ ap₂ f
      (chunk_at first (end - first) (all_words a) (k - first) within ∙ ap (λ i. get_or (all_words a) i 0) place)
      (chunk_at first (end - first) (all_words b) (k - first) within ∙ ap (λ i. get_or (all_words b) i 0) place)

  same_kept : length (kept a) ≡ length (kept b)
  same_kept = kept_long a first end o.of_first ∙ sym (kept_long b first end o.of_second)

  pub kept_fit : (us vs : List ℕ) → us ≡ kept a → vs ≡ kept b → length us ≡ length vs
  kept_fit us vs us_are vs_are = ap length us_are ∙ same_kept ∙ sym (ap length vs_are)

  zipped_kept : length (zip2 f (kept a) (kept b)) ≡ end - first
  zipped_kept = length-zip2 f (kept a) (kept b) same_kept ∙ kept_long a first end o.of_first

  -- nothing before the kept places and behind them: then they decide
  pub kept_decide : (us vs : List ℕ) (t : Bool) → us ≡ kept a → vs ≡ kept b → t ≡ all_zero (zip2 f us vs)
      → IsNothingAt f a b from first → IsNothingAt f a b end to → IsTrue t ↔ IsNothingAt f a b from to
  kept_decide us vs t us_are vs_are t_is before behind = (
    (λ yes k past low. elim (cases_lt k first) [
      | inl here ↦ before k past here
      | inr later ↦ elim (cases_lt k end) [
        | inl here ↦ sym (kept_at k later here)
            ∙ zeros_at (zip2 f (kept a) (kept b)) (k - first) (sym is ∙ yes) (omega (arith, zipped_kept))
        | inr far ↦ behind k far low
      ]
    ]),
    (λ whole. is ∙ zeros_from (zip2 f (kept a) (kept b)) (λ j low.
        (let place : first + j - first ≡ j = omega arith in
        ap (λ i. get_or (zip2 f (kept a) (kept b)) i 0) (sym place)
        ∙ kept_at (first + j) (omega arith) (omega (arith, zipped_kept))
        ∙ nothing_kept whole (first + j) (omega arith) (omega (arith, zipped_kept))))),
  )
    where
      is : t ≡ all_zero (zip2 f (kept a) (kept b))
      is = t_is ∙ ap₂ (λ xs ys. all_zero (zip2 f xs ys)) us_are vs_are
