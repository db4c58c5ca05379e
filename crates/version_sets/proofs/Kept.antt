-- A window and the words that it stands for.
use Rattle.std.proofs.Common.{◌≡◌, ℕ, ◌+◌, ◌-◌, ◌<◌, ◌≤◌, ◌∙◌, ap, arith, drop, length, get_or, sym, take}
use Rattle.std.proofs.lemmas.Grind.{same_number_lists}
use Rattle.std.proofs.lemmas.Simd.{length-chunk}
use Rattle.std.specs.Simd.Lanes.{chunk}
use Rattle.version_sets.specs.declared.window.Window.{Window}
use Rattle.version_sets.specs.inner.Forms.{all_words}
use Rattle.version_sets.specs.inner.Windows.{IsFlanked, flank, flank_word, words_for}
use Rattle.version_sets.specs.inner.Words.{ones_in}
use Rattle.version_sets.proofs.Counted.{ones_spread}
use Rattle.version_sets.proofs.Spreads.{chunk_at, length-spread, spread_flanked, spread_high, spread_in, spread_low}

module _ (w : Window) where
  pub window_long : length (all_words w) ≡ words_for w.universe
  window_long = length-spread w.universe w.low w.first w.words.items w.high w.ends

  pub at_low : (k : ℕ) → k < w.first → get_or (all_words w) k 0 ≡ flank_word w.universe w.low k
  at_low = spread_low w.universe w.low w.first w.words.items w.high w.ends

  pub at_in : (k : ℕ) → w.first ≤ k → k < w.first + length w.words.items
      → get_or (all_words w) k 0 ≡ get_or w.words.items (k - w.first) 0
  at_in = spread_in w.universe w.low w.first w.words.items w.high w.ends

  pub at_high : (k : ℕ) → w.first + length w.words.items ≤ k
      → get_or (all_words w) k 0 ≡ flank_word w.universe w.high k
  at_high = spread_high w.universe w.low w.first w.words.items w.high w.ends

  pub ones_parts : ones_in (all_words w) ≡ ones_in (take w.first (flank w.universe w.low)) + ones_in w.words.items
      + ones_in (drop (w.first + length w.words.items) (flank w.universe w.high))
  ones_parts = ones_spread w.universe w.low w.first w.words.items w.high

  pub kept_flanked : (from to : ℕ) → from ≤ w.first → w.first + length w.words.items ≤ to
      → IsFlanked w.universe w.low w.high (all_words w) from to
  kept_flanked = spread_flanked w.universe w.low w.first w.words.items w.high w.ends

  pub kept_chunk : (first end : ℕ) → w.first ≤ first → first ≤ end → end ≤ w.first + length w.words.items
      → chunk (first - w.first) (end - first) w.words.items ≡ chunk first (end - first) (all_words w)
  kept_chunk first end low rising high = same_number_lists (chunk (first - w.first) (end - first) w.words.items)
      (chunk first (end - first) (all_words w)) (own_long ∙ sym (length-chunk first (end - first) (all_words w)
      (omega (arith, window_long, w.ends)))) (λ j below.
      (let within : j < end - first = omega (arith, own_long) in
      let place : first - w.first + j ≡ first + j - w.first = omega arith in
      chunk_at (first - w.first) (end - first) w.words.items j within
      ∙ ap (λ k. get_or w.words.items k 0) place
      ∙ sym (at_in (first + j) (omega arith) (omega arith))
      ∙ sym (chunk_at first (end - first) (all_words w) j within)))
    where
      own_long : length (chunk (first - w.first) (end - first) w.words.items) ≡ end - first
      own_long = length-chunk (first - w.first) (end - first) w.words.items (omega arith)
