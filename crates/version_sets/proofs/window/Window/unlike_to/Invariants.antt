use Rattle.std.proofs.Common.{◌≡◌, ◌≤◌, ◌-◌, ℕ, get_or}
use Rattle.version_sets.specs.inner.Forms.{all_words}
use Rattle.version_sets.specs.inner.Windows.{flank_word}
use Rattle.version_sets.proofs.window.Window.unlike_to.Given as goal

abbrev pub invariant-places : goal.invariant-places
invariant-places l =
    (k : ℕ) → l.end - l.back ≤ k → get_or (all_words l.self) k 0 ≡ flank_word l.self.universe l.self.high k
