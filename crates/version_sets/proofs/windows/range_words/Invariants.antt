use Rattle.std.proofs.Common.{◌≡◌, ◌-◌, map}
use Rattle.std.specs.List.{range_with_len}
use Rattle.version_sets.specs.inner.Windows.{full_word}
use Rattle.version_sets.specs.inner.Words.{and_not}
use Rattle.version_sets.proofs.windows.range_words.Given as goal

abbrev pub invariant-places : goal.invariant-places
invariant-places l = l.words.items
    ≡ map (λ k. and_not (full_word l.to k) (full_word l.from k)) (range_with_len l.first (l.place - l.first))
