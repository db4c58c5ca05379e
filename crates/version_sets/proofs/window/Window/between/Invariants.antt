use Rattle.std.proofs.Common.{◌≡◌, ◌-◌}
use Rattle.std.specs.Simd.Lanes.{chunk}
use Rattle.version_sets.specs.inner.Forms.{all_words}
use Rattle.version_sets.proofs.window.Window.between.Given as goal

abbrev pub invariant-places : goal.invariant-places
invariant-places l = l.words.items ≡ chunk l.from (l.place - l.from) (all_words l.self)
