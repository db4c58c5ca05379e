use Rattle.std.proofs.Common.{◌≡◌, drop}
use Rattle.telling.specs.inner.Outlines.{outline_from, uses_of}
use Rattle.telling.specs.inner.Views.{so_far_view}
use Rattle.telling.proofs.outline.look_at_all.Given as goal

-- going on from here comes to the same outline
abbrev pub invariant-steps : goal.invariant-steps
invariant-steps l =
    outline_from l.notes l.derivation l.number (drop l.number l.used-items) (so_far_view l.so_far)
    ≡ outline_from l.notes l.derivation 0 (uses_of l.derivation) (so_far_view l.fn.so_far)
