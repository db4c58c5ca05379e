use Rattle.std.proofs.Common.{◌≡◌, drop}
use Rattle.telling.specs.inner.Outlines.{with_premises}
use Rattle.telling.proofs.outline.add_premises.Given as goal

-- adding those that are left comes to the same
abbrev pub invariant-more : goal.invariant-more
invariant-more l =
    with_premises l.premises.items (drop l.premise-index l.more) ≡ with_premises l.fn.premises.items l.more
