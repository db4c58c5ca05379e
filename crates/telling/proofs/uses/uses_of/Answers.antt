use Rattle.std.proofs.Common.{ℕ, ◌-◌, arith}
use Rattle.telling.specs.inner.Outlines.{uses_of}
use Rattle.telling.proofs.UsesLaws.{went-on}
use Rattle.telling.proofs.uses.uses_of.Goals as goal

pub steps-preserved : goal.steps-preserved
steps-preserved c =
    let l : ℕ = c.steps.left - 1 in
    went-on c.args.derivation.now l c.steps.left c.steps.uses.items c.look_at.new.uses.items
    (uses_of c.args.derivation.now) c.references.result (let some = c.steps-test.true in omega arith)
    c.references.ensures c.look_at.ensures c.steps.invariant
