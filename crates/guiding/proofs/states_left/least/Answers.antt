use Rattle.std.proofs.Common.{arith}
use Rattle.guiding.proofs.Guides.{none_size}
use Rattle.guiding.proofs.states_left.least.Goals as goal

pub returns : goal.returns
returns g c =
    let s = g.S.States.tests c.args.set.now in
    let some = c.requires in
    let none = none_size s (λ i lt.
    c.numbers.invariant i (omega (arith, lt, c.universe-number-end.ensures.universe, c.numbers-test.false))) in
    absurd (omega (arith, some, none))
