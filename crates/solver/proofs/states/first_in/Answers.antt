use Rattle.std.proofs.Common.{◌∙◌, sym, arith}
use Rattle.solver.proofs.Ends.{first_at, first_none}
use Rattle.solver.proofs.states.first_in.Goals as goal

pub returns-then-member : goal.returns-then-member
returns-then-member g c = sym (first_at (g.S.States.tests c.args.set.now) c.numbers.number
    (sym c.member.ensures ∙ c.if-member.true) c.numbers.invariant)

pub returns : goal.returns
returns g c =
    let s = g.S.States.tests c.args.set.now in
    c.universe.ensures.universe ∙ sym (first_none s (λ i lt.
    c.numbers.invariant i (omega (arith, lt, c.universe-number-end.ensures.universe, c.numbers-test.false))))
