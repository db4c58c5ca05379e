use Rattle.std.proofs.Common.{◌∙◌, sym, refl, true≢false, arith}
use Rattle.selection.proofs.Leading.{met_all, not_met}
use Rattle.selection.proofs.enabled.are_met.Goals as goal

pub returns-then-lacks_target : goal.returns-then-lacks_target
returns-then-lacks_target c = (
  λ e. absurd (true≢false (sym e)),
  λ h.
      absurd (not_met c.args.enabled.now c.args.targets.now _ (sym c.lacks_target.ensures ∙ c.if-lacks_target.true) h),
)

pub returns : goal.returns
returns c = (
  λ e. met_all c.args.enabled.now c.args.targets.now
      (λ i lt. c.numbers.invariant i (omega (arith, lt, c.numbers-test.false))),
  λ h. refl,
)
