use Rattle.std.proofs.Common.{ℕ, List, [], length, sym, ap, subst, arith}
use Rattle.propagation.specs.Promises.{IsNew}
use Rattle.propagation.specs.Trails.{trail_view}
use Rattle.search_tests.specs.inner.Meeting.{IsMeeting}
use Rattle.search_tests.proofs.Fitting.{meets_at_first}
use Rattle.search_tests.proofs.trial.Trial.new.Goals as goal

pub invariant_of-result : goal.invariant_of-result
invariant_of-result g c =
    let tests = g.S.States.tests in
    let spaces = c.new-spaces.result.items in
    let t = trail_view tests c.in_ok-new.field-0 in
    let new : IsNew spaces t = subst (λ (xs : List ℕ). IsNew xs t) c.deref.ensures.value c.in_ok-new.ensures.new in
    subst (λ es. IsMeeting spaces es t) (sym c.new.ensures)
    (meets_at_first spaces t (λ i lt. absurd (omega (arith, lt, ap length c.new-spaces.ensures.items))) new
    (c.in_ok-new.ensures.trail [] (λ id lt. absurd (omega (arith, lt)))))
