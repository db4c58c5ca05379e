use Rattle.std.proofs.Common.{subst, refl}
use Rattle.incompatibilities.specs.Stores.{entries_view}
use Rattle.propagation.specs.Trails.{trail_view}
use Rattle.conflicts.specs.Resolving.{IsFound, IsLone}
use Rattle.conflicts.proofs.Steps.{quiet_lone}
use Rattle.conflicts.proofs.lessons.start_of.Goals as goal

pub lesson_from-requires-clause-lone : goal.lesson_from-requires-clause-lone
lesson_from-requires-clause-lone g c quiet =
    subst (IsLone (trail_view g.S.States.tests c.args.trail.now)) c.get.ensures.value c.in-Yes.ensures.0

pub lesson_from-requires-clause-here : goal.lesson_from-requires-clause-here
lesson_from-requires-clause-here g c xs trail =
    subst (λ us. IsFound xs (trail_view g.S.States.tests c.args.trail.now) us c.in-Yes.found)
    c.get.ensures.value (c.in-Yes.ensures.1 xs trail)

pub lesson_from-requires-in-No-clause-lone : goal.lesson_from-requires-in-No-clause-lone
lesson_from-requires-in-No-clause-lone g c = quiet_lone (entries_view g.S.States.tests c.args.store.now)
    (trail_view g.S.States.tests c.args.trail.now) c.args.id _ c.requires.within refl

pub lesson_from-requires-in-No-clause-here : goal.lesson_from-requires-in-No-clause-here
lesson_from-requires-in-No-clause-here g c xs trail =
    subst (λ us. IsFound xs (trail_view g.S.States.tests c.args.trail.now) us c.satisfier_of-found.result)
    c.get-in-No.ensures.value (c.satisfier_of-found.ensures xs trail)
