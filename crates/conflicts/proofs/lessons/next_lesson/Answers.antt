use Rattle.std.specs.Prelude.{IfOk}
use Rattle.std.proofs.Common.{◌<◌, Some, sym, subst}
use Rattle.terms.specs.Terms.{terms_view}
use Rattle.incompatibilities.specs.Stores.{entries_view}
use Rattle.propagation.specs.Trails.{trail_view}
use Rattle.conflicts.specs.Resolving.{IsNext, places_left}
use Rattle.conflicts.proofs.Steps.{cause_within}
use Rattle.conflicts.proofs.Gained.{gained_again, lesson_grown}
use Rattle.conflicts.proofs.lessons.next_lesson.Goals as goal

pub stand_in_for-requires-clause-within : goal.stand_in_for-requires-clause-within
stand_in_for-requires-clause-within g c =
    let tests = g.S.States.tests in
    let here = c.in_ok-here.here in
    cause_within (entries_view tests c.kept_if_short.new.store) (trail_view tests c.args.trail.now)
    (terms_view tests here.incompatibility) here.chain here.found c.args.link c.kept_if_short.ensures.trail
    c.in_ok-here.ensures.lesson
    (subst (λ f. IsNext f (Some c.args.link)) (sym c.in_ok-here.ensures.same) c.requires.next)

pub with_stand_in-requires-clause-lesson : goal.with_stand_in-requires-clause-lesson
with_stand_in-requires-clause-lesson g c =
    let tests = g.S.States.tests in
    let here = c.in_ok-here.here in
    let gained = c.stand_in_for.ensures.gained in
    lesson_grown (entries_view tests c.kept_if_short.new.store) (trail_view tests c.args.trail.now)
    (entries_view tests c.stand_in_for.new.store) gained.0 (terms_view tests here.incompatibility) here.chain here.found
    gained.1.grown c.in_ok-here.ensures.lesson

pub with_stand_in-requires-clause-next : goal.with_stand_in-requires-clause-next
with_stand_in-requires-clause-next g c =
    subst (λ f. IsNext f (Some c.args.link)) (sym c.in_ok-here.ensures.same) c.requires.next

pub returns-in_err-stand_in-clause-gained : goal.returns-in_err-stand_in-clause-gained
returns-in_err-stand_in-clause-gained g c =
    let tests = g.S.States.tests in
    gained_again (entries_view tests c.args.store.now) (entries_view tests c.kept_if_short.new.store)
    (entries_view tests c.stand_in_for.new.store) (trail_view tests c.args.trail.now) c.kept_if_short.ensures.gained
    c.stand_in_for.ensures.gained

pub returns-clause-nearer : goal.returns-clause-nearer
returns-clause-nearer g c =
    subst (λ f. IfOk c.with_stand_in.result (λ l. places_left l.found < places_left f)) c.in_ok-here.ensures.same
    c.with_stand_in.ensures.nearer

pub returns-clause-gained : goal.returns-clause-gained
returns-clause-gained g c =
    let tests = g.S.States.tests in
    gained_again (entries_view tests c.args.store.now) (entries_view tests c.kept_if_short.new.store)
    (entries_view tests c.stand_in_for.new.store) (trail_view tests c.args.trail.now) c.kept_if_short.ensures.gained
    c.stand_in_for.ensures.gained
