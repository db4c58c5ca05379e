use Rattle.std.proofs.Common.{subst}
use Rattle.terms.specs.Terms.{terms_view}
use Rattle.incompatibilities.specs.Stores.{entries_view}
use Rattle.propagation.specs.Trails.{trail_view}
use Rattle.conflicts.specs.Resolving.{IsNext}
use Rattle.conflicts.proofs.Steps.{placed}
use Rattle.conflicts.proofs.Gained.{gained_again, sat_grown}
use Rattle.conflicts.proofs.lessons.lesson_of.Goals as goal

pub start_of-requires-clause-within : goal.start_of-requires-clause-within
start_of-requires-clause-within g c =
    let tests = g.S.States.tests in
    let gained = c.stand_in_for.ensures.gained in
    (sat_grown (entries_view tests c.args.store.now) (trail_view tests c.args.trail.now)
    (entries_view tests c.stand_in_for.new.store) gained.0 c.args.id gained.1.grown c.requires.within
    c.requires.satisfied).0

pub start_of-requires-clause-satisfied : goal.start_of-requires-clause-satisfied
start_of-requires-clause-satisfied g c =
    let tests = g.S.States.tests in
    let gained = c.stand_in_for.ensures.gained in
    (sat_grown (entries_view tests c.args.store.now) (trail_view tests c.args.trail.now)
    (entries_view tests c.stand_in_for.new.store) gained.0 c.args.id gained.1.grown c.requires.within
    c.requires.satisfied).1

pub next_link-requires : goal.next_link-requires
next_link-requires g c =
    let tests = g.S.States.tests in
    let es = entries_view tests c.steps.store in
    let i = c.steps.invariant in
    placed es (trail_view tests c.args.trail.now) (terms_view tests c.steps.lesson.incompatibility)
    c.steps.lesson.found (i.lesson.here es i.trail)

pub returns-in_err-next-clause-gained : goal.returns-in_err-next-clause-gained
returns-in_err-next-clause-gained g c =
    let tests = g.S.States.tests in
    gained_again (entries_view tests c.args.store.now) (entries_view tests c.steps.store)
    (entries_view tests c.next_lesson.new.store) (trail_view tests c.args.trail.now) c.steps.invariant.gained
    c.next_lesson.ensures.gained

pub steps-preserved : goal.steps-preserved
steps-preserved g c =
    let tests = g.S.States.tests in
    record {
      lesson = c.in_ok-next.ensures.lesson;
      gained = gained_again (entries_view tests c.args.store.now) (entries_view tests c.steps.store)
          (entries_view tests c.next_lesson.new.store) (trail_view tests c.args.trail.now) c.steps.invariant.gained
          c.next_lesson.ensures.gained;
      trail = c.next_lesson.ensures.trail;
      room = c.next_lesson.ensures.room;
    }

pub returns-clause-ends : goal.returns-clause-ends
returns-clause-ends g c = subst (IsNext c.steps.lesson.found) c.in_default.is c.next_link.ensures
