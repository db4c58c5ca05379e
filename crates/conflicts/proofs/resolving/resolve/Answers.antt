use Rattle.std.proofs.Common.{List, sym, subst, arith}
use Rattle.terms.specs.Terms.{terms_view}
use Rattle.incompatibilities.specs.Stores.{EntryView, entries_view}
use Rattle.propagation.specs.Trails.{trail_view}
use Rattle.conflicts.specs.Resolving.{IsGained, Teaches}
use Rattle.conflicts.proofs.Gained.{few_is, gained_again, gained_is, sat_grown, teaches_is, trail_new}
use Rattle.conflicts.proofs.resolving.resolve.Goals as goal

pub returns-clause-teaches : goal.returns-clause-teaches
returns-clause-teaches g c =
    let tests = g.S.States.tests in
    let t = trail_view tests c.args.trail.now in
    let new = entries_view tests c.keep.new.store in
    let lesson = c.in_ok-lesson.lesson in
    subst (Teaches new t) (sym c.ended_at.ensures)
    (teaches_is (entries_view tests c.lesson_of.new.store) t (terms_view tests lesson.incompatibility)
    lesson.chain lesson.found new c.in_ok-learned.learned c.lesson_of.ensures.trail
    c.in_ok-lesson.ensures.lesson c.in_ok-lesson.ensures.ends c.in_ok-learned.ensures.kept c.follow.ensures)

pub lesson_of-requires-clause-within : goal.lesson_of-requires-clause-within
lesson_of-requires-clause-within g c =
    let tests = g.S.States.tests in
    let es = entries_view tests c.args.store.now in
    let t = trail_view tests c.args.trail.now in
    let gained = c.take_all_up.ensures.gained in
    (sat_grown es t (entries_view tests c.take_all_up.new.store) gained.0 c.args.id gained.1.grown c.requires.within
    c.requires.satisfied).0

pub lesson_of-requires-clause-satisfied : goal.lesson_of-requires-clause-satisfied
lesson_of-requires-clause-satisfied g c =
    let tests = g.S.States.tests in
    let es = entries_view tests c.args.store.now in
    let t = trail_view tests c.args.trail.now in
    let gained = c.take_all_up.ensures.gained in
    (sat_grown es t (entries_view tests c.take_all_up.new.store) gained.0 c.args.id gained.1.grown c.requires.within
    c.requires.satisfied).1

pub returns-in_err-lesson-clause-gained : goal.returns-in_err-lesson-clause-gained
returns-in_err-lesson-clause-gained g c =
    let tests = g.S.States.tests in
    let es = entries_view tests c.args.store.now in
    let t = trail_view tests c.args.trail.now in
    gained_again es (entries_view tests c.take_all_up.new.store) (entries_view tests c.lesson_of.new.store) t
    c.take_all_up.ensures.gained c.lesson_of.ensures.gained

pub returns-in_err-learned-clause-gained : goal.returns-in_err-learned-clause-gained
returns-in_err-learned-clause-gained g c =
    let tests = g.S.States.tests in
    let es = entries_view tests c.args.store.now in
    let t = trail_view tests c.args.trail.now in
    subst (λ (xs : List EntryView). (gained : List EntryView) × IsGained es t xs gained)
    (sym c.in_err-learned.ensures.err)
    (gained_again es (entries_view tests c.take_all_up.new.store) (entries_view tests c.lesson_of.new.store) t
    c.take_all_up.ensures.gained c.lesson_of.ensures.gained)

pub returns-clause-gained : goal.returns-clause-gained
returns-clause-gained g c =
    let tests = g.S.States.tests in
    let es = entries_view tests c.args.store.now in
    let t = trail_view tests c.args.trail.now in
    let mid = entries_view tests c.lesson_of.new.store in
    let new = entries_view tests c.keep.new.store in
    let lesson = c.in_ok-lesson.lesson in
    let told = c.in_ok-lesson.ensures.lesson in
    gained_again es mid new t
    (gained_again es (entries_view tests c.take_all_up.new.store) (entries_view tests c.lesson_of.new.store) t
    c.take_all_up.ensures.gained c.lesson_of.ensures.gained)
    (gained_is mid t (terms_view tests lesson.incompatibility) lesson.chain new c.in_ok-learned.learned
    c.lesson_of.ensures.trail told.held told.lone c.in_ok-learned.ensures.kept)

pub returns-clause-few : goal.returns-clause-few
returns-clause-few g c =
    let tests = g.S.States.tests in
    let lesson = c.in_ok-lesson.lesson in
    few_is (entries_view tests c.args.store.now) (entries_view tests c.lesson_of.new.store)
    (trail_view tests c.args.trail.now) (terms_view tests lesson.incompatibility) lesson.chain lesson.found
    (entries_view tests c.keep.new.store) c.in_ok-learned.learned c.in_ok-lesson.ensures.lesson
    c.in_ok-learned.ensures.kept (let room = c.lesson_of.ensures.room in omega (arith, room, c.len-first.ensures))

pub returns-clause-trail : goal.returns-clause-trail
returns-clause-trail g c =
    let tests = g.S.States.tests in
    let lesson = c.in_ok-lesson.lesson in
    let told = c.in_ok-lesson.ensures.lesson in
    trail_new (entries_view tests c.lesson_of.new.store) (trail_view tests c.args.trail.now)
    (terms_view tests lesson.incompatibility) lesson.chain (entries_view tests c.keep.new.store)
    c.in_ok-learned.learned c.lesson_of.ensures.trail told.held told.lone c.in_ok-learned.ensures.kept
