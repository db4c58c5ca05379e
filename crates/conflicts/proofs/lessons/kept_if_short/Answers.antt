use Rattle.std.proofs.Common.{sym, subst}
use Rattle.terms.specs.Terms.{terms_view}
use Rattle.incompatibilities.specs.Stores.{entries_view}
use Rattle.propagation.specs.Trails.{trail_view}
use Rattle.conflicts.specs.Resolving.{IsFound, IsLone}
use Rattle.conflicts.proofs.Gained.{gained_is, gained_none, quiet_less, trail_new}
use Rattle.conflicts.proofs.lessons.kept_if_short.Goals as goal

pub returns-in_err-id-clause-gained : goal.returns-in_err-id-clause-gained
returns-in_err-id-clause-gained g c =
    let tests = g.S.States.tests in
    gained_none (entries_view tests c.args.store.now) (trail_view tests c.args.trail.now)
    (entries_view tests c.keep.new.store) c.in_err-id.ensures.err

pub lesson_from-requires-clause-trail : goal.lesson_from-requires-clause-trail
lesson_from-requires-clause-trail g c =
    let tests = g.S.States.tests in
    let told = c.requires.lesson in
    trail_new (entries_view tests c.args.store.now) (trail_view tests c.args.trail.now)
    (terms_view tests c.args.lesson.incompatibility) c.args.lesson.chain (entries_view tests c.keep.new.store)
    c.in_ok-id.id c.requires.trail told.held told.lone c.in_ok-id.ensures.kept

pub lesson_from-requires-clause-lone : goal.lesson_from-requires-clause-lone
lesson_from-requires-clause-lone g c quiet =
    let tests = g.S.States.tests in
    let es = entries_view tests c.args.store.now in
    let t = trail_view tests c.args.trail.now in
    let kept = c.in_ok-id.ensures.kept in
    subst (IsLone t) (sym kept.terms) (c.requires.lesson.lone
    (quiet_less es t (entries_view tests c.keep.new.store) kept.gained kept.grown quiet))

pub lesson_from-requires-clause-here : goal.lesson_from-requires-clause-here
lesson_from-requires-clause-here g c xs trail =
    let t = trail_view g.S.States.tests c.args.trail.now in
    subst (λ us. IsFound xs t us c.args.lesson.found) (sym c.in_ok-id.ensures.kept.terms)
    (c.requires.lesson.here xs trail)

pub returns-clause-gained : goal.returns-clause-gained
returns-clause-gained g c =
    let tests = g.S.States.tests in
    let told = c.requires.lesson in
    gained_is (entries_view tests c.args.store.now) (trail_view tests c.args.trail.now)
    (terms_view tests c.args.lesson.incompatibility) c.args.lesson.chain (entries_view tests c.keep.new.store)
    c.in_ok-id.id c.requires.trail told.held told.lone c.in_ok-id.ensures.kept

pub returns-clause-trail : goal.returns-clause-trail
returns-clause-trail g c =
    let tests = g.S.States.tests in
    let told = c.requires.lesson in
    trail_new (entries_view tests c.args.store.now) (trail_view tests c.args.trail.now)
    (terms_view tests c.args.lesson.incompatibility) c.args.lesson.chain (entries_view tests c.keep.new.store)
    c.in_ok-id.id c.requires.trail told.held told.lone c.in_ok-id.ensures.kept
