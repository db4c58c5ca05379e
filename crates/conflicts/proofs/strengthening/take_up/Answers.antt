use Rattle.std.proofs.Common.{List, sym, subst}
use Rattle.incompatibilities.specs.Stores.{EntryView, entries_view}
use Rattle.propagation.specs.Promises.{IsTrail}
use Rattle.propagation.specs.Trails.{space_of, trail_view}
use Rattle.conflicts.specs.Resolving.{HasRoom, IsGained}
use Rattle.conflicts.proofs.strengthening.take_up.Goals as goal

pub note_place-requires-clause-lies : goal.note_place-requires-clause-lies
note_place-requires-clause-lies g c =
    let trail = c.stand_in_for.ensures.trail in
    let unit = c.in_ok-unit in
    (space_of (trail_view g.S.States.tests c.args.trail.now), trail.lies, trail.lies unit.unit unit.ensures.within)

pub returns-clause-gained : goal.returns-clause-gained
returns-clause-gained g c =
    let tests = g.S.States.tests in
    subst (λ (xs : List EntryView). (gained : List EntryView)
    × IsGained (entries_view tests c.args.store.now) (trail_view tests c.args.trail.now) xs gained)
    (sym c.note_place.ensures) c.stand_in_for.ensures.gained

pub returns-clause-trail : goal.returns-clause-trail
returns-clause-trail g c =
    subst (λ (xs : List EntryView). IsTrail xs (trail_view g.S.States.tests c.args.trail.now))
    (sym c.note_place.ensures) c.stand_in_for.ensures.trail

pub returns-clause-room : goal.returns-clause-room
returns-clause-room g c =
    subst (λ (xs : List EntryView). HasRoom c.args.first (trail_view g.S.States.tests c.args.trail.now) xs)
    (sym c.note_place.ensures) c.stand_in_for.ensures.room
