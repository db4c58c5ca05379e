use Rattle.std.proofs.Common.{refl}
use Rattle.incompatibilities.specs.Stores.{entries_view}
use Rattle.propagation.specs.Trails.{trail_view}
use Rattle.conflicts.proofs.Gained.{gained_again, gained_none}
use Rattle.conflicts.proofs.strengthening.take_all_up.Goals as goal

pub returns-in_err-take_up-clause-gained : goal.returns-in_err-take_up-clause-gained
returns-in_err-take_up-clause-gained g c =
    let tests = g.S.States.tests in
    gained_again (entries_view tests c.args.store.now) (entries_view tests c.places.store)
    (entries_view tests c.take_up.new.store) (trail_view tests c.args.trail.now) c.places.invariant.gained
    c.take_up.ensures.gained

pub places-preserved : goal.places-preserved
places-preserved g c =
    let tests = g.S.States.tests in
    record {
      gained = gained_again (entries_view tests c.args.store.now) (entries_view tests c.places.store)
          (entries_view tests c.take_up.new.store) (trail_view tests c.args.trail.now) c.places.invariant.gained
          c.take_up.ensures.gained;
      trail = c.take_up.ensures.trail;
      room = c.take_up.ensures.room;
    }

pub places-init : goal.places-init
places-init g c =
    let tests = g.S.States.tests in
    record {
      gained = gained_none (entries_view tests c.args.store.now) (trail_view tests c.args.trail.now)
          (entries_view tests c.args.store.now) refl;
      trail = c.requires.trail;
      room = c.requires.room;
    }
