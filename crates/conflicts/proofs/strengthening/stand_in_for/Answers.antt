use Rattle.std.proofs.Common.{List, sym, subst}
use Rattle.terms.specs.Terms.{terms_view}
use Rattle.incompatibilities.specs.Stores.{EntryView, entries_view}
use Rattle.propagation.specs.Promises.{IsTrail}
use Rattle.propagation.specs.Trails.{space_of, trail_view}
use Rattle.conflicts.specs.Resolving.{IsGained}
use Rattle.conflicts.proofs.Steps.{start_lies}
use Rattle.conflicts.proofs.Gained.{gained_is, gained_none, trail_new}
use Rattle.conflicts.proofs.strengthening.stand_in_for.Goals as goal

pub links_of-requires : goal.links_of-requires
links_of-requires g c =
    let tests = g.S.States.tests in
    let es = entries_view tests c.args.store.now in
    let t = trail_view tests c.args.trail.now in (
      space_of t,
      c.requires.trail.lies,
      start_lies es t c.stand_in_of-current.result (terms_view tests c.get.result.now)
          c.requires.trail c.stand_in_of-current.ensures c.get.ensures.value,
    )

pub returns-in_err-made-clause-gained : goal.returns-in_err-made-clause-gained
returns-in_err-made-clause-gained g c =
    let tests = g.S.States.tests in
    gained_none (entries_view tests c.args.store.now) (trail_view tests c.args.trail.now)
    (entries_view tests c.keep.new.store) c.in_err-made.ensures.err

pub returns-clause-gained : goal.returns-clause-gained
returns-clause-gained g c =
    let tests = g.S.States.tests in
    let es = entries_view tests c.args.store.now in
    let t = trail_view tests c.args.trail.now in
    let new = entries_view tests c.keep.new.store in
    let held = c.in_ok-held.held in
    subst (λ (xs : List EntryView). (gained : List EntryView) × IsGained es t xs gained)
    (sym c.note_stand_ins.ensures.same)
    (gained_is es t (terms_view tests held.incompatibility) held.chain new c.in_ok-made.made c.requires.trail
    c.in_ok-held.ensures (λ quiet. c.if-not-is_lone.ensures) c.in_ok-made.ensures.kept)

pub returns-clause-trail : goal.returns-clause-trail
returns-clause-trail g c =
    let tests = g.S.States.tests in
    let es = entries_view tests c.args.store.now in
    let t = trail_view tests c.args.trail.now in
    let new = entries_view tests c.keep.new.store in
    let held = c.in_ok-held.held in
    subst (λ (xs : List EntryView). IsTrail xs t) (sym c.note_stand_ins.ensures.same)
    (trail_new es t (terms_view tests held.incompatibility) held.chain new c.in_ok-made.made c.requires.trail
    c.in_ok-held.ensures (λ quiet. c.if-not-is_lone.ensures) c.in_ok-made.ensures.kept)
