use Rattle.std.proofs.Common.{inr}
use Rattle.terms.specs.Terms.{terms_view}
use Rattle.incompatibilities.specs.Stores.{entries_view}
use Rattle.propagation.specs.Trails.{trail_view}
use Rattle.conflicts.proofs.Steps.{goes_on, held_with, lies_with}
use Rattle.conflicts.proofs.Strengthened.{held_fits}
use Rattle.incompatibilities.specs.declared.chain.Link.{Link}
use Rattle.conflicts.proofs.lessons.with_stand_in.Goals as goal

pub combine-requires : goal.combine-requires
combine-requires g c =
    let tests = g.S.States.tests in
    let es = entries_view tests c.args.store.now in
    let t = trail_view tests c.args.trail.now in
    let ts = terms_view tests c.args.lesson.incompatibility in
    let us = terms_view tests c.get.result.now in
    let chain = c.args.lesson.chain in
    held_fits es t ts us chain c.args.stand_in c.requires.trail c.requires.lesson.held c.requires.stand_in
    c.get.ensures.value

pub back_of-requires-clause-lies : goal.back_of-requires-clause-lies
back_of-requires-clause-lies g c =
    let tests = g.S.States.tests in
    let es = entries_view tests c.args.store.now in
    let t = trail_view tests c.args.trail.now in
    let ts = terms_view tests c.args.lesson.incompatibility in
    let us = terms_view tests c.get.result.now in
    let chain = c.args.lesson.chain in
    let l : Link = record { with = c.args.stand_in; vertex = c.args.link.vertex } in
    lies_with es t ts us chain l (terms_view tests c.in_ok-made.made) c.requires.trail c.requires.lesson.held
    c.requires.stand_in c.get.ensures.value c.in_ok-made.ensures.combination

pub returns-in_ok-push-in-Yes-clause-lesson : goal.returns-in_ok-push-in-Yes-clause-lesson
returns-in_ok-push-in-Yes-clause-lesson g c =
    let tests = g.S.States.tests in
    let es = entries_view tests c.args.store.now in
    let t = trail_view tests c.args.trail.now in
    let ts = terms_view tests c.args.lesson.incompatibility in
    let us = terms_view tests c.get.result.now in
    let chain = c.args.lesson.chain in
    let found = c.args.lesson.found in
    let l : Link = record { with = c.args.stand_in; vertex = c.args.link.vertex } in
    let made = terms_view tests c.in_ok-made.made in
    let goes = goes_on es t ts chain found c.args.link c.requires.trail c.requires.lesson c.requires.next in
    record {
      held = held_with es t ts us chain l made c.requires.trail c.requires.lesson.held c.requires.stand_in
          c.get.ensures.value c.in_ok-made.ensures.combination c.push.new.self goes.0 c.push.ensures.first
          c.in_ok-push-in-Yes.ensures.ok;
      some = inr goes.1;
      lone = λ quiet. c.in-Yes.ensures.0;
      here = c.in-Yes.ensures.1;
    }
