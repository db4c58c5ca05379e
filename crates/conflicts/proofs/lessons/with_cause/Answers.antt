use Rattle.std.proofs.Common.{inr}
use Rattle.terms.specs.Terms.{terms_view}
use Rattle.incompatibilities.specs.Stores.{entries_view}
use Rattle.propagation.specs.Trails.{trail_view}
use Rattle.conflicts.proofs.Steps.{cause_within, combined_is, goes_on, held_with, lies_with}
use Rattle.conflicts.proofs.Strengthened.{held_fits}
use Rattle.conflicts.proofs.lessons.with_cause.Goals as goal

pub combine-requires : goal.combine-requires
combine-requires g c =
    let tests = g.S.States.tests in
    let es = entries_view tests c.args.store.now in
    let t = trail_view tests c.args.trail.now in
    let ts = terms_view tests c.args.lesson.incompatibility in
    let us = terms_view tests c.get.result.now in
    let chain = c.args.lesson.chain in
    let found = c.args.lesson.found in
    let l = c.args.link in
    let within = cause_within es t ts chain found l c.requires.trail c.requires.lesson c.requires.next in
    held_fits es t ts us chain l.with c.requires.trail c.requires.lesson.held within c.get.ensures.value

pub satisfier_of-found-requires-clause-lies : goal.satisfier_of-found-requires-clause-lies
satisfier_of-found-requires-clause-lies g c =
    let tests = g.S.States.tests in
    let es = entries_view tests c.args.store.now in
    let t = trail_view tests c.args.trail.now in
    let ts = terms_view tests c.args.lesson.incompatibility in
    let us = terms_view tests c.get.result.now in
    let chain = c.args.lesson.chain in
    let found = c.args.lesson.found in
    let l = c.args.link in
    let within = cause_within es t ts chain found l c.requires.trail c.requires.lesson c.requires.next in
    lies_with es t ts us chain l (terms_view tests c.in_ok-made.made) c.requires.trail c.requires.lesson.held within
    c.get.ensures.value c.in_ok-made.ensures.combination

pub satisfier_of-found-requires-clause-satisfied : goal.satisfier_of-found-requires-clause-satisfied
satisfier_of-found-requires-clause-satisfied g c =
    let tests = g.S.States.tests in
    let es = entries_view tests c.args.store.now in
    let t = trail_view tests c.args.trail.now in
    let ts = terms_view tests c.args.lesson.incompatibility in
    let us = terms_view tests c.get.result.now in
    let chain = c.args.lesson.chain in
    let found = c.args.lesson.found in
    let l = c.args.link in
    (combined_is es t ts us chain found l (terms_view tests c.in_ok-made.made) c.requires.trail c.requires.lesson
    c.requires.next c.get.ensures.value c.in_ok-made.ensures.combination).sat

pub returns-clause-lesson : goal.returns-clause-lesson
returns-clause-lesson g c =
    let tests = g.S.States.tests in
    let es = entries_view tests c.args.store.now in
    let t = trail_view tests c.args.trail.now in
    let ts = terms_view tests c.args.lesson.incompatibility in
    let us = terms_view tests c.get.result.now in
    let chain = c.args.lesson.chain in
    let found = c.args.lesson.found in
    let l = c.args.link in
    let within = cause_within es t ts chain found l c.requires.trail c.requires.lesson c.requires.next in
    let made = terms_view tests c.in_ok-made.made in
    let goes = goes_on es t ts chain found l c.requires.trail c.requires.lesson c.requires.next in
    let combined = combined_is es t ts us chain found l made c.requires.trail c.requires.lesson
    c.requires.next c.get.ensures.value c.in_ok-made.ensures.combination in
    record {
      held = held_with es t ts us chain l made c.requires.trail c.requires.lesson.held within c.get.ensures.value
          c.in_ok-made.ensures.combination c.push.new.self goes.0 c.push.ensures.first c.in_ok-push.ensures.ok;
      some = inr goes.1;
      lone = combined.still;
      here = c.satisfier_of-found.ensures;
    }

pub returns-clause-nearer : goal.returns-clause-nearer
returns-clause-nearer g c =
    let tests = g.S.States.tests in
    let es = entries_view tests c.args.store.now in
    let t = trail_view tests c.args.trail.now in
    let ts = terms_view tests c.args.lesson.incompatibility in
    let us = terms_view tests c.get.result.now in
    let chain = c.args.lesson.chain in
    let found = c.args.lesson.found in
    let l = c.args.link in
    (combined_is es t ts us chain found l (terms_view tests c.in_ok-made.made) c.requires.trail c.requires.lesson
    c.requires.next c.get.ensures.value c.in_ok-made.ensures.combination).near es c.satisfier_of-found.result
    (c.satisfier_of-found.ensures es c.requires.trail)
