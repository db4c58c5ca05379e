use Rattle.terms.specs.Terms.{terms_view}
use Rattle.incompatibilities.specs.Stores.{entries_view}
use Rattle.propagation.specs.Trails.{trail_view}
use Rattle.conflicts.proofs.Steps.{held_with}
use Rattle.conflicts.proofs.Strengthened.{held_fits, held_somewhere}
use Rattle.conflicts.proofs.strengthening.with_unit.Goals as goal

pub is_unit_for-says_more-requires : goal.is_unit_for-says_more-requires
is_unit_for-says_more-requires g c =
    let tests = g.S.States.tests in
    held_somewhere (entries_view tests c.args.store.now) (trail_view tests c.args.trail.now)
    (terms_view tests c.args.held.incompatibility) c.args.held.chain c.requires.trail c.requires.held

pub combine-requires : goal.combine-requires
combine-requires g c =
    let tests = g.S.States.tests in
    held_fits (entries_view tests c.args.store.now) (trail_view tests c.args.trail.now)
    (terms_view tests c.args.held.incompatibility) (terms_view tests c.get.result.now) c.args.held.chain
    c.args.link.with c.requires.trail c.requires.held c.if-not-says_more.ensures.0 c.get.ensures.value

pub returns : goal.returns
returns g c =
    let tests = g.S.States.tests in
    held_with (entries_view tests c.args.store.now) (trail_view tests c.args.trail.now)
    (terms_view tests c.args.held.incompatibility) (terms_view tests c.get.result.now) c.args.held.chain
    c.args.link (terms_view tests c.in_ok-made.made) c.requires.trail
    c.requires.held c.if-not-says_more.ensures.0 c.get.ensures.value c.in_ok-made.ensures.combination c.push.new.self
    c.if-not-says_more.ensures.1 c.push.ensures.first c.in_ok-push.ensures.ok
