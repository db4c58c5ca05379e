use Rattle.std.proofs.Common.{◌∙◌}
use Rattle.terms.specs.Terms.{terms_view}
use Rattle.incompatibilities.specs.Stores.{entries_view}
use Rattle.propagation.specs.Trails.{trail_view}
use Rattle.conflicts.proofs.Steps.{held_alone}
use Rattle.conflicts.proofs.strengthening.with_units.Goals as goal

pub links-init : goal.links-init
links-init g c =
    let tests = g.S.States.tests in
    held_alone (entries_view tests c.args.store.now) (trail_view tests c.args.trail.now) c.args.id
    (terms_view tests c.in_ok-incompatibility.incompatibility) c.new.result c.requires.trail c.requires.within
    (c.in_ok-incompatibility.ensures ∙ c.get.ensures.value) c.new.ensures.first c.new.ensures.links
