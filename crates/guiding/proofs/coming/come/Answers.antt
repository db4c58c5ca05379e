use Rattle.std.proofs.Common.{map}
use Rattle.propagation.specs.Trails.{trail_view}
use Rattle.guiding.proofs.Arrivals.{come_again}
use Rattle.guiding.proofs.coming.come.Goals as goal

pub vertices-preserved : goal.vertices-preserved
vertices-preserved g c =
    let tests = g.S.States.tests in
    record {
      encoding = c.come_next.ensures.encoding;
      came = come_again (map tests c.args.asked.now.items) (map tests c.vertices.asked.items)
          (map tests c.come_next.new.asked.items) (trail_view tests c.args.trail.now)
          (trail_view tests c.vertices.trail)
          (trail_view tests c.come_next.new.trail) c.vertices.invariant.came c.in_ok-come_next.ensures.came;
      trail = c.come_next.ensures.trail;
    }
