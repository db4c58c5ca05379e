use Rattle.std.proofs.Common.{◌≡◌, map, replicate}
use Rattle.propagation.specs.Trails.{front_view, none_seen}
use Rattle.propagation.proofs.trail.unseen.Given as goal

abbrev pub invariant-vertices : goal.invariant-vertices
invariant-vertices l = map front_view l.fronts.items ≡ replicate l._vertex none_seen
