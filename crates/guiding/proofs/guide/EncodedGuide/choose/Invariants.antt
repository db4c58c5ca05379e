use Rattle.std.proofs.Common.{◌≡◌, ◌<◌, ◌≤◌, ℕ, false}
use Rattle.version_sets.specs.Sets.{has, size}
use Rattle.propagation.specs.Trails.{set_of, trail_view}
use Rattle.guiding.proofs.guide.EncodedGuide.choose.Given as goal

abbrev pub invariant-vertices : goal.invariant-vertices
invariant-vertices g l = let sets = (trail_view g.S.States.tests l.trail).sets in (v : ℕ) → v < l.vertex
    → has (set_of sets v) 0 ≡ false → size (set_of sets v) ≤ 1
