use Rattle.std.proofs.Common.{◌<◌, ◌≤◌, ℕ}
use Rattle.version_sets.specs.Sets.{size}
use Rattle.propagation.specs.Trails.{set_of, trail_view}
use Rattle.search_tests.proofs.preferring.first_open.Given as goal

abbrev pub invariant-vertices : goal.invariant-vertices
invariant-vertices g l = (v : ℕ) → v < l.vertex → size (set_of (trail_view g.S.States.tests l.trail).sets v) ≤ 1
