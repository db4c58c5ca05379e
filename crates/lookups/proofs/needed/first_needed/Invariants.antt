use Rattle.std.proofs.Common.{◌≡◌, drop}
use Rattle.features.specs.Views.{dependency_views}
use Rattle.lookups.specs.inner.Needs.{is_needed_unmatched, place_from}
use Rattle.lookups.specs.inner.Views.{problem_view}
use Rattle.vertices.specs.inner.RefViews.{owner_ref_view}
use Rattle.lookups.proofs.needed.first_needed.Given as goal

-- the first among the dependencies that are left is the first of all
abbrev pub invariant-dependencies : goal.invariant-dependencies
invariant-dependencies l = place_from (is_needed_unmatched (problem_view l.problem) (owner_ref_view l.owner)) l.number
    (dependency_views (drop l.number l.dependencies))
    ≡ place_from (is_needed_unmatched (problem_view l.problem) (owner_ref_view l.owner)) 0
    (dependency_views l.dependencies)
