use Rattle.std.proofs.Common.{◌≡◌, drop, map, slice_get}
use Rattle.std.specs.List.{concat, find}
use Rattle.semver.specs.Identifiers.{parts_of}
use Rattle.features.specs.Views.{requirement_view}
use Rattle.selection.specs.inner.Met.{is_matched, run_views}
use Rattle.selection.proofs.picking.first_of_runs.Given as goal

-- the first among the runs that are left is the first of all
abbrev pub invariant-runs : goal.invariant-runs
invariant-runs l = find (λ n. is_matched (requirement_view l.requirement) (slice_get (map parts_of l.versions) n))
    (concat (run_views (drop l.run-index l.runs)))
    ≡ find (λ n. is_matched (requirement_view l.requirement) (slice_get (map parts_of l.versions) n))
    (concat (run_views l.runs))
