use Rattle.std.proofs.Common.{◌≡◌, ◌++◌, ◌∷◌, map, drop}
use Rattle.semver.specs.Identifiers.{parts_of}
use Rattle.model.specs.Vertices.{absent}
use Rattle.lookups.specs.inner.Matching.{is_lacking}
use Rattle.lookups.specs.inner.Ranges.{versions_with}
use Rattle.vertices.specs.inner.RefViews.{state_ref_views}
use Rattle.lookups.specs.inner.Views.{problem_view}
use Rattle.axioms.proofs.instances.lacking.lacking_states.Given as goal

-- those taken so far, with those among the versions that are left, are those of all
abbrev pub invariant-versions : goal.invariant-versions
invariant-versions l =
    state_ref_views l.states.items ++ versions_with (is_lacking (problem_view l.problem) l.name l.feature)
    (map parts_of (drop l.version-index l.versions))
    ≡ absent ∷ versions_with (is_lacking (problem_view l.problem) l.name l.feature) (map parts_of l.versions)
