use Rattle.std.proofs.Common.{◌≡◌, ◌++◌, map, drop}
use Rattle.semver.specs.Identifiers.{parts_of}
use Rattle.features.specs.Views.{requirement_view}
use Rattle.lookups.specs.inner.Matching.{is_left}
use Rattle.lookups.specs.inner.Ranges.{versions_with}
use Rattle.vertices.specs.inner.RefViews.{state_ref_views}
use Rattle.axioms.proofs.instances.unmatched.push_left.Given as goal

-- those taken so far, with those among the versions that are left, are those of all
abbrev pub invariant-versions : goal.invariant-versions
invariant-versions l = state_ref_views l.states.items
    ++ versions_with (is_left (requirement_view l.requirement)) (map parts_of (drop l.version-index l.versions))
    ≡ state_ref_views l.fn.states.items
    ++ versions_with (is_left (requirement_view l.requirement)) (map parts_of l.versions)
