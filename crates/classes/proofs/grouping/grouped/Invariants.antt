use Rattle.std.proofs.Common.{◌≡◌, [], drop, map}
use Rattle.features.specs.Views.{requirement_view}
use Rattle.semver.specs.Identifiers.{parts_of}
use Rattle.classes.specs.Groups.{group_views, with_versions}
use Rattle.classes.proofs.grouping.grouped.Given as goal

-- the groups so far, with the versions that are left, are the groups with all of them
abbrev pub invariant-versions : goal.invariant-versions
invariant-versions l = with_versions (requirement_view l.requirement) l.position
    (map parts_of (drop l.position l.versions)) (group_views l.groups.items)
    ≡ with_versions (requirement_view l.requirement) 0 (map parts_of l.versions) []
