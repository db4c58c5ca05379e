use Rattle.std.proofs.Common.{rules, map, not, slice_get}
use Rattle.std.proofs.lemmas.List.Sorted.{IsPartitionPoint-from_clause}
use Rattle.semver.specs.Identifiers.{parts_of}
use Rattle.features.specs.Views.{requirement_view}
use Rattle.selection.specs.inner.Met.{is_too_old}
use Rattle.selection.proofs.RunSearch.{old_parted}
use Rattle.selection.proofs.picking.new_enough.Goals as goal

pub returns-clause-place : goal.returns-clause-place
returns-clause-place c =
    let cs = requirement_view c.args.requirement.now in
    IsPartitionPoint-from_clause (λ n. not (is_too_old cs (slice_get (map parts_of c.args.versions.now) n)))
    c.args.run.now _ c.partition_point.ensures.partitioned
    (old_parted cs c.args.versions.now c.requires.rising c.args.run.now c.requires.falling)
    (λ a r g called. search rules)
