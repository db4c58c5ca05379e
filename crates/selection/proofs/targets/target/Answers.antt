use Rattle.std.proofs.Common.{rules, not, ◌<◌, length, slice_get}
use Rattle.std.specs.List.{All}
use Rattle.std.specs.Ordering.{is_lt}
use Rattle.std.proofs.lemmas.Cmp.{is_lt_index}
use Rattle.std.proofs.lemmas.List.{length-map}
use Rattle.std.proofs.lemmas.List.Sorted.{IsPartitionPoint-from_clause}
use Rattle.features.specs.Views.{dependency_view}
use Rattle.lockfile.specs.inner.Views.{package_view, package_views}
use Rattle.selection.specs.inner.Names.{is_past}
use Rattle.selection.proofs.TargetSearch.{beside, less_partitioned, lower_fails, past_fails, past_partitioned}
use Rattle.selection.proofs.targets.target.Goals as goal

pub search-requires-clause-before : goal.search-requires-clause-before
search-requires-clause-before c =
    let content = package_views c.args.content.now in
    let within : All (λ t. t < length (package_views c.args.content.now)) c.args.list.now =
    rw (length-map c.args.content.now package_view) c.requires.within in
    let d = dependency_view c.args.dependency.now in
    let found = IsPartitionPoint-from_clause
    (λ t. is_lt (beside content d t)) c.args.list.now _ c.partition_point-first.ensures.partitioned
    (less_partitioned content d c.requires.content c.args.list.now within c.requires.rising)
    (λ a r g called. search (rules, is_lt_index)) in
    λ k e l u. lower_fails content d _ (found.0 k e l u)

pub search-requires-clause-behind : goal.search-requires-clause-behind
search-requires-clause-behind c =
    let content = package_views c.args.content.now in
    let within : All (λ t. t < length (package_views c.args.content.now)) c.args.list.now =
    rw (length-map c.args.content.now package_view) c.requires.within in
    let d = dependency_view c.args.dependency.now in
    let found = IsPartitionPoint-from_clause
    (λ t. not (is_past d (slice_get content t))) c.args.list.now _ c.partition_point-after.ensures.partitioned
    (past_partitioned content d c.requires.content c.args.list.now within c.requires.rising)
    (λ a r g called. search rules) in
    λ k e l u. past_fails content d _ (found.1 k e l u)
