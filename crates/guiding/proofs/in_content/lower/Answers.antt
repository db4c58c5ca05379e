use Rattle.std.proofs.Common.{rules}
use Rattle.std.specs.Ordering.{is_lt}
use Rattle.std.proofs.lemmas.Cmp.{is_lt_index}
use Rattle.std.proofs.lemmas.List.Sorted.{IsPartitionPoint-from_clause}
use Rattle.lockfile.specs.inner.Views.{package_view}
use Rattle.lockfile.specs.inner.Search.{named_cmp}
use Rattle.guiding.proofs.Named.{lower_first}
use Rattle.guiding.proofs.in_content.lower.Goals as goal

pub returns-clause-place : goal.returns-clause-place
returns-clause-place c =
    IsPartitionPoint-from_clause (λ p. is_lt (named_cmp c.args.name.now (package_view p))) c.args.content.now _
    c.partition_point.ensures.partitioned (lower_first c.args.name.now c.args.content.now c.requires)
    (λ a r g called. search (rules, is_lt_index))
