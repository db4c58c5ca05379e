use Rattle.std.proofs.Common.{◌∙◌, rules, sym}
use Rattle.std.specs.Ordering.{is_lt}
use Rattle.std.proofs.lemmas.List.Sorted.{IsPartitionPoint-from_clause}
use Rattle.model.specs.Order.{text_cmp}
use Rattle.checker.proofs.RankLaws.{count_by, count_is, parts_by}
use Rattle.checker.proofs.ranks.rank_in.Goals as goal

pub returns : goal.returns
returns c =
    let x = c.args.text.now in
    let parted = IsPartitionPoint-from_clause
    (λ y. is_lt (text_cmp y.now x)) c.args.sorted.now _ c.partition_point.ensures.partitioned
    (parts_by (λ y. y.now) c.args.sorted.now x c.requires) (λ a r g called. search rules) in
    sym (count_is (λ y.
    is_lt (text_cmp y.now x)) c.args.sorted.now c.partition_point.result c.partition_point.ensures.bound parted)
    ∙ count_by (λ y. y.now) (λ y. is_lt (text_cmp y x)) c.args.sorted.now
