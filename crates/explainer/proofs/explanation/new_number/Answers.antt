use Rattle.std.proofs.Common.{◌+◌, nat_lt, sym, ap, arith, rules}
use Rattle.std.proofs.lemmas.List.Sorted.{IsPartitionPoint-from_clause, IsPartitionedBy-ltb}
use Rattle.explainer.proofs.Counts.{count}
use Rattle.explainer.proofs.explanation.new_number.Goals as goal

pub returns : goal.returns
returns c =
    let point = IsPartitionPoint-from_clause
    (λ n. nat_lt n c.args.step) c.args.needed.now _ c.partition_point.ensures.partitioned
    (IsPartitionedBy-ltb (λ n. n) c.args.needed.now c.args.step c.requires) (λ a r g called. search rules) in
    ap (λ n. n + 1) (sym (count (λ n.
    nat_lt n c.args.step) c.args.needed.now c.partition_point.result c.partition_point.ensures.bound
    (λ k d lt. point.0 k d (omega arith) lt) (λ k d low lt. point.1 k d low lt)))
