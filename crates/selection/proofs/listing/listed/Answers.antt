use Rattle.std.proofs.Common.{map}
use Rattle.facts.specs.inner.Graphs.{node_views}
use Rattle.selection.specs.inner.Contents.{placed_views}
use Rattle.selection.proofs.RankLists.{listed_ok}
use Rattle.selection.proofs.listing.listed.Goals as goal

pub returns : goal.returns
returns c =
    listed_ok (node_views c.args.nodes.now)
    (map (λ v. v.items) c.args.facts.now.enabled.items) c.in_ok-ranks.ranks.items
    (placed_views c.args.kept.items) c.with_lists.result (rw c.as_slice.ensures.value at c.in_ok-ranks.ensures)
    (rw (c.as_slice-2.ensures.value, c.as_slice-3.ensures.value) at c.with_lists.ensures)
