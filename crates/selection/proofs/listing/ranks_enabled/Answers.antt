use Rattle.std.proofs.Common.{◌∙◌, None, get_or, ap}
use Rattle.selection.specs.inner.Contents.{rank_if}
use Rattle.selection.proofs.RankLists.{ranks_go_on}
use Rattle.selection.proofs.listing.ranks_enabled.Goals as goal

pub targets-preserved : goal.targets-preserved
targets-preserved c =
    ranks_go_on c.targets.number c.args.targets.now c.args.enabled.now c.args.ranks.now None c.rank_if.result
    c.targets.list.items _ _ c.targets-test.true
    (c.rank_if.ensures ∙ ap (λ b. rank_if (get_or c.args.targets.now c.targets.number None) b c.args.ranks.now)
    c.flag.ensures) c.in_ok-add.ensures c.targets.invariant
