use Rattle.std.proofs.Common.{◌∙◌, sym}
use Rattle.selection.proofs.MetVersions.{got_item}
use Rattle.selection.proofs.RankLists.{no_item, targets_got, targets_none}
use Rattle.selection.proofs.listing.targets_at.Goals as goal

pub returns-in-Some : goal.returns-in-Some
returns-in-Some c = c.as_slice.ensures.value ∙ sym (targets_got c.args.nodes.now c.args.place c.in-Some.node.now
    (got_item c.args.nodes.now c.args.place c.get.result c.in-Some.node c.get.ensures.lookup c.in-Some.is))

pub returns-in-None : goal.returns-in-None
returns-in-None c = sym (targets_none c.args.nodes.now c.args.place
    (no_item c.args.nodes.now c.args.place c.get.result c.get.ensures.lookup c.in-None.is))
