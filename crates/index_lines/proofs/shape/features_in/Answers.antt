use Rattle.std.proofs.Common.{◌≡◌, sym, ◌∙◌}
use Rattle.trees.specs.Trees.{entries_view, listed_view}
use Rattle.trees.proofs.RisingLemmas.{entries-listed}
use Rattle.index_lines.proofs.shape.features_in.Goals as goal

pub returns-then-are_rising : goal.returns-then-are_rising
returns-then-are_rising c =
    let listed : entries_view c.args.members.now.items ≡ listed_view c.args.members.now.items =
    entries-listed c.args.members.now.items (sym c.are_rising.ensures ∙ c.if-are_rising.true) in
    rw listed c.features_as_listed.ensures
