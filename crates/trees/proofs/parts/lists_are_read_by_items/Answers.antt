use Rattle.trees.proofs.ListLemmas.{list-by_items}
use Rattle.trees.proofs.parts.lists_are_read_by_items.Goals as goal

pub returns : goal.returns
returns c = list-by_items
