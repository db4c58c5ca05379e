use Rattle.std.proofs.Common.{◌≡◌}
use Rattle.serde_json.specs.Events.{items_len}
use Rattle.index_lines.specs.Shapes.{texts_in}
use Rattle.features.specs.Views.{text_views}
use Rattle.trees.specs.Trees.{left_items}
use Rattle.model.proofs.Fronts.{with_front}
use Rattle.index_lines.proofs.values.texts_in.Given as goal

-- the texts so far and those of what is left are those of all
abbrev pub invariant-items : goal.invariant-items
invariant-items l = with_front (text_views l.found.items) (texts_in (left_items l.items))
    ≡ texts_in (left_items l.fn.items)

abbrev pub decreases-items : goal.decreases-items
decreases-items l = items_len (left_items l.items)
