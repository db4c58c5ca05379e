use Rattle.std.proofs.Common.{◌≡◌, drop}
use Rattle.trees.specs.Trees.{trees_view}
use Rattle.derivations.specs.Steps.{states_in}
use Rattle.vertices.specs.Views.{state_views, vertex_view}
use Rattle.model.proofs.Fronts.{with_front}
use Rattle.derivations.proofs.line.states_in.Given as goal

-- the states so far and those of what is left are those of all
abbrev pub invariant-items : goal.invariant-items
invariant-items l = with_front (state_views l.found.items) (states_in (vertex_view l.vertex)
    (trees_view (drop l.value-index l.values.items))) ≡ states_in (vertex_view l.vertex) (trees_view l.values.items)
