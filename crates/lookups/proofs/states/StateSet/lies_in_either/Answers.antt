use Rattle.std.proofs.Common.{◌∙◌, ◌||◌, sym, ap}
use Rattle.std.specs.List.{list_all}
use Rattle.model.specs.Vertices.{State, has_state}
use Rattle.vertices.specs.inner.RefViews.{state_ref_view}
use Rattle.lookups.proofs.SetLaws.{all_map}
use Rattle.lookups.proofs.states.StateSet.lies_in_either.Goals as goal

pub returns : goal.returns
returns c =
    let test = λ (s : State). has_state c.args.a.now s || has_state c.args.b.now s in
    rw c.as_slice.ensures.value at c.all_in_either.ensures
    ∙ sym (all_map state_ref_view test c.self.inside.states.items) ∙ ap (list_all test) c.self.view_is
