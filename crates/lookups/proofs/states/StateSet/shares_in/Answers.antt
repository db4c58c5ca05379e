use Rattle.std.proofs.Common.{◌∙◌, ◌||◌, sym, ap, not}
use Rattle.std.specs.List.{list_all}
use Rattle.model.specs.Vertices.{State, has_state}
use Rattle.vertices.specs.inner.RefViews.{state_ref_view}
use Rattle.lookups.proofs.SetLaws.{all_map}
use Rattle.lookups.proofs.states.StateSet.shares_in.Goals as goal

pub returns : goal.returns
returns c =
    let test = λ (s : State). not (has_state c.args.second.now s) || has_state c.args.third.now s in
    rw c.as_slice.ensures.value at c.all_shared_in.ensures
    ∙ sym (all_map state_ref_view test c.self.inside.states.items) ∙ ap (list_all test) c.self.view_is
