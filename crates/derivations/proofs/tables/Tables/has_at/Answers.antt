use Rattle.std.proofs.Common.{◌≡◌, Some, slice_get, ap, sym, ◌∙◌}
use Rattle.model.proofs.Same.{state-same}
use Rattle.vertices.specs.inner.RefViews.{state_ref_view}
use Rattle.derivations.proofs.TableLaws.{lent}
use Rattle.derivations.proofs.tables.Tables.has_at.Goals as goal

pub returns-in-Some : goal.returns-in-Some
returns-in-Some c equal =
    let there : slice_get c.self.inside.states.keys c.args.number ≡ Some c.in-Some.there.now =
    sym (ap (λ xs. slice_get xs c.args.number) c.as_slice.ensures.keys)
    ∙ lent c.as_slice.result.now c.args.number c.get.result c.in-Some.there c.get.ensures.lookup c.in-Some.is in
    let same : c.in-Some.there.now ≡ state_ref_view c.args.state = sym (c.borrowed.ensures ∙ c.state.ensures)
    ∙ state-same (state_ref_view c.borrowed.result) (state_ref_view c.args.state) (sym c.eq.ensures ∙ equal) in
    ap (λ t. slice_get t.states c.args.number) (sym c.self.view_is) ∙ there ∙ ap Some same
