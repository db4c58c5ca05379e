use Rattle.std.proofs.Common.{◌≡◌, ◌∙◌, Some, slice_get, sym, subst}
use Rattle.std.proofs.lemmas.Option.{none-some, same_Some}
use Rattle.vertices.specs.inner.RefViews.{vertex_ref_view}
use Rattle.guiding.specs.inner.Guides.{EncodedView}
use Rattle.guiding.proofs.Following.{decided_by}
use Rattle.guiding.proofs.guide.Encoded.state_for.Goals as goal

pub returns-in-Some-2-clause-follows : goal.returns-in-Some-2-clause-follows
returns-in-Some-2-clause-follows g c x f here =
    let left = g.S.States.tests c.args.left.now in
    let v = vertex_ref_view c.in-Some.vertex in
    let at : slice_get c.args.self.now.vertices c.args.number ≡ Some v = subst
    (λ (o : EncodedView). slice_get o.vertices c.args.number ≡ Some v) c.self.view_is (sym c.in-Some.ensures) in
    sym (same_Some c.in-Some-2.state (x c.args.number) (sym c.in-Some-2.is ∙ decided_by c.args.self.now c.args.number v
    left c.in_ok-state.field-0 at c.in_ok-state.ensures.followed c.requires.lost x f here))

pub returns-clause-follows : goal.returns-clause-follows
returns-clause-follows g c x f here =
    let left = g.S.States.tests c.args.left.now in
    let v = vertex_ref_view c.in-Some.vertex in
    let at : slice_get c.args.self.now.vertices c.args.number ≡ Some v = subst
    (λ (o : EncodedView). slice_get o.vertices c.args.number ≡ Some v) c.self.view_is (sym c.in-Some.ensures) in
    absurd (none-some (x c.args.number) (sym c.in_default-2.is ∙ decided_by c.args.self.now c.args.number v left
    c.in_ok-state.field-0 at c.in_ok-state.ensures.followed c.requires.lost x f here))
