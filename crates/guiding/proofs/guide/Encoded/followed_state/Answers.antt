use Rattle.std.proofs.Common.{◌∙◌, Some, None, sym, ap, subst}
use Rattle.std.proofs.lemmas.Bool.{false≢true}
use Rattle.std.proofs.lemmas.Option.{none-some, same_Some}
use Rattle.version_sets.specs.Sets.{has}
use Rattle.vertices.specs.inner.RefViews.{vertex_ref_view}
use Rattle.numbering.specs.inner.KnownProblem.{problem}
use Rattle.guiding.specs.inner.Guides.{EncodedView, IsFollowed}
use Rattle.guiding.proofs.Following.{followed_at}
use Rattle.guiding.proofs.guide.Encoded.followed_state.Goals as goal

pub returns-in-Some-2-clause-followed : goal.returns-in-Some-2-clause-followed
returns-in-Some-2-clause-followed g c =
    let left = g.S.States.tests c.args.left.now in
    let v = vertex_ref_view c.args.vertex.now in
    subst (λ (o : EncodedView). IsFollowed o.problem o.follows v left (Some c.in-Some-2.state)) c.self.view_is
    (followed_at (problem c.self.inside.known) v c.self.invariant.0.catalogue c.self.inside.follows c.in-Some.content
    left c.in_ok-state.field-0 (Some c.in-Some-2.state) c.in-Some.is c.in_ok-state.ensures
    (λ i e here. sym c.in-Some-2.is ∙ e))

pub returns-in_default-2-clause-followed : goal.returns-in_default-2-clause-followed
returns-in_default-2-clause-followed g c =
    let left = g.S.States.tests c.args.left.now in
    let v = vertex_ref_view c.args.vertex.now in
    subst (λ (o : EncodedView). IsFollowed o.problem o.follows v left None) c.self.view_is
    (followed_at (problem c.self.inside.known) v c.self.invariant.0.catalogue c.self.inside.follows c.in-Some.content
    left c.in_ok-state.field-0 None c.in-Some.is c.in_ok-state.ensures
    (λ i e here.
    let same = same_Some c.in-Some-2.state i (sym c.in-Some-2.is ∙ e) in
    absurd (false≢true (sym c.if-member.false ∙ c.member.ensures ∙ ap (has left) same ∙ here))))

pub returns-in_default-2-2-clause-followed : goal.returns-in_default-2-2-clause-followed
returns-in_default-2-2-clause-followed g c =
    let left = g.S.States.tests c.args.left.now in
    let v = vertex_ref_view c.args.vertex.now in
    subst (λ (o : EncodedView). IsFollowed o.problem o.follows v left None) c.self.view_is
    (followed_at (problem c.self.inside.known) v c.self.invariant.0.catalogue c.self.inside.follows c.in-Some.content
    left c.in_ok-state.field-0 None c.in-Some.is c.in_ok-state.ensures
    (λ i e here. absurd (none-some i (sym c.in_default-2.is ∙ e))))
