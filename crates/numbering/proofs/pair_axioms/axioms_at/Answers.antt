use Rattle.std.proofs.Common.{◌≡◌, Some, sym, ◌∙◌, slice_get, subst}
use Rattle.std.proofs.lemmas.Option.{none-some}
use Rattle.std.proofs.lemmas.Result.{IfOk-weaker}
use Rattle.model.specs.Axioms.{IsVertex}
use Rattle.model.specs.Vertices.{State, Vertex}
use Rattle.model.proofs.Members.{element}
use Rattle.numbering.specs.inner.Assignments.{state_at}
use Rattle.numbering.specs.GivenViews.{cause_views, given_views}
use Rattle.numbering.specs.inner.KnownProblem.{problem}
use Rattle.numbering.specs.Numberings.{AddsOnly}
use Rattle.numbering.specs.Pairs.{Pair, AreCausesAt, AreGiven, IsCauseAt, IsGivenAt, IsSpokenOf}
use Rattle.vertices.specs.inner.RefViews.{state_ref_view, vertex_ref_view}
use Rattle.numbering.proofs.AddLaws.{at_number, causes_there, state_in}
use Rattle.numbering.proofs.Adds.{pair_adds}
use Rattle.numbering.proofs.pair_axioms.axioms_at.Goals as goal

pub causes_at-requires-clause-vertex : goal.causes_at-requires-clause-vertex
causes_at-requires-clause-vertex g c =
    element (IsVertex (problem c.args.known.now)) c.args.table.now c.args.number (vertex_ref_view c.in-Some.vertex)
    c.requires.numbering.there (sym c.in-Some.ensures)

pub causes_at-requires-clause-state : goal.causes_at-requires-clause-state
causes_at-requires-clause-state g c =
    let v = vertex_ref_view c.in-Some.vertex in
    state_in (problem c.args.known.now) v c.args.state (state_ref_view c.in_ok-state.state)
    (c.requires.state v (sym c.in-Some.ensures)) c.in_ok-state.ensures

pub instances-requires-clause-there : goal.instances-requires-clause-there
instances-requires-clause-there g c =
    let q = problem c.args.known.now in
    let p : Pair = (vertex_ref_view c.in-Some.vertex, state_ref_view c.in_ok-state.state) in
    causes_there q p (cause_views c.as_slice.result.now)
    (subst (λ l. AreCausesAt q p (cause_views l)) (sym c.as_slice.ensures.value) c.in_ok-causes.ensures)

pub returns-clause-given : goal.returns-clause-given
returns-clause-given g c =
    let q = problem c.args.known.now in
    let v = vertex_ref_view c.in-Some.vertex in
    let p : Pair = (v, state_ref_view c.in_ok-state.state) in
    let n = c.args.state in
    let new = c.instances.new.table in
    let cs = cause_views c.as_slice.result.now in
    let tests = g.S.States.tests in
    IfOk-weaker c.instances.result (λ xs. AreGiven q new cs (given_views tests xs.items))
    (λ xs. (w : Vertex) → slice_get c.args.table.now c.args.number ≡ Some w
    → IsGivenAt q new (w, state_at q w n) (given_views tests xs.items))
    (λ xs given. at_number (λ u. IsGivenAt q new (u, state_at q u n) (given_views tests xs.items)) c.args.table.now
    c.args.number v c.in-Some.ensures
    (subst (λ (s : State). IsGivenAt q new (v, s) (given_views tests xs.items)) c.in_ok-state.ensures (record {
      causes = cs;
      are = subst (λ l. AreCausesAt q p (cause_views l)) (sym c.as_slice.ensures.value) c.in_ok-causes.ensures;
      given = given;
    })))
    c.instances.ensures.given

pub returns-clause-only : goal.returns-clause-only
returns-clause-only g c =
    let q = problem c.args.known.now in
    let v = vertex_ref_view c.in-Some.vertex in
    let p : Pair = (v, state_ref_view c.in_ok-state.state) in
    let n = c.args.state in
    let old = c.args.table.now in
    let new = c.instances.new.table in
    at_number (λ u. AddsOnly (IsSpokenOf q (IsCauseAt q (u, state_at q u n))) old new) old c.args.number v
    c.in-Some.ensures (subst (λ (s : State). AddsOnly (IsSpokenOf q (IsCauseAt q (v, s))) old new)
    c.in_ok-state.ensures (pair_adds q p (cause_views c.as_slice.result.now) old new
    (subst (λ l. AreCausesAt q p (cause_views l)) (sym c.as_slice.ensures.value) c.in_ok-causes.ensures)
    c.instances.ensures.only))

pub returns-in_default-clause-given : goal.returns-in_default-clause-given
returns-in_default-clause-given g c = λ v e. absurd (none-some v (c.in_default.ensures ∙ e))

pub returns-in_default-clause-only : goal.returns-in_default-clause-only
returns-in_default-clause-only g c = λ v e. absurd (none-some v (c.in_default.ensures ∙ e))
