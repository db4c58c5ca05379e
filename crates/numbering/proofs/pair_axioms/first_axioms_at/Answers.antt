use Rattle.std.proofs.Common.{◌≡◌, ◌≢◌, Contains, [], Some, sym, ap, ◌∙◌, slice_get, subst}
use Rattle.std.specs.List.{AllPairs}
use Rattle.std.proofs.lemmas.Option.{none-some}
use Rattle.std.proofs.lemmas.Result.{IfOk-weaker}
use Rattle.model.specs.Axioms.{IsVertex}
use Rattle.model.specs.Vertices.{State, Vertex}
use Rattle.model.proofs.Lists.{pairs_none}
use Rattle.model.proofs.Members.{element}
use Rattle.numbering.specs.inner.AskedFor.{IsGivenFirst, asked_causes}
use Rattle.numbering.specs.inner.Assignments.{state_at}
use Rattle.numbering.specs.inner.CausesAt.{with_causes}
use Rattle.numbering.specs.GivenViews.{cause_views, given_views}
use Rattle.numbering.specs.inner.KnownProblem.{problem}
use Rattle.numbering.specs.Pairs.{AreGiven}
use Rattle.vertices.specs.inner.RefViews.{state_ref_view, vertex_ref_view}
use Rattle.numbering.proofs.AddLaws.{all_there, at_number, state_in}
use Rattle.numbering.proofs.Overtaken.{first_listed, next_there}
use Rattle.numbering.proofs.SameCauses.{all_once, same_ones}
use Rattle.numbering.proofs.pair_axioms.first_axioms_at.Goals as goal

pub instances-requires-clause-there : goal.instances-requires-clause-there
instances-requires-clause-there g c =
    let q = problem c.args.known.now in
    let v = vertex_ref_view c.in-Some.vertex in
    let s = state_ref_view c.in_ok-state.state in
    let is = element (IsVertex q) c.args.table.now c.args.number v c.requires.numbering.there (sym c.in-Some.ensures) in
    let within =
    state_in q v c.args.state s (c.requires.state v (sym c.in-Some.ensures)) c.in_ok-state.ensures in
    let listed = asked_causes q [] v s in
    let are : cause_views c.as_slice.result.now ≡ with_causes [] listed =
    ap cause_views c.as_slice.ensures.value ∙ c.in_ok-causes.ensures in
    all_there q (cause_views c.as_slice.result.now)
    (λ x i. (next_there q [] v s is within x ((same_ones listed x).0 (subst (λ l. Contains l x) are i))).0)

pub returns-clause-given : goal.returns-clause-given
returns-clause-given g c =
    let q = problem c.args.known.now in
    let v = vertex_ref_view c.in-Some.vertex in
    let s = state_ref_view c.in_ok-state.state in
    let n = c.args.state in
    let new = c.instances.new.table in
    let tests = g.S.States.tests in
    let is = element (IsVertex q) c.args.table.now c.args.number v c.requires.numbering.there (sym c.in-Some.ensures) in
    let within = state_in q v n s (c.requires.state v (sym c.in-Some.ensures)) c.in_ok-state.ensures in
    let listed = asked_causes q [] v s in
    let cs = cause_views c.as_slice.result.now in
    let are : cs ≡ with_causes [] listed = ap cause_views c.as_slice.ensures.value ∙ c.in_ok-causes.ensures in
    IfOk-weaker c.instances.result (λ xs. AreGiven q new cs (given_views tests xs.items))
    (λ xs. (w : Vertex) → slice_get c.args.table.now c.args.number ≡ Some w
    → IsGivenFirst q new (w, state_at q w n) (given_views tests xs.items))
    (λ xs given. at_number (λ u. IsGivenFirst q new (u, state_at q u n) (given_views tests xs.items)) c.args.table.now
    c.args.number v c.in-Some.ensures
    (subst (λ (r : State). IsGivenFirst q new (v, r) (given_views tests xs.items)) c.in_ok-state.ensures (record {
      causes = cs;
      there = λ x i. next_there q [] v s is within x ((same_ones listed x).0 (subst (λ l. Contains l x) are i));
      all = λ x t here alone. subst (λ l. Contains l x) (sym are)
          ((same_ones listed x).1 (first_listed q [] v s x t here alone));
      once = subst (AllPairs (λ a b. a ≢ b)) (sym are) (all_once [] listed (pairs_none (λ a b. a ≢ b)));
      given = given;
    })))
    c.instances.ensures.given

pub returns-in_default-clause-given : goal.returns-in_default-clause-given
returns-in_default-clause-given g c = λ v e. absurd (none-some v (c.in_default.ensures ∙ e))
