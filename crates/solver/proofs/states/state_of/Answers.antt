use Rattle.std.proofs.Common.{◌≡◌, IfOk, sym, ap, ◌∙◌, subst, arith}
use Rattle.propagation.specs.Trails.{trail_view}
use Rattle.vertices.specs.inner.RefViews.{state_ref_view, vertex_ref_view}
use Rattle.numbering.specs.inner.Assignments.{state_at, state_if, state_of}
use Rattle.numbering.specs.inner.KnownProblem.{problem}
use Rattle.guiding.specs.inner.Guides.{final_of, first_in}
use Rattle.solver.proofs.Ends.{number_within}
use Rattle.solver.proofs.states.state_of.Goals as goal

pub states-requires : goal.states-requires
states-requires g c =
    let below = number_within c.args.table.now (vertex_ref_view c.args.vertex.now) c.in-Some.number
    (sym c.number.ensures ∙ c.in-Some.is) in
    omega (arith, below, c.requires.whole)

pub returns-in-Some : goal.returns-in-Some
returns-in-Some g c =
    let q = problem c.args.known.now in
    let v = vertex_ref_view c.args.vertex.now in
    let x = final_of (trail_view g.S.States.tests c.args.trail.now) in
    let is : state_at q v c.first_in-state.result ≡ state_of q c.args.table.now x v
    = ap (state_at q v) (c.first_in-state.ensures ∙ ap first_in c.states.ensures)
    ∙ ap (state_if q x v) (sym c.in-Some.is ∙ c.number.ensures) in
    subst (λ z. IfOk c.state_at.result (λ s. state_ref_view s ≡ z)) is c.state_at.ensures

pub returns-in-None : goal.returns-in-None
returns-in-None g c =
    let q = problem c.args.known.now in
    let v = vertex_ref_view c.args.vertex.now in
    let x = final_of (trail_view g.S.States.tests c.args.trail.now) in
    ap (state_if q x v) (sym c.in-None.is ∙ c.number.ensures)
