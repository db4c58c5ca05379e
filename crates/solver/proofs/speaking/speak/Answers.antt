use Rattle.std.proofs.Common.{◌≡◌, ap, ap₂, ◌∙◌}
use Rattle.model.specs.Axioms.{at}
use Rattle.model.specs.Vertices.{space}
use Rattle.vertices.specs.inner.RefViews.{state_ref_view, state_ref_views, vertex_ref_view}
use Rattle.numbering.specs.inner.KnownProblem.{problem}
use Rattle.solver.specs.inner.Decoding.{states_in}
use Rattle.solver.proofs.Sized.{map_chosen}
use Rattle.solver.proofs.speaking.speak.Goals as goal

pub returns : goal.returns
returns g c =
    let m = g.S.States.tests c.args.set.now in
    let v = vertex_ref_view c.args.vertex in
    let here = c.space-space.result.now in
    let one : here.spelling ≡ v = c.requires.spelt c.args.number here c.space-space.ensures v c.requires.there in
    let known : state_ref_views here.states.items ≡ space (problem c.args.known.now) v =
    c.requires.listed c.args.number here c.space-space.ensures v c.requires.there in
    ap₂ at one (ap state_ref_views (c.in_ok-states.ensures ∙ ap (λ l. states_in l m) c.deref.ensures.value)
    ∙ map_chosen state_ref_view here.states.items m ∙ ap (λ l. states_in l m) known)
