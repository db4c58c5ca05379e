use Rattle.std.proofs.Common.{rules, ◌≡◌, ◌<◌, length, sym, ap, subst}
use Rattle.std.proofs.lemmas.List.{length-map}
use Rattle.propagation.specs.Trails.{StepView, TrailView, step_at, trail_view}
use Rattle.propagation.proofs.Looking.{vertex_within}
use Rattle.propagation.proofs.Vertices.{step_read}
use Rattle.propagation.proofs.trail.Trail.renew_fronts.Goals as goal

pub renew_front-requires-clause-vertex : goal.renew_front-requires-clause-vertex
renew_front-requires-clause-vertex g c =
    let tests = g.S.States.tests in
    let old = trail_view tests c.args.self.now in
    let t = trail_view tests c.places.self in
    let k = c.places.place in
    let early : k < length c.args.self.now.steps.items = search rules in
    let same : length t.steps ≡ length old.steps = ap (λ (x : TrailView). length x.steps) c.places.invariant.renewed in
    let lt : k < length t.steps = subst (λ n. k < n) (sym same) (rw length-map early) in
    let here : (step_at t.steps k).vertex ≡ c.index.result.now.vertex = ap (λ (s : StepView). s.vertex)
    (step_read tests c.places.self.steps.items k c.index.result.now _ lt c.index.ensures) in
    subst (λ v. v < length t.sets) here (vertex_within t c.places.invariant.trail.sound k lt)
