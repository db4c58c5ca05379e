use Rattle.std.proofs.Common.{◌≡◌, map, true, ap, ◌∙◌, sym, subst, arith}
use Rattle.version_sets.specs.Sets.{has, size}
use Rattle.propagation.specs.Trails.{set_of, trail_view}
use Rattle.propagation.proofs.Vertices.{view_at}
use Rattle.guiding.proofs.Alone.{open_by}
use Rattle.guiding.proofs.opening.open_at.Goals as goal

pub returns : goal.returns
returns g c =
    let tests = g.S.States.tests in
    let sets = (trail_view tests c.args.trail.now).sets in
    let asked = c.args.asked.now in
    let v = c.args.vertex in
    let here : set_of (map tests asked) v ≡ tests c.index-asked-vertex.result =
    view_at tests asked v c.index-asked-vertex.result _
    (omega (arith, c.requires.vertex, c.requires.long)) c.index-asked-vertex.is in
    let one : size (set_of sets v) ≡ 1 =
    sym (ap size c.states-left.ensures) ∙ sym c.count.ensures ∙ c.if-count-ne1.false in
    open_by sets (map tests asked) v c.any_of.result (tests c.index-asked-vertex.result) c.unless_asked.result here one
    (subst (λ s. has s c.any_of.result ≡ true) c.states-left.ensures c.any_of.ensures) c.unless_asked.ensures
