use Rattle.std.proofs.Common.{◌<◌, ◌-◌, ◌∙◌, length, sym, arith}
use Rattle.std.proofs.lemmas.List.{length-map}
use Rattle.terms.specs.Terms.{terms_view}
use Rattle.propagation.specs.Trails.{trail_view}
use Rattle.propagation.proofs.Vertices.{out_at}
use Rattle.propagation.proofs.trail.Trail.is_ruled_out.Goals as goal

pub returns-in-Contradicted : goal.returns-in-Contradicted
returns-in-Contradicted g c =
    let tests = g.S.States.tests in
    let k = c.terms.place - 1 in
    let within : k < length c.args.terms.now = omega arith in
    out_at (trail_view tests c.args.self.now).sets (terms_view tests c.args.terms.now) k
    c.requires.is.rising (rw length-map within) (sym c.relation_at.ensures ∙ c.in-Contradicted.is)
