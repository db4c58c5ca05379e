use Rattle.std.proofs.Common.{sym, subst}
use Rattle.std.proofs.lemmas.List.{length-map}
use Rattle.std.specs.Bool.{OnTrue}
use Rattle.incompatibilities.specs.Incompatibilities.{states_at}
use Rattle.terms.specs.Terms.{terms_view}
use Rattle.propagation.specs.Satisfaction.{IsStill}
use Rattle.propagation.specs.Trails.{trail_view}
use Rattle.propagation.proofs.Stillness.{still_if}
use Rattle.propagation.proofs.trail.Trail.is_still.Goals as goal

pub returns-in-Some : goal.returns-in-Some
returns-in-Some g c =
    let t = trail_view g.S.States.tests c.args.self.now in
    let ts = terms_view g.S.States.tests c.args.terms.now in
    subst (λ b. OnTrue b (IsStill t.sets (states_at ts))) (sym c.is_some.ensures)
    (still_if t.sets t ts c.in-Some.place c.last_unsatisfied-in-Some.result c.requires (rw length-map c.in-Some.ensures.0)
    c.in-Some.ensures.1 c.last_unsatisfied-in-Some.ensures)
