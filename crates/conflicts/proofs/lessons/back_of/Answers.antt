use Rattle.std.proofs.Common.{◌∙◌, arith}
use Rattle.terms.specs.Terms.{terms_view}
use Rattle.propagation.specs.Trails.{trail_view}
use Rattle.conflicts.proofs.Strengthened.{lone_top}
use Rattle.conflicts.proofs.lessons.back_of.Goals as goal

pub returns-then-found-places : goal.returns-then-found-places
returns-then-found-places g c =
    let tests = g.S.States.tests in
    let t = trail_view tests c.args.trail.now in
    let ts = terms_view tests c.args.incompatibility.now in
    let s = c.satisfier-found.result in
    let found = c.satisfier-found.ensures.satisfied in
    let near = c.if-found-places.true in (
      lone_top t ts s found (c.if-found-level.false ∙ c.level-level.ensures),
      (λ xs trail. record {
        satisfier = record {
          satisfied = found;
          cause = c.satisfier-found.ensures.cause xs trail;
          opens = c.satisfier-found.ensures.opens;
        };
        is = c.terms.ensures.is;
      }),
      omega (arith, near),
    )
