use Rattle.std.proofs.Common.{rules, ◌≡◌, false}
use Rattle.terms.specs.Terms.{terms_view}
use Rattle.propagation.specs.Trails.{trail_view}
use Rattle.conflicts.proofs.Strengthened.{lone_unless}
use Rattle.conflicts.proofs.strengthening.is_lone.Goals as goal

pub returns-then-not-is_satisfied : goal.returns-then-not-is_satisfied
returns-then-not-is_satisfied g c =
    let tests = g.S.States.tests in
    let b : c.is_satisfied.result ≡ false = search rules in
    lone_unless (trail_view tests c.args.trail.now) (terms_view tests c.args.incompatibility.now) c.requires.sound
    (rw b at c.is_satisfied.ensures.no)

pub returns-in-Yes : goal.returns-in-Yes
returns-in-Yes g c = c.in-Yes.ensures.0
