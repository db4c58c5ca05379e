use Rattle.std.proofs.Common.{◌+◌, arith, subst}
use Rattle.incompatibilities.specs.Stores.{entries_view}
use Rattle.propagation.specs.Trails.{trail_view}
use Rattle.incompatibilities.specs.inner.Counts.{combinations}
use Rattle.guiding.specs.inner.Searching.{space}
use Rattle.guiding.specs.inner.Turning.{HasGone, HasTurned}
use Rattle.guiding.specs.inner.Following.{RefutesNothing}
use Rattle.guiding.proofs.Counts.{counted_up}
use Rattle.guiding.proofs.Each.{each_falls}
use Rattle.guiding.proofs.turns.search.Goals as goal

pub turns-preserved : goal.turns-preserved
turns-preserved g c =
    let tests = g.S.States.tests in
    let left = g.G.Guide.left c.turns.guide in
    let old = trail_view tests c.turns.trail in
    let more = g.G.Guide.asked c.one_turn.new.guide in
    let fewer = g.G.Guide.left c.one_turn.new.guide in
    let es = entries_view tests c.one_turn.new.store in
    let new = trail_view tests c.one_turn.new.trail in
    let late = g.G.Guide.late c.turns.guide in
    let later = g.G.Guide.late c.one_turn.new.guide in
    let seen = g.G.Guide.seen c.one_turn.new.guide in
    let gone : HasGone (space late old + left) more fewer later seen es new c.in-Goes.next =
    subst (HasTurned (g.G.Guide.done c.one_turn.new.guide new) (space late old + left) more fewer later seen es new)
    c.in-Goes.is c.in_ok-next.ensures.turned in
    let was = c.turns.invariant in
    let turn = c.in_ok-next.ensures in
    record {
      searching = gone.fallen.searching;
      caught = gone.fallen.caught;
      seen = gone.seen_is;
      spaces = turn.spaces;
      keeps = g.G.Guide.keeps_on _ _ _ was.keeps turn.keeps;
      given = λ given. turn.given (was.given given);
      stored = λ stored. turn.stored (was.stored stored);
      counted = turn.counted (combinations (entries_view tests c.args.store.now)) was.counted;
      follows = λ x is. let mid = turn.follows x is in let first =
          was.follows x mid.0 in (first.0, λ is_left. mid.1 (first.1 is_left));
    }

pub returns-in-Ends-clause-given : goal.returns-in-Ends-clause-given
returns-in-Ends-clause-given g c given = c.in_ok-next.ensures.given (c.turns.invariant.given given)

pub returns-in-Ends-clause-stored : goal.returns-in-Ends-clause-stored
returns-in-Ends-clause-stored g c stored = c.in_ok-next.ensures.stored (c.turns.invariant.stored stored)

pub returns-in-Ends-clause-follows : goal.returns-in-Ends-clause-follows
returns-in-Ends-clause-follows g c x is = let mid = c.in_ok-next.ensures.follows x is in let first =
    c.turns.invariant.follows x mid.0 in (first.0, λ is_left. mid.1 (first.1 is_left))

pub returns-in-Ends-clause-selects : goal.returns-in-Ends-clause-selects
returns-in-Ends-clause-selects g c x is is_left =
    let mid = c.in_ok-next.ensures.follows x is in
    subst RefutesNothing c.in-Ends.is (c.in_ok-next.ensures.turns x is ((c.turns.invariant.follows x mid.0).1 is_left))

pub returns-in-Ends-clause-each : goal.returns-in-Ends-clause-each
returns-in-Ends-clause-each g c = each_falls (g.G.Guide.late c.one_turn.new.guide)
    (trail_view g.S.States.tests c.one_turn.new.trail) c.in_ok-next.ensures.trail.sound

pub returns-in-Ends-clause-keeps : goal.returns-in-Ends-clause-keeps
returns-in-Ends-clause-keeps g c = g.G.Guide.keeps_on _ _ _ c.turns.invariant.keeps c.in_ok-next.ensures.keeps

pub returns-in-Ends-clause-counted : goal.returns-in-Ends-clause-counted
returns-in-Ends-clause-counted g c =
    let more = c.in_ok-next.ensures.counted
    (combinations (entries_view g.S.States.tests c.args.store.now)) c.turns.invariant.counted in
    record {
      combined = counted_up (combinations (entries_view g.S.States.tests c.one_turn.new.store))
          (combinations (entries_view g.S.States.tests c.args.store.now)) c.one_turn.new.steps
          c.with_assignments.result more c.with_assignments.ensures.steps;
      assigned = omega (arith, c.assigned.ensures, c.with_assignments.ensures.assigned);
    }
