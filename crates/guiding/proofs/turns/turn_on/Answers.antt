use Rattle.std.proofs.Common.{IfSome, ℕ, ◌≡◌, ◌+◌, Some, None, true, false, refl, subst, ◌∷◌, []}
use Rattle.incompatibilities.specs.Stores.{entries_view}
use Rattle.propagation.specs.Trails.{trail_view}
use Rattle.guiding.specs.inner.Turning.{HasFallen, IsAdding, IsChosen}
use Rattle.guiding.proofs.Counts.{counts_axioms}
use Rattle.guiding.proofs.Falls.{adding_trail, turn_axioms, turn_decide, wide_caught, wide_falling, wide_quiet}
use Rattle.guiding.proofs.Falls.{wide_searching, wide_space}
use Rattle.guiding.proofs.Seen.{seen_longer}
use Rattle.guiding.proofs.FollowedLoop.{decide_agrees, spaces_same, spread_agrees}
use Rattle.propagation.specs.Satisfaction.{Agrees}
use Rattle.incompatibilities.specs.Incompatibilities.{Assignment}
use Rattle.guiding.proofs.turns.turn_on.Goals as goal

pub propagate-requires : goal.propagate-requires
propagate-requires g c =
    let tests = g.S.States.tests in
    adding_trail _ _ _ _ _ _ (trail_view tests c.args.trail.now) (trail_view tests c.axioms.new.trail)
    (entries_view tests c.args.store.now) (entries_view tests c.axioms.new.store) c.in_ok-axioms.field-0
    c.requires.searching.trail c.requires.caught c.in_ok-axioms.ensures.adding

pub returns-then-branch-clause-turned : goal.returns-then-branch-clause-turned
returns-then-branch-clause-turned g c =
    let tests = g.S.States.tests in
    let old_es = entries_view tests c.args.store.now in
    let es = entries_view tests c.axioms.new.store in
    let old = trail_view tests c.args.trail.now in
    let wide = trail_view tests c.axioms.new.trail in
    let new = trail_view tests c.propagate.new.self in
    let asked = g.G.Guide.asked c.args.guide.now in
    let more = g.G.Guide.asked c.axioms.new.self in
    let left = g.G.Guide.left c.args.guide.now in
    let fewer = g.G.Guide.left c.axioms.new.self in
    let late = g.G.Guide.late c.args.guide.now in
    let later = g.G.Guide.late c.axioms.new.self in
    let adding : IsAdding asked more left fewer late later old wide old_es es true = subst
    (IsAdding asked more left fewer late later old wide old_es es) c.if-branch.true c.in_ok-axioms.ensures.adding in
    let trail = c.requires.searching.trail in
    let caught = c.requires.caught in
    let p = c.in_ok-propagate.ensures.propagated in
    record {
      fallen = subst (λ n. HasFallen (n + left) more fewer later es new c.in_ok-propagate.field-0)
          (wide_space asked more left fewer late later old wide old_es es true trail caught adding)
          (turn_axioms more left fewer later es wide new c.in_ok-propagate.field-0 p.0
          (wide_falling asked more left fewer late later old wide old_es es true trail caught adding
          c.requires.searching.falling)
          (wide_quiet asked more left fewer late later old wide old_es es true trail caught adding
          c.requires.searching.quiet)
          (wide_caught asked more left fewer late later old wide old_es es true trail caught adding)
          (adding.goes refl) p.1 c.in_ok-propagate.ensures.trail);
      seen_is = seen_longer
          (g.G.Guide.seen c.axioms.new.self) more wide new p.0 p.1.steps p.1.back c.in_ok-axioms.ensures.seen;
    }

pub decide-requires-clause-sound : goal.decide-requires-clause-sound
decide-requires-clause-sound g c =
    let tests = g.S.States.tests in
    (adding_trail _ _ _ _ _ _ (trail_view tests c.args.trail.now) (trail_view tests c.axioms.new.trail)
    (entries_view tests c.args.store.now) (entries_view tests c.axioms.new.store) c.in_ok-axioms.field-0
    c.requires.searching.trail c.requires.caught c.in_ok-axioms.ensures.adding).sound

pub propagate-requires-in-Some : goal.propagate-requires-in-Some
propagate-requires-in-Some g c =
    let tests = g.S.States.tests in
    c.decide.ensures.trail (entries_view tests c.axioms.new.store)
    (adding_trail _ _ _ _ _ _ (trail_view tests c.args.trail.now) (trail_view tests c.axioms.new.trail)
    (entries_view tests c.args.store.now) (entries_view tests c.axioms.new.store) c.in_ok-axioms.field-0
    c.requires.searching.trail c.requires.caught c.in_ok-axioms.ensures.adding)

pub returns-in_ok-propagate-in-Some-clause-turned : goal.returns-in_ok-propagate-in-Some-clause-turned
returns-in_ok-propagate-in-Some-clause-turned g c =
    let tests = g.S.States.tests in
    let old_es = entries_view tests c.args.store.now in
    let es = entries_view tests c.axioms.new.store in
    let old = trail_view tests c.args.trail.now in
    let wide = trail_view tests c.axioms.new.trail in
    let mid = trail_view tests c.decide.new.self in
    let new = trail_view tests c.propagate-in-Some.new.self in
    let asked = g.G.Guide.asked c.args.guide.now in
    let more = g.G.Guide.asked c.axioms.new.self in
    let left = g.G.Guide.left c.args.guide.now in
    let fewer = g.G.Guide.left c.axioms.new.self in
    let late = g.G.Guide.late c.args.guide.now in
    let later = g.G.Guide.late c.axioms.new.self in
    let adding : IsAdding asked more left fewer late later old wide old_es es false =
    subst (IsAdding asked more left fewer late later old wide old_es es) c.if-branch.false
    c.in_ok-axioms.ensures.adding in
    let stays = adding.stays refl in
    let trail = c.requires.searching.trail in
    let caught = c.requires.caught in
    let d = c.in_ok-decide-in-Some.ensures.decided in
    let p = c.in_ok-propagate-in-Some.ensures.propagated in
    record {
      fallen = subst (λ n. HasFallen (n + left) more fewer later es new c.in_ok-propagate-in-Some.field-0)
          (wide_space asked more left fewer late later old wide old_es es false trail caught adding)
          (turn_decide more left fewer later es wide mid new c.in-Some.vertex c.in-Some.state d.0
          c.in_ok-propagate-in-Some.field-0 p.0
          (wide_searching asked more left fewer late later old wide old_es es false trail caught adding
          refl c.requires.searching)
          (wide_caught asked more left fewer late later old wide old_es es false trail caught adding)
          stays.2 stays.1 d.1 p.1 c.in_ok-propagate-in-Some.ensures.trail);
      seen_is = seen_longer (g.G.Guide.seen c.axioms.new.self) more mid new p.0 p.1.steps p.1.back
          (seen_longer (g.G.Guide.seen c.axioms.new.self) more wide mid
          (d.0 ∷ []) d.1.steps d.1.back c.in_ok-axioms.ensures.seen);
    }

pub returns-in-None-clause-turned : goal.returns-in-None-clause-turned
returns-in-None-clause-turned g c =
    let tests = g.S.States.tests in
    let old_es = entries_view tests c.args.store.now in
    let es = entries_view tests c.axioms.new.store in
    let old = trail_view tests c.args.trail.now in
    let wide = trail_view tests c.axioms.new.trail in
    let asked = g.G.Guide.asked c.args.guide.now in
    let more = g.G.Guide.asked c.axioms.new.self in
    let left = g.G.Guide.left c.args.guide.now in
    let fewer = g.G.Guide.left c.axioms.new.self in
    let late = g.G.Guide.late c.args.guide.now in
    let later = g.G.Guide.late c.axioms.new.self in
    let adding : IsAdding asked more left fewer late later old wide old_es es false =
    subst (IsAdding asked more left fewer late later old wide old_es es) c.if-branch.false
    c.in_ok-axioms.ensures.adding in
    let stays = adding.stays refl in
    let done : IsChosen (g.G.Guide.done c.axioms.new.self wide) wide None =
    subst (IsChosen (g.G.Guide.done c.axioms.new.self wide) wide) c.in-None.is c.in_ok-vertex.ensures.chosen in (
      done,
      stays.2,
      (wide_searching asked more left fewer late later old wide old_es es false c.requires.searching.trail
          c.requires.caught adding refl c.requires.searching).stops,
    )

pub returns-in-None-clause-trail : goal.returns-in-None-clause-trail
returns-in-None-clause-trail g c =
    let tests = g.S.States.tests in
    adding_trail _ _ _ _ _ _ (trail_view tests c.args.trail.now) (trail_view tests c.axioms.new.trail)
    (entries_view tests c.args.store.now) (entries_view tests c.axioms.new.store) c.in_ok-axioms.field-0
    c.requires.searching.trail c.requires.caught c.in_ok-axioms.ensures.adding

pub returns-then-branch-clause-follows : goal.returns-then-branch-clause-follows
returns-then-branch-clause-follows g c x is =
    let tests = g.S.States.tests in
    let es = entries_view tests c.axioms.new.store in
    let more = c.in_ok-axioms.ensures.follows x is in
    let p = c.in_ok-propagate.ensures.propagated in (
      more.0,
      λ is_left. let mid = more.1 is_left in spread_agrees x es (trail_view tests c.axioms.new.trail)
          (trail_view tests c.propagate.new.self) c.in_ok-propagate.field-0 p.0 p.1 mid.0 mid.1,
    )

pub returns-in_ok-propagate-in-Some-clause-follows : goal.returns-in_ok-propagate-in-Some-clause-follows
returns-in_ok-propagate-in-Some-clause-follows g c x is =
    let tests = g.S.States.tests in
    let es = entries_view tests c.axioms.new.store in
    let wide = trail_view tests c.axioms.new.trail in
    let mid = trail_view tests c.decide.new.self in
    let more = c.in_ok-axioms.ensures.follows x is in
    let p = c.in_ok-propagate-in-Some.ensures.propagated in
    let d = c.in_ok-decide-in-Some.ensures.decided in
    let pair : ℕ × ℕ = (c.in-Some.vertex, c.in-Some.state) in
    let can : IsChosen (g.G.Guide.done c.axioms.new.self wide) wide (Some pair) =
    subst (IsChosen (g.G.Guide.done c.axioms.new.self wide) wide) c.in-Some.is c.in_ok-vertex.ensures.chosen in
    let follows : IfSome (Some pair) (λ d. (y : Assignment) → g.G.Guide.follows c.axioms.new.self y → Agrees y wide.sets
    → y d.0 ≡ d.1) = subst (λ o. IfSome o (λ d. (y : Assignment) → g.G.Guide.follows c.axioms.new.self y
    → Agrees y wide.sets → y d.0 ≡ d.1)) c.in-Some.is c.in_ok-vertex.ensures.follows in (
      more.0,
      λ is_left. let there = more.1 is_left in spread_agrees x es mid
          (trail_view tests c.propagate-in-Some.new.self) c.in_ok-propagate-in-Some.field-0 p.0 p.1 there.0
          (decide_agrees x wide mid c.in-Some.vertex c.in-Some.state d.0 d.1 can (follows x is there.1) there.1),
    )

pub returns-then-branch-clause-spaces : goal.returns-then-branch-clause-spaces
returns-then-branch-clause-spaces g c =
    let tests = g.S.States.tests in
    let more = g.G.Guide.spaces c.axioms.new.self in
    spaces_same more more (trail_view tests c.axioms.new.trail)
    (trail_view tests c.propagate.new.self) refl c.propagate.ensures.spaces c.in_ok-axioms.ensures.spaces

pub returns-in_ok-propagate-in-Some-clause-spaces : goal.returns-in_ok-propagate-in-Some-clause-spaces
returns-in_ok-propagate-in-Some-clause-spaces g c =
    let tests = g.S.States.tests in
    let mid = trail_view tests c.decide.new.self in
    let more = g.G.Guide.spaces c.axioms.new.self in
    spaces_same more more mid (trail_view tests c.propagate-in-Some.new.self) refl c.propagate-in-Some.ensures.spaces
    (spaces_same more more
    (trail_view tests c.axioms.new.trail) mid refl c.decide.ensures.spaces c.in_ok-axioms.ensures.spaces)

pub returns-then-branch-clause-counted : goal.returns-then-branch-clause-counted
returns-then-branch-clause-counted g c =
    let tests = g.S.States.tests in
    let adding = c.in_ok-axioms.ensures.adding in
    counts_axioms (entries_view tests c.args.store.now)
    (entries_view tests c.axioms.new.store) adding.gained adding.grown (λ i lt. (adding.of_new i lt).given)
