use Rattle.std.proofs.Common.{◌≡◌, ◌<◌, ◌≤◌, ◌+◌, suc, None, Some, length, get_or, true, false, sym, ap, ◌∙◌}
use Rattle.std.proofs.Common.{subst, arith}
use Rattle.std.proofs.lemmas.List.{get_or_default}
use Rattle.version_sets.specs.Sets.{inside}
use Rattle.propagation.specs.inner.Counting.{IsCount}
use Rattle.propagation.specs.Trails.{StepView, step_at, trail_view}
use Rattle.propagation.proofs.Counts.{IsOnWay, count_here, count_none, reach, reach_less, some_space, way_back}
use Rattle.propagation.proofs.Counts.{way_long, way_start, way_within}
use Rattle.propagation.proofs.Vertices.{step_read}
use Rattle.propagation.proofs.trail.Trail.places_of.Goals as goal

pub back-init : goal.back-init
back-init g c =
    let t = trail_view g.S.States.tests c.args.self.now in
    let v = c.args.term.now.vertex in
    let link : c.index-link.result.now ≡ get_or t.latest v None = c.index-link.ensures
    ∙ get_or_default t.latest v _ None (omega (arith, c.requires.vertex, c.requires.sound.long)) in
    subst (IsOnWay t v (g.S.States.tests c.args.term.now.states)) (sym link)
    (way_start t v (g.S.States.tests c.args.term.now.states) c.requires.sound c.requires.vertex c.requires.holds)

pub subset-requires : goal.subset-requires
subset-requires g c =
    let tests = g.S.States.tests in
    let t = trail_view tests c.args.self.now in
    let p = c.in-Some.place in
    let way : IsOnWay t c.args.term.now.vertex (tests c.args.term.now.states) (Some p) =
    subst (IsOnWay t c.args.term.now.vertex (tests c.args.term.now.states)) c.in-Some.is c.back.invariant in
    let at = step_read tests c.args.self.now.steps.items p c.index.result.now _
    (way_within t c.args.term.now.vertex (tests c.args.term.now.states) c.requires.sound p way) c.index.ensures in
    ap (λ (s : StepView). length s.before) (sym at)
    ∙ way_long t c.args.term.now.vertex (tests c.args.term.now.states) c.requires.sound p way ∙ sym c.requires.fits

pub returns-then-not-subset : goal.returns-then-not-subset
returns-then-not-subset g c =
    let tests = g.S.States.tests in
    let t = trail_view tests c.args.self.now in
    let v = c.args.term.now.vertex in
    let x = tests c.args.term.now.states in
    let p = c.in-Some.place in
    let way : IsOnWay t v x (Some p) = subst (IsOnWay t v x) c.in-Some.is c.back.invariant in
    let at = step_read tests c.args.self.now.steps.items p c.index.result.now _
    (way_within t v x c.requires.sound p way) c.index.ensures in
    let out : inside (step_at t.steps p).before x ≡ false =
    ap (λ (s : StepView). inside s.before x) at ∙ sym c.subset.ensures ∙ c.if-not-subset.true in
    let next : suc p ≡ p + 1 = omega arith in
    subst (IsCount t v x) next (count_here t v x c.requires.sound p way (some_space t v x c.requires.holds) out)

pub back-preserved : goal.back-preserved
back-preserved g c =
    let tests = g.S.States.tests in
    let t = trail_view tests c.args.self.now in
    let v = c.args.term.now.vertex in
    let x = tests c.args.term.now.states in
    let p = c.in-Some.place in
    let way : IsOnWay t v x (Some p) = subst (IsOnWay t v x) c.in-Some.is c.back.invariant in
    let within = way_within t v x c.requires.sound p way in
    let at = step_read tests c.args.self.now.steps.items p c.index.result.now _ within c.index.ensures in
    let again =
    step_read tests c.args.self.now.steps.items p c.index-in-Some.result.now _ within c.index-in-Some.ensures in
    let into : inside (step_at t.steps p).before x ≡ true =
    ap (λ (s : StepView). inside s.before x) at ∙ sym c.subset.ensures ∙ c.if-not-subset.false in
    subst (IsOnWay t v x) (ap (λ (s : StepView). s.previous) again) (way_back t v x c.requires.sound p way into)

pub back-smaller : goal.back-smaller
back-smaller g c =
    let tests = g.S.States.tests in
    let t = trail_view tests c.args.self.now in
    let v = c.args.term.now.vertex in
    let x = tests c.args.term.now.states in
    let p = c.in-Some.place in
    let way : IsOnWay t v x (Some p) = subst (IsOnWay t v x) c.in-Some.is c.back.invariant in
    let within = way_within t v x c.requires.sound p way in
    let again =
    step_read tests c.args.self.now.steps.items p c.index-in-Some.result.now _ within c.index-in-Some.ensures in
    let less : reach c.index-in-Some.result.now.previous ≤ p =
    subst (λ (s : StepView). reach s.previous ≤ p) again (reach_less t c.requires.sound p within) in
    let here : reach c.back.link ≡ suc p = ap reach c.in-Some.is in
    let lt : reach c.index-in-Some.result.now.previous < reach c.back.link = omega (arith, less, here) in
    lt

pub returns : goal.returns
returns g c =
    let t = trail_view g.S.States.tests c.args.self.now in
    let v = c.args.term.now.vertex in
    let x = g.S.States.tests c.args.term.now.states in
    count_none t v x c.requires.sound (some_space t v x c.requires.holds)
    (subst (IsOnWay t v x) c.in_default.is c.back.invariant)
