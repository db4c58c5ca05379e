use Rattle.std.proofs.Common.{◌≡◌, ◌<◌, ◌-◌, ℕ, zero, suc, List, length, sym, ap, subst, arith}
use Rattle.terms.specs.Terms.{TermView, terms_view}
use Rattle.propagation.specs.inner.Counting.{AreRanked, Ranked}
use Rattle.propagation.specs.Trails.{StepView, TrailView, trail_view}
use Rattle.propagation.specs.declared.satisfying.Ranks.{Ranks}
use Rattle.propagation.proofs.Satisfiers.{IsRead, forced_is, opens_is, satisfied_is}
use Rattle.propagation.proofs.Vertices.{step_read}
use Rattle.propagation.proofs.trail.Trail.satisfier.Given.{Over}
use Rattle.propagation.proofs.trail.Trail.satisfier.Goals as goal

ranked_some : (t : TrailView) (ts : List TermView) (n : ℕ) (r : Ranks) → 0 < n → Ranked t ts n r → AreRanked t ts n r
ranked_some t ts zero r some h = absurd (omega (arith, some))
ranked_some t ts (suc n) r some h = h

is_read : (g : Over) (c : goal.After-level_after g) → IsRead (trail_view g.S.States.tests c.args.self.now)
    (terms_view g.S.States.tests c.args.incompatibility.now) c.ranks-ranks.result
    (record {
      place = c.ranks-ranks.result.all - 1;
      vertex = c.index-step.result.now.vertex;
      level =
          c.index-step.result.now.level;
      cause = c.index-step.result.now.forced_by;
      before = c.level_after.result;
    })
is_read g c =
    let tests = g.S.States.tests in
    let t = trail_view tests c.args.self.now in
    let ts = terms_view tests c.args.incompatibility.now in
    let r = c.ranks-ranks.result in
    let ranked : Ranked t ts (length ts) r = subst (λ (us : List TermView). Ranked t us (length us) r)
    (ap (terms_view tests) c.terms.ensures.terms) c.ranks-ranks.ensures in
    let ranks = ranked_some t ts (length ts) r c.requires.some ranked in
    let place : suc (r.all - 1) ≡ r.all = (let some = ranks.some in omega (arith, some)) in
    let lt : r.all - 1 < length t.steps = (let w = ranks.count.within in omega (arith, w, place)) in
    let at =
    step_read tests c.args.self.now.steps.items (r.all - 1) c.index-step.result.now _ lt c.index-step.ensures in
    record {
      sound = c.requires.sound;
      lies = record { is = c.terms.ensures.is; lies = c.requires.lies };
      ranks = ranks;
      place = place;
      vertex = ap (λ (s : StepView). s.vertex) (sym at);
      level = ap (λ (s : StepView). s.level) (sym at);
      cause = ap (λ (s : StepView). s.forced_by) (sym at);
      before = c.level_after.ensures;
    }

pub returns-clause-satisfied : goal.returns-clause-satisfied
returns-clause-satisfied g c = satisfied_is _ _ _ _ (is_read g c)

pub returns-clause-cause : goal.returns-clause-cause
returns-clause-cause g c = forced_is _ _ _ _ (is_read g c)

pub returns-clause-opens : goal.returns-clause-opens
returns-clause-opens g c = opens_is _ _ _ _ (is_read g c)
