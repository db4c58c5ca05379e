-- After how many places a term came to be satisfied, by the links of its vertex.
use Rattle.std.proofs.Common.{◌≡◌, ◌≢◌, ℕ, zero, suc, ◌<◌, ◌≤◌, true, false, List, length, get_or, take, Option, Some}
use Rattle.std.proofs.Common.{None, sym, ap, ◌∙◌, subst, arith}
use Rattle.std.proofs.lemmas.Bool.{true≢false}
use Rattle.std.proofs.lemmas.List.{get_or-take, length-take-le}
use Rattle.version_sets.specs.Sets.{Members, every, inside, is_full}
use Rattle.version_sets.proofs.Laws.{size-le}
use Rattle.propagation.specs.Trails.{StepView, TrailView, no_step, set_of, sets_at, space_of, step_at}
use Rattle.incompatibilities.specs.Incompatibilities.{HoldsAt}
use Rattle.propagation.specs.Promises.{IsSound, LatestOf}
use Rattle.propagation.specs.inner.Counting.{IsCount}
use Rattle.propagation.proofs.Back.{latest_now, sets_now}
use Rattle.propagation.proofs.Places.{linked, shrinks, some_at, unchanged}
use Rattle.propagation.proofs.SetLemmas.{full_inside, inside_through}
use Rattle.propagation.proofs.Soundness.{same_space}

-- how far a link leads
abbrev pub reach : Option ℕ → ℕ
reach None = 0
reach (Some p) = suc p

-- on the way back: a term on a vertex holds after some places, of which the link is the last on it
pub record IsOnWay (t : TrailView) (v : ℕ) (x : Members) (link : Option ℕ) : Type 0 where
  pub at : ℕ
  pub within : at ≤ length t.steps
  pub latest : LatestOf (take at t.steps) v link
  pub holds : inside (set_of (sets_at t at) v) x ≡ true

pub way_start : (t : TrailView) (v : ℕ) (x : Members) → IsSound t → v < length t.sets
    → HoldsAt (set_of t.sets v) (Some x) → IsOnWay t v x (get_or t.latest v None)
way_start t v x sound lt holds = record {
  at = length t.steps;
  within = omega arith;
  latest = subst (λ (ls : List (Option ℕ)). LatestOf (take (length t.steps) t.steps) v (get_or ls v None))
      (latest_now t) (sound.latest (length t.steps) v (omega arith) lt);
  holds = subst (λ (ss : List Members). inside (set_of ss v) x ≡ true) (sym (sets_now t)) holds.1;
}

module _ (t : TrailView) (v : ℕ) (x : Members) (sound : IsSound t) (p : ℕ) (way : IsOnWay t v x (Some p)) where
  early : p < way.at
  early = omega (arith, way.latest.0, length-take-le way.at t.steps way.within)

  pub way_within : p < length t.steps
  way_within = let w = way.within in omega (arith, early, w)

  pub way_on : (step_at t.steps p).vertex ≡ v
  way_on = ap (λ (s : StepView). s.vertex) (sym (get_or-take way.at t.steps p no_step early)) ∙ way.latest.1

  pub way_before : (step_at t.steps p).before ≡ set_of (sets_at t p) v
  way_before = (sound.places p way_within).before ∙ ap (set_of (sets_at t p)) way_on

  pub way_long : length (step_at t.steps p).before ≡ space_of t v
  way_long = ap length way_before ∙ same_space t sound p (let w = way_within in omega (arith, w)) v

  pub way_back : inside (step_at t.steps p).before x ≡ true → IsOnWay t v x (step_at t.steps p).previous
  way_back h = record {
    at = p;
    within = (let w = way_within in omega (arith, w));
    latest = subst (λ w. LatestOf (take p t.steps) w (step_at t.steps p).previous) way_on (linked t sound p way_within);
    holds = subst (λ s. inside s x ≡ true) way_before h;
  }

  after_place : inside (set_of (sets_at t (suc p)) v) x ≡ true
  after_place = subst (λ s. inside s x ≡ true) (unchanged t sound v (suc p) way.at early way.within none) way.holds
    where
      none : (i : ℕ) → suc p ≤ i → i < way.at → (step_at t.steps i).vertex ≢ v
      none i low high e = way.latest.2 i low (omega (arith, high, length-take-le way.at t.steps way.within))
          (ap (λ (s : StepView). s.vertex) (get_or-take way.at t.steps i no_step high) ∙ e)

  pub count_here : 0 < space_of t v → inside (step_at t.steps p).before x ≡ false → IsCount t v x (suc p)
  count_here some h = record {
    within = way_within;
    holds = λ k low high. (
      some_at t sound v k high some,
      inside_through (set_of (sets_at t k) v)
          (set_of (sets_at t (suc p)) v) x (shrinks t sound v (suc p) k low high) after_place,
    );
    first = λ k lt held. true≢false (sym (inside_through (set_of (sets_at t p) v) (set_of (sets_at t k) v) x
        (shrinks t sound v k p (omega (arith, lt)) (let w = way_within in omega (arith, w))) held.1)
        ∙ ap (λ s. inside s x) (sym way_before) ∙ h);
    on = λ q e. let same : p ≡ q = omega (arith, e) in subst (λ m. (step_at t.steps m).vertex ≡ v) same way_on;
  }

pub count_none : (t : TrailView) (v : ℕ) (x : Members) → IsSound t → 0 < space_of t v
    → IsOnWay t v x None → IsCount t v x 0
count_none t v x sound some way = record {
  within = omega arith;
  holds = λ k low high. (
    some_at t sound v k high some,
    inside_through (set_of (sets_at t k) v) (set_of (sets_at t 0) v) x (shrinks t sound v 0 k low high) begin,
  );
  first = λ k lt. absurd (omega (arith, lt));
  on = λ q e. absurd (omega (arith, e));
}
  where
    none : (i : ℕ) → 0 ≤ i → i < way.at → (step_at t.steps i).vertex ≢ v
    none i low high e = way.latest i (omega (arith, high, length-take-le way.at t.steps way.within))
        (ap (λ (s : StepView). s.vertex) (get_or-take way.at t.steps i no_step high) ∙ e)

    begin : inside (set_of (sets_at t 0) v) x ≡ true
    begin = subst (λ s. inside s x ≡ true) (unchanged t sound v 0 way.at (omega arith) way.within none) way.holds

-- a set that isn't empty has a universe that isn't
pub some_space : (t : TrailView) (v : ℕ) (x : Members) → HoldsAt (set_of t.sets v) (Some x) → 0 < space_of t v
some_space t v x h = omega (arith, h.0, size-le (set_of t.sets v))

-- a term that isn't full isn't satisfied at the start
pub count_some : (t : TrailView) (v : ℕ) (x : Members) (n : ℕ) → IsSound t → length x ≡ space_of t v → is_full x ≡ false
    → IsCount t v x n → 0 < n
count_some t v x zero sound fits lacks count =
    let h = (count.holds 0 (omega arith) (omega arith)).1 in
    absurd (true≢false (sym (full_inside x (subst (λ n. inside (every n) x ≡ true) (sym fits)
    (subst (λ s. inside s x ≡ true) (sound.starts v) h))) ∙ lacks))
count_some t v x (suc n) sound fits lacks count = omega arith

reach_below : (t : TrailView) (v p : ℕ) (o : Option ℕ) → p ≤ length t.steps
    → LatestOf (take p t.steps) v o → reach o ≤ p
reach_below t v p None le h = omega arith
reach_below t v p (Some q) le h = omega (arith, h.0, length-take-le p t.steps le)

-- a link leads to a lower place
pub reach_less : (t : TrailView) → IsSound t → (p : ℕ) → p < length t.steps → reach (step_at t.steps p).previous ≤ p
reach_less t sound p lt =
    reach_below t (step_at t.steps p).vertex p (step_at t.steps p).previous (omega (arith, lt)) (linked t sound p lt)
