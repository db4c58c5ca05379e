-- Entries that no cut wakes: where two terms don't hold, they didn't while more states were left. And how far a store was
-- looked through, with one entry more.
use Rattle.std.proofs.Common.{◌≡◌, ◌≢◌, ℕ, ◌+◌, ◌<◌, ◌≤◌, List, [], ◌∷◌, ◌++◌, length, get_or, sym, ap, ◌∙◌}
use Rattle.std.proofs.Common.{drop, take, Option, None, Some, IfSome, refl, subst, arith, inl, inr}
use Rattle.std.proofs.lemmas.Bool.{cases_eq, cases_lt}
use Rattle.std.proofs.lemmas.List.{append-nil, get_or_append_left, length-append}
use Rattle.std.proofs.Math.Seq.{get_or-append_seam}
use Rattle.std.specs.Bool.{OnTrue}
use Rattle.std.specs.Option.{is_some}
use Rattle.version_sets.specs.Sets.{Members}
use Rattle.terms.specs.Terms.{TermView}
use Rattle.terms.specs.declared.term.Relation.TheVariants.{Satisfied}
use Rattle.incompatibilities.specs.Incompatibilities.{HoldsAt, Terms, states_at}
use Rattle.incompatibilities.specs.Stores.{EntryView, terms_of}
use Rattle.propagation.specs.Trails.{SiftedView, StepView, TrailView, set_of, sets_at, step_at}
use Rattle.propagation.specs.Satisfaction.{IsQuiet, IsStill}
use Rattle.propagation.specs.Promises.{AreSettled, IsSettled, IsSound, IsTrail, Rests}
use Rattle.propagation.specs.inner.Units.{IsFrailer, IsSpread, LiesOn, relation_at, term_at, work}
use Rattle.propagation.proofs.Back.{sets_now}
use Rattle.propagation.proofs.Places.{holds_later}
use Rattle.propagation.proofs.Vertices.{holds_of, one_place}

-- two terms that aren't satisfied
still_from : (sets : List Members) (t : TrailView) (ts : List TermView) (i k : ℕ) → LiesOn t ts → i < k
    → k < length ts → relation_at sets ts i ≢ Satisfied → relation_at sets ts k ≢ Satisfied
    → IsStill sets (states_at ts)
still_from sets t ts i k on ik lt first second =
    let il : i < length ts = omega (arith, ik, lt) in
    record {
      first = (term_at ts i).vertex;
      second = (term_at ts k).vertex;
      two = λ e. let same = one_place ts i k on.is.rising il lt e in omega (arith, ik, same);
      not_first = λ h. first (holds_of sets ts i on.is.rising il h);
      not_second = λ h. second (holds_of sets ts k on.is.rising lt h);
    }

pub still_if : (sets : List Members) (t : TrailView) (ts : List TermView) (k : ℕ) (r : Option ℕ) → LiesOn t ts
    → k < length ts → relation_at sets ts k ≢ Satisfied
    → IfSome r (λ i. (i < k) × (relation_at sets ts i ≢ Satisfied)) → OnTrue (is_some r) (IsStill sets (states_at ts))
still_if sets t ts k None on lt second one = tt
still_if sets t ts k (Some i) on lt second one = still_from sets t ts i k on one.0 lt one.1 second

pub still_quiet : (sets : List Members) (f : Terms) → IsStill sets f → IsQuiet sets f
still_quiet sets f s = record {
  not_all = λ sat. s.not_first (sat s.first);
  not_one = λ v x o. elim (cases_eq s.first v) [
    | inl e ↦ s.not_second (o.others s.second (λ h. s.two (e ∙ sym h)))
    | inr ne ↦ s.not_first (o.others s.first ne)
  ];
}

pub still_before : (t : TrailView) → IsSound t → (f : Terms) (k : ℕ) → k ≤ length t.steps → IsStill t.sets f
    → IsStill (sets_at t k) f
still_before t sound f k le s = record {
  first = s.first;
  second = s.second;
  two = s.two;
  not_first = λ h. s.not_first (later s.first h);
  not_second = λ h. s.not_second (later s.second h);
}
  where
    later : (u : ℕ) → HoldsAt (set_of (sets_at t k) u) (f u) → HoldsAt (set_of t.sets u) (f u)
    later u h = subst (λ (ss : List Members). HoldsAt (set_of ss u) (f u)) (sets_now t)
        (holds_later t sound u k (length t.steps) le (omega arith) (f u) h)

-- one entry more was looked through
abbrev with_still : SiftedView → SiftedView
with_still f = record { seen = f.seen + 1; frail = f.frail }

abbrev with_frail : SiftedView → SiftedView
with_frail f = record { seen = f.seen + 1; frail = f.frail ++ f.seen ∷ [] }

one_still : (es : List EntryView) (f : SiftedView) (a c : ℕ) (ss : List StepView) (xs : List Members)
    → f.seen < length es → IsStill xs (terms_of es f.seen) → IsSettled es f a c ss xs
    → IsSettled es (with_still f) a c ss xs
one_still es f a c ss xs lt still s = record {
  few = omega (arith, lt);
  settled_few = s.settled_few;
  low = s.low;
  rest = λ id done. let seen = done.seen in elim (cases_lt id f.seen) [
    | inl less ↦ s.rest id (record { seen = less; past = done.past })
    | inr ge ↦ let same : f.seen ≡ id = omega (arith, seen, ge) in
        subst (Rests es xs (drop c ss)) same (λ none. still_quiet xs (terms_of es f.seen) still)
  ];
}

one_frail : (es : List EntryView) (f : SiftedView) (a c : ℕ) (ss : List StepView) (xs : List Members)
    → f.seen < length es → IsSettled es f a c ss xs → IsSettled es (with_frail f) a c ss xs
one_frail es f a c ss xs lt s = record {
  few = omega (arith, lt);
  settled_few = (let b = s.settled_few in omega (arith, b, more));
  low = s.low;
  rest = λ id done. let seen = done.seen in elim (cases_lt id f.seen) [
    | inl less ↦ s.rest id (record {
      seen = less;
      past = λ j le jl e. done.past j le (omega (arith, jl, more))
          (get_or_append_left f.frail (f.seen ∷ []) 0 j jl ∙ e);
    })
    | inr ge ↦ let same : f.seen ≡ id = omega (arith, seen, ge) in
        absurd (done.past (length f.frail) s.settled_few (omega (arith, more)) (get_or-append_seam f.frail f.seen [] 0 ∙ same))
  ];
}
  where
    more : length (f.frail ++ f.seen ∷ []) ≡ length f.frail + 1
    more = length-append f.frail (f.seen ∷ []) ∙ omega arith

-- the same trail, with its store looked through so far
abbrev pub with_sifted : TrailView → SiftedView → TrailView
with_sifted t f = record {
  sets = t.sets;
  steps = t.steps;
  latest = t.latest;
  level = t.level;
  assigned = t.assigned;
  settled = t.settled;
  propagated = t.propagated;
  fronts = t.fronts;
  sifted = f;
}

settled_still : (es : List EntryView) (t : TrailView) → IsSound t → t.sifted.seen < length es
    → IsStill t.sets (terms_of es t.sifted.seen) → AreSettled es t → AreSettled es (with_sifted t (with_still t.sifted))
settled_still es t sound lt still a = record {
  below = λ j jl. let b = a.below j jl in omega (arith, b);
  now = one_still es t.sifted t.settled t.propagated t.steps t.sets lt still a.now;
  before = λ k kl. one_still es t.sifted (step_at t.steps k).settled (step_at t.steps k).propagated (take k t.steps)
      (sets_at t k) lt (still_before t sound (terms_of es t.sifted.seen) k (omega (arith, kl)) still) (a.before k kl);
}

settled_frail : (es : List EntryView) (t : TrailView) → t.sifted.seen < length es → AreSettled es t
    → AreSettled es (with_sifted t (with_frail t.sifted))
settled_frail es t lt a = record {
  below = λ j jl. elim (cases_lt j (length t.sifted.frail)) [
    | inl less ↦
        let b = a.below j less in
        omega (arith, b, get_or_append_left t.sifted.frail (t.sifted.seen ∷ []) 0 j less)
    | inr ge ↦
        let last : length t.sifted.frail ≡ j =
        omega (arith, ge, jl, length-append t.sifted.frail (t.sifted.seen ∷ [])) in
        omega (
          arith,
          ap (λ n. get_or (t.sifted.frail ++ t.sifted.seen ∷ []) n 0) (sym last)
              ∙ get_or-append_seam t.sifted.frail t.sifted.seen [] 0,
        )
  ];
  now = one_frail es t.sifted t.settled t.propagated t.steps t.sets lt a.now;
  before = λ k kl. one_frail es t.sifted (step_at t.steps k).settled (step_at t.steps k).propagated (take k t.steps)
      (sets_at t k) lt (a.before k kl);
}

sifted_spread : (es : List EntryView) (t : TrailView) (f : SiftedView) → IsTrail es t → AreSettled es (with_sifted t f)
    → IsFrailer t.sifted f → IsSpread es t (with_sifted t f) []
sifted_spread es t f trail settled more = record {
  trail = record {
    sound = record {
      starts = trail.sound.starts;
      levels = trail.sound.levels;
      places = trail.sound.places;
      long = trail.sound.long;
      latest = trail.sound.latest;
    };
    lies = trail.lies;
    forced = trail.forced;
    settled = settled;
    fronts = record { long = trail.fronts.long; front = trail.fronts.front };
  };
  longer = record { steps = sym (append-nil t.steps); sets = refl; latest = refl; fronts = refl };
  level = refl;
  levels = tt;
  none_decided = tt;
  spent = omega arith;
  assigned = refl;
  follows = λ x none agrees. agrees;
  sifted = more;
}

abbrev pub IsSift : List EntryView → TrailView → TrailView → ℕ → List ℕ → Type 0
IsSift es old t seen frail =
    IsSpread es old (with_sifted t (record { seen = seen; frail = frail })) []
    × (work es (with_sifted t (record { seen = seen; frail = frail })) < work es old)

pub sift_still : (es : List EntryView) (t : TrailView) (seen : ℕ) → IsTrail es t → t.sifted.seen < length es
    → seen ≡ t.sifted.seen + 1 → IsStill t.sets (terms_of es t.sifted.seen) → IsSift es t t seen t.sifted.frail
sift_still es t seen trail lt next still = subst (λ n. IsSift es t t n t.sifted.frail) (sym next) (
  sifted_spread es t (with_still t.sifted) trail (settled_still es t trail.sound lt still trail.settled)
      ([], sym (append-nil t.sifted.frail)),
  omega (arith, lt),
)

pub sift_frail : (es : List EntryView) (t : TrailView) (seen : ℕ) (frail : List ℕ) → IsTrail es t
    → t.sifted.seen < length es → seen ≡ t.sifted.seen + 1 → frail ≡ t.sifted.frail ++ t.sifted.seen ∷ []
    → IsSift es t t seen frail
sift_frail es t seen frail trail lt next pushed = subst (λ n. IsSift es t t n frail) (sym next)
    (subst (IsSift es t t (t.sifted.seen + 1)) (sym pushed) (
      sifted_spread es t (with_frail t.sifted) trail (settled_frail es t lt trail.settled) (t.sifted.seen ∷ [], refl),
      (let few = trail.settled.now.settled_few in
          omega (arith, lt, few, length-append t.sifted.frail (t.sifted.seen ∷ []))),
    ))
