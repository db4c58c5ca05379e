-- The store with what was learned, and what that says of a trail.
use Rattle.std.proofs.Common.{◌≡◌, ℕ, ◌+◌, ◌-◌, ◌<◌, ◌≤◌, ◌⊎◌, true, false, nat_lt, List, [], ◌++◌, length}
use Rattle.std.proofs.Common.{Option, Some, None}
use Rattle.std.proofs.Common.{refl, sym, ap, ap₂, append_assoc, ◌∙◌, subst, arith, inl, inr}
use Rattle.std.proofs.lemmas.Bool.{cases_lt}
use Rattle.std.proofs.lemmas.List.{append-nil, get_or_append_left, length-append}
use Rattle.std.proofs.Math.Seq.{get_or-append_seam}
use Rattle.terms.specs.Terms.{TermView}
use Rattle.version_sets.specs.Sets.{Members}
use Rattle.incompatibilities.specs.inner.Chains.{ChainView}
use Rattle.incompatibilities.specs.Incompatibilities.{LiesIn, states_at}
use Rattle.incompatibilities.specs.Stores.{ComesOut, EntryView, Follows, IsAxiom, entry, terms_of}
use Rattle.incompatibilities.specs.declared.origin.Origin.TheVariants.{Axiom}
use Rattle.incompatibilities.specs.declared.origin.Origin.TheVariants as origins
use Rattle.incompatibilities.proofs.Storing.{out_grown}
use Rattle.propagation.specs.Promises.{IsTrail, LieIn}
use Rattle.propagation.specs.Satisfaction.{IsOneOpen, Sat}
use Rattle.propagation.specs.Trails.{TrailView, end_sets, space_of}
use Rattle.propagation.specs.declared.satisfying.Satisfier.{Satisfier}
use Rattle.propagation.proofs.Places.{cut_sets}
use Rattle.propagation.proofs.Soundness.{trail_grown}
use Rattle.conflicts.specs.Resolving.{Ends, IsGained, IsHeld, IsKept, IsLesson, IsLone, Quiet, Teaches, farthest}
use Rattle.conflicts.specs.Resolving.{level_for, outcome_of}
use Rattle.conflicts.proofs.Steps.{least_is, level_low, open_at}

abbrev empty : EntryView
empty = record { terms = []; origin = Axiom 0 }

-- ---- what is kept

module _ (es : List EntryView) (t : TrailView) (ts : List TermView) (chain : ChainView) (new : List EntryView)
    (made : ℕ) (trail : IsTrail es t) (held : IsHeld es t ts chain) (lone : Quiet es t t.level → IsLone t ts)
    (kept : IsKept es ts chain new made) where
  abbrev last : EntryView
  last = record { terms = ts; origin = origins.Learned chain }

  long : length new ≡ length es + length kept.gained
  long = ap length kept.grown ∙ length-append es kept.gained

  earlier : (i : ℕ) → i < length es → entry new i ≡ entry es i
  earlier i less = ap (λ (xs : List EntryView). entry xs i) kept.grown ∙ get_or_append_left es kept.gained empty i less

  later : (i : ℕ) → length es ≤ i → i < length new → entry new i ≡ last
  later i ge lt = elim kept.new_one [
    | inl none ↦ absurd (omega (arith, ge, lt, long, ap length none))
    | inr one ↦
        let at : i ≡ length es = omega (arith, ge, lt, long, ap length one.1) in
        ap₂ (λ (xs : List EntryView) n. entry xs n) (kept.grown ∙ ap (λ (ys : List EntryView). es ++ ys) one.1) at
        ∙ get_or-append_seam es last [] empty
  ]

  -- each entry of the store is an earlier one or says what was learned
  by_id : (P : List TermView → Type 0) → ((i : ℕ) → i < length es → P (entry es i).terms) → P ts → (i : ℕ)
      → i < length new → P (entry new i).terms
  by_id P was here i lt = elim (cases_lt i (length es)) [
    | inl less ↦ subst (λ (e : EntryView). P e.terms) (sym (earlier i less)) (was i less)
    | inr ge ↦ subst (λ (e : EntryView). P e.terms) (sym (later i ge lt)) here
  ]

  lies_new : LieIn t new
  lies_new = by_id (λ us. LiesIn (space_of t) (states_at us)) trail.lies held.lies

  pub trail_new : IsTrail new t
  trail_new = subst (λ (xs : List EntryView). IsTrail xs t) (sym kept.grown)
      (trail_grown es kept.gained t trail (subst (λ (xs : List EntryView). LieIn t xs) kept.grown lies_new))

  pub gained_is : (gained : List EntryView) × IsGained es t new gained
  gained_is = (
    kept.gained,
    record {
      grown = kept.grown;
      learned = λ i ge lt. subst (λ (e : EntryView). ¬ IsAxiom e.origin) (sym (later i ge lt)) (λ h. h);
      quiet = λ quiet l lt. by_id (λ us. ¬ Sat (end_sets t l) (states_at us)) (quiet l lt) (lone quiet l lt);
    },
  )

pub few_is : (old es : List EntryView) (t : TrailView) (ts : List TermView) (chain : ChainView)
    (found : Option Satisfier) (new : List EntryView) (made : ℕ) → IsLesson es t ts chain found
    → IsKept es ts chain new made → length es ≤ length old + (length t.steps - 1)
    → length new ≤ length old + length t.steps
few_is old es t ts chain found new made lesson kept few = elim kept.new_one [
  | inl none ↦ omega (arith, few, ap length kept.grown, length-append es kept.gained, ap length none)
  | inr one ↦ elim lesson.some [
    | inl no_link ↦ absurd (let some = one.0 in omega (arith, some, ap length no_link))
    | inr step ↦ omega (arith, few, step, ap length kept.grown, length-append es kept.gained, ap length one.1)
  ]
]

-- the level that a jump goes back to
level_is : (s : Satisfier) → s.before < s.level → (s.before ≤ level_for s) × (level_for s < s.level)
    × ((level_for s + farthest ≤ s.level) ⊎ (level_for s ≡ s.before))
level_is s lt = elim (cases_lt s.before (s.level - farthest)) [
  | inl less ↦ let is : nat_lt s.before (s.level - farthest) ≡ true = grind (arith, less) in
      rw is (omega (arith, less), omega (arith, less), inl (omega (arith, less)))
  | inr le ↦ let is : nat_lt s.before (s.level - farthest) ≡ false = grind (arith, le) in
      rw is (omega arith, lt, inr refl)
]

pub teaches_is : (es : List EntryView) (t : TrailView) (ts : List TermView) (chain : ChainView)
    (found : Option Satisfier) (new : List EntryView) (made : ℕ) → IsTrail es t → IsLesson es t ts chain found
    → Ends found → IsKept es ts chain new made → Follows new (terms_of new made)
    → Teaches new t (outcome_of made found)
teaches_is es t ts chain None new made trail lesson ends kept follows = record {
  within = kept.within;
  follows = follows;
  none = kept.terms ∙ (lesson.here es trail).satisfier;
  stays = refl;
}
teaches_is es t ts chain (Some s) new made trail lesson ends kept follows =
    let found = (lesson.here es trail).satisfier in
    let low = level_low es t ts s trail.sound found in
    let back = level_for s in
    let at : (s.before ≤ back) × (back < s.level) × ((back + farthest ≤ s.level) ⊎ (back ≡ s.before)) =
    level_is s ends in
    let one = open_at es t ts s trail.sound found back at.0 at.1 in (
      (let lt = at.1 in omega (arith, lt, low)),
      λ cut_trail gone cut. record {
        within = kept.within;
        follows = follows;
        lower = (let lt = at.1 in omega (arith, lt, low));
        gone = gone;
        cut = cut;
        vertex = s.vertex;
        states = one.0;
        one = subst (λ (us : List TermView). IsOneOpen cut_trail.sets (states_at us) s.vertex one.0) (sym kept.terms)
            (subst (λ (ss : List Members). IsOneOpen ss (states_at ts) s.vertex one.0)
            (cut_sets back t cut_trail gone cut) one.1);
        least = elim at.2 [
          | inl far ↦ inl (omega (arith, far, low))
          | inr is ↦ inr (λ l less v x o. least_is es t ts s trail.sound found ends l (omega (arith, less, is)) v x
              (subst (λ (us : List TermView). IsOneOpen (end_sets t l) (states_at us) v x) kept.terms o))
        ];
      },
    )

-- ---- what a store gains

pub gained_again : (a b c : List EntryView) (t : TrailView) (one : (gained : List EntryView) × IsGained a t b gained)
    → (two : (gained : List EntryView) × IsGained b t c gained) → (gained : List EntryView) × IsGained a t c gained
gained_again a b c t one two = (
  one.0 ++ two.0,
  record {
    grown = two.1.grown ∙ ap (λ (xs : List EntryView). xs ++ two.0) one.1.grown ∙ append_assoc a one.0 two.0;
    learned = λ i ge lt. elim (cases_lt i (length b)) [
      | inl less ↦ subst (λ (e : EntryView). ¬ IsAxiom e.origin)
          (sym (ap (λ (xs : List EntryView). entry xs i) two.1.grown ∙ get_or_append_left b two.0 empty i less))
          (one.1.learned i ge less)
      | inr le ↦ two.1.learned i le lt
    ];
    quiet = λ quiet. two.1.quiet (one.1.quiet quiet);
  },
)

-- what came out of a chain still does
pub held_grown : (es : List EntryView) (t : TrailView) (new gained : List EntryView) (ts : List TermView)
    (chain : ChainView) → new ≡ es ++ gained → IsHeld es t ts chain → IsHeld new t ts chain
held_grown es t new gained ts chain grown held = record {
  first = omega (arith, first, longer);
  comes_out = subst (λ us. ComesOut new (length new) us chain.links ts)
      (ap (λ (e : EntryView). e.terms) (same chain.first first))
      (out_grown es new (length es) (length new) (entry es chain.first).terms chain.links ts longer
      same held.comes_out);
  lies = held.lies;
}
  where
    first : chain.first < length es
    first = held.first

    longer : length es ≤ length new
    longer = omega (arith, ap length grown, length-append es gained)

    same : (i : ℕ) → i < length es → entry es i ≡ entry new i
    same i lt = sym (ap (λ (xs : List EntryView). entry xs i) grown ∙ get_or_append_left es gained empty i lt)

pub quiet_less : (es : List EntryView) (t : TrailView) (new gained : List EntryView) → new ≡ es ++ gained
    → Quiet new t t.level → Quiet es t t.level
quiet_less es t new gained grown quiet l lt id within sat =
    quiet l lt id (omega (arith, within, ap length grown, length-append es gained))
    (subst (λ (e : EntryView). Sat (end_sets t l) (states_at e.terms))
    (sym (ap (λ (xs : List EntryView). entry xs id) grown ∙ get_or_append_left es gained empty id within)) sat)

pub lesson_grown : (es : List EntryView) (t : TrailView) (new gained : List EntryView) (ts : List TermView)
    (chain : ChainView) (found : Option Satisfier) → new ≡ es ++ gained → IsLesson es t ts chain found
    → IsLesson new t ts chain found
lesson_grown es t new gained ts chain found grown lesson = record {
  held = held_grown es t new gained ts chain grown lesson.held;
  some = lesson.some;
  lone = λ quiet. lesson.lone (quiet_less es t new gained grown quiet);
  here = lesson.here;
}

-- nothing was put
pub gained_none : (es : List EntryView) (t : TrailView) (new : List EntryView) → new ≡ es
    → (gained : List EntryView) × IsGained es t new gained
gained_none es t new same = (
  [],
  record {
    grown = same ∙ sym (append-nil es);
    learned = λ i ge lt. absurd (omega (arith, ge, lt, ap length same));
    quiet = subst (λ (xs : List EntryView). Quiet xs t t.level) (sym same);
  },
)

-- a satisfied entry still is
pub sat_grown : (es : List EntryView) (t : TrailView) (new gained : List EntryView) (id : ℕ) → new ≡ es ++ gained
    → id < length es → Sat t.sets (terms_of es id) → (id < length new) × Sat t.sets (terms_of new id)
sat_grown es t new gained id grown within sat = (
  omega (arith, within, ap length grown, length-append es gained),
  subst (λ (e : EntryView). Sat t.sets (states_at e.terms))
      (sym (ap (λ (xs : List EntryView). entry xs id) grown ∙ get_or_append_left es gained empty id within)) sat,
)
