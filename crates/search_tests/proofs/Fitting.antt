-- Terms that come one by one at rising vertices, and a trail that meets a store after each call.
use Rattle.std.proofs.Common.{◌≡◌, ◌≢◌, ℕ, zero, suc, ◌+◌, ◌≤◌, ◌⊎◌, Bool, true, false, cond, eqb, List, [], ◌∷◌, ◌++◌}
use Rattle.std.proofs.Common.{length, Option, Some, None, refl, sym, ap, ◌∙◌, subst, arith, inl, inr}
use Rattle.std.proofs.lemmas.Bool.{cases_eq, cases_lt, ne_eqb}
use Rattle.std.proofs.lemmas.List.{get_or_append_left, length-append, length-replicate}
use Rattle.std.proofs.lemmas.Option.{same_Some}
use Rattle.version_sets.specs.Sets.{Members, every}
use Rattle.terms.specs.Terms.{TermView}
use Rattle.incompatibilities.specs.Incompatibilities.{LiesIn, OneEach, states_at, terms_on}
use Rattle.incompatibilities.specs.Stores.{EntryView, entry}
use Rattle.incompatibilities.specs.declared.origin.Origin.TheVariants.{Axiom}
use Rattle.incompatibilities.proofs.Lookups.{at_first, at_later, or_else, states_at-append}
use Rattle.propagation.specs.Promises.{IsNew, IsTrail, LieIn, SameSpaces}
use Rattle.propagation.specs.Trails.{TrailView, set_of, space_of}
use Rattle.propagation.specs.inner.Widening.{IsWider}
use Rattle.propagation.proofs.Soundness.{trail_grown}
use Rattle.search_tests.specs.inner.Meeting.{AreSmall, IsMeeting, universe_at}

-- the terms so far, all at vertices below a number
pub record AreSoFar (space : ℕ → ℕ) (low : ℕ) (ts : List TermView) : Type 0 where
  pub one : OneEach ts
  pub past : (v : ℕ) → low ≤ v → terms_on v ts ≡ 0
  pub lies : LiesIn space (states_at ts)

abbrev here : ℕ → TermView → ℕ
here v t = cond (eqb t.vertex v) 1 0

on_append : (v : ℕ) (ts : List TermView) (t : TermView) → terms_on v (ts ++ t ∷ []) ≡ terms_on v ts + here v t
on_append v [] t = omega arith
on_append v (x ∷ ts) t = omega (arith, on_append v ts t)

at_most : (b : Bool) → cond b 1 0 ≤ 1
at_most true = omega arith
at_most false = omega arith

elsewhere : (v : ℕ) (t : TermView) → t.vertex ≢ v → here v t ≡ 0
elsewhere v t o = rw (ne_eqb t.vertex v o) refl

either : (o p : Option Members) (s : Members) → or_else o p ≡ Some s → (o ≡ Some s) ⊎ (p ≡ Some s)
either None p s e = inr e
either (Some x) p s e = inl e

alone : (t : TermView) (u : ℕ) (s : Members) → states_at (t ∷ []) u ≡ Some s → (t.vertex ≡ u) × (t.states ≡ s)
alone t u s e = elim (cases_eq t.vertex u) [
  | inl h ↦ (h, same_Some t.states s (sym (at_first t [] u h) ∙ e))
  | inr o ↦ (let clash : None ≡ Some s = sym (at_later t [] u o) ∙ e in cc)
]

pub one_more : (space : ℕ → ℕ) (low next : ℕ) (ts : List TermView) (t : TermView) → AreSoFar space low ts
    → low ≤ t.vertex → next ≡ t.vertex + 1 → length t.states ≡ space t.vertex → AreSoFar space next (ts ++ t ∷ [])
one_more space low next ts t far le is fits = record {
  one = λ v. elim (cases_eq t.vertex v) [
    | inl h ↦ omega (arith, on_append v ts t, far.past v (omega (arith, le, h)), at_most (eqb t.vertex v))
    | inr o ↦ (let one = far.one v in omega (arith, on_append v ts t, elsewhere v t o, one))
  ];
  past = λ v past. omega (
    arith,
    on_append v ts t,
    elsewhere v t (λ e. omega (arith, e, past, is)),
    far.past v (omega (arith, le, past, is)),
  );
  lies = λ u s e. elim (either (states_at ts u) (states_at (t ∷ []) u) s (sym (states_at-append ts (t ∷ []) u) ∙ e)) [
    | inl was ↦ far.lies u s was
    | inr new ↦ (let a = alone t u s new in ap length (sym a.1) ∙ fits ∙ ap space a.0)
  ];
}

-- a trail before any assignment
pub meets_at_first : (spaces : List ℕ) (t : TrailView) → AreSmall spaces → IsNew spaces t → IsTrail [] t
    → IsMeeting spaces [] t
meets_at_first spaces t small new trail = record {
  trail = trail;
  vertices = new.vertices;
  each = λ v. ap length (new.full v) ∙ length-replicate (universe_at spaces v) true;
  small = small;
}

-- a trail on which no universe changed
pub meets_still : (spaces : List ℕ) (es : List EntryView) (old new : TrailView) → IsMeeting spaces es old
    → IsTrail es new → SameSpaces old new → IsMeeting spaces es new
meets_still spaces es old new m trail same = record {
  trail = trail;
  vertices = same.vertices ∙ m.vertices;
  each = λ v. same.spaces v ∙ m.each v;
  small = m.small;
}

-- a store with one entry more
pub meets_more : (spaces : List ℕ) (es : List EntryView) (e : EntryView) (t : TrailView) → IsMeeting spaces es t
    → LiesIn (universe_at spaces) (states_at e.terms) → IsMeeting spaces (es ++ e ∷ []) t
meets_more spaces es e t m fits = record {
  trail = trail_grown es (e ∷ []) t m.trail all;
  vertices = m.vertices;
  each = m.each;
  small = m.small;
}
  where
    lies : LiesIn (space_of t) (states_at e.terms)
    lies u s is = fits u s is ∙ sym (m.each u)

    last : (es : List EntryView) (d : EntryView) → entry (es ++ d ∷ []) (length es) ≡ d
    last [] d = refl
    last (x ∷ es) d = last es d

    all : LieIn t (es ++ e ∷ [])
    all id lt = elim (cases_lt id (length es)) [
      | inl low ↦ subst (λ (x : EntryView). LiesIn (space_of t) (states_at x.terms))
          (sym (get_or_append_left es (e ∷ []) (record { terms = []; origin = Axiom 0 }) id low)) (m.trail.lies id low)
      | inr high ↦
          let this : id ≡ length es = omega (arith, high, lt, length-append es (e ∷ [])) in
          subst (λ (x : EntryView). LiesIn (space_of t) (states_at x.terms))
          (sym (ap (entry (es ++ e ∷ [])) this ∙ last es e)) lies
    ]

-- one vertex more
small_more : (spaces : List ℕ) (universe : ℕ) → AreSmall spaces → universe ≤ 65536
    → AreSmall (spaces ++ universe ∷ [])
small_more [] universe all le zero lt = le
small_more [] universe all le (suc i) lt = absurd (omega (arith, lt))
small_more (n ∷ spaces) universe all le zero lt = all zero (omega arith)
small_more (n ∷ spaces) universe all le (suc i) lt =
    small_more spaces universe (λ j low. all (suc j) (omega (arith, low))) le i (omega (arith, lt))

each_more : (sets : List Members) (spaces : List ℕ) (universe : ℕ) → length sets ≡ length spaces
    → ((v : ℕ) → length (set_of sets v) ≡ universe_at spaces v)
    → (v : ℕ) → length (set_of (sets ++ every universe ∷ []) v) ≡ universe_at (spaces ++ universe ∷ []) v
each_more [] [] universe e each zero = length-replicate universe true
each_more [] [] universe e each (suc v) = refl
each_more [] (n ∷ spaces) universe e each v = absurd (omega (arith, e))
each_more (s ∷ sets) [] universe e each v = absurd (omega (arith, e))
each_more (s ∷ sets) (n ∷ spaces) universe e each zero = each zero
each_more (s ∷ sets) (n ∷ spaces) universe e each (suc v) =
    each_more sets spaces universe (omega (arith, e)) (λ u. each (suc u)) v

pub meets_wider : (spaces : List ℕ) (universe : ℕ) (es : List EntryView) (old new : TrailView)
    → IsMeeting spaces es old → universe ≤ 65536 → IsTrail es new → IsWider (universe ∷ []) old new
    → IsMeeting (spaces ++ universe ∷ []) es new
meets_wider spaces universe es old new m small trail wider = record {
  trail = trail;
  vertices = ap length wider.sets ∙ omega (
    arith,
    length-append old.sets (every universe ∷ []),
    length-append spaces (universe ∷ []),
    m.vertices,
  );
  each = λ v. ap (λ sets. length (set_of sets v)) wider.sets
      ∙ each_more old.sets spaces universe m.vertices m.each v;
  small = small_more spaces universe m.small small;
}
