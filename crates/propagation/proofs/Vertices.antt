-- From an incompatibility's terms, one by one, to its vertices.
use Rattle.std.proofs.Common.{◌≡◌, ℕ, zero, suc, ◌<◌, Bool, true, false, ◌&&◌, ltb, List, [], ◌∷◌, length, get_or, map}
use Rattle.std.proofs.Common.{Option, Some, None, refl, sym, ap, ap₂, subst, ◌∙◌, arith, inl, inr, if◌then◌else◌}
use Rattle.std.proofs.lemmas.Bool.{and_parts, and_right, cases_Bool, cases_eq, cases_lt, le-ltb, lt-ltb, true≢false}
use Rattle.std.proofs.lemmas.List.{get_or-map, length-map}
use Rattle.std.proofs.lemmas.Option.{same_Some}
use Rattle.version_sets.specs.Sets.{Members, inside, is_full, meets, size}
use Rattle.version_sets.proofs.Within.{meets_some}
use Rattle.terms.specs.Terms.{TermView, relation_of}
use Rattle.terms.specs.declared.term.Relation.{Relation}
use Rattle.terms.specs.declared.term.Relation.TheVariants.{Satisfied, Contradicted, Open}
use Rattle.incompatibilities.specs.Incompatibilities.{AllPast, IsRising, NoneFull, states_at, HoldsAt}
use Rattle.incompatibilities.proofs.Lookups.{at_first, at_later}
use Rattle.propagation.specs.Trails.{TrailView, no_step, set_of, space_of, step_at, step_view, steps_view}
use Rattle.propagation.specs.declared.trail.TrailStep.{TrailStep}
use Rattle.propagation.specs.Satisfaction.{IsOneOpen, IsQuiet, RuledOut, Sat}
use Rattle.propagation.specs.inner.Units.{AllHold, LiesOn, Neither, OneIsOpen, relation_at, term_at}
use Rattle.propagation.proofs.SetLemmas.{not_full_long}

-- relations and satisfaction
relates : Bool → Bool → Relation
relates a b = if a then Satisfied else if b then Open else Contradicted

satisfied_of : (a b : Bool) → relates a b ≡ Satisfied → a ≡ true
unfolding relates
satisfied_of true b e = refl
satisfied_of false true e = cc
satisfied_of false false e = cc

open_of : (a b : Bool) → relates a b ≡ Open → (a ≡ false) × (b ≡ true)
unfolding relates
open_of true b e = absurd cc
open_of false true e = (refl, refl)
open_of false false e = absurd cc

apart_of : (a b : Bool) → relates a b ≡ Contradicted → b ≡ false
unfolding relates
apart_of true b e = absurd cc
apart_of false true e = absurd cc
apart_of false false e = refl

pub holds_from : (s x : Members) → relation_of s x ≡ Satisfied → HoldsAt s (Some x)
unfolding relates
holds_from s x e =
    let both = and_parts (ltb 0 (size s)) (inside s x) (satisfied_of (ltb 0 (size s) && inside s x) (meets s x) e) in (
      elim (cases_lt 0 (size s)) [ inl lt ↦ lt | inr le ↦ absurd (true≢false (sym both.0 ∙ le-ltb 0 (size s) le)) ],
      both.1,
    )

pub holds_to : (s x : Members) → HoldsAt s (Some x) → relation_of s x ≡ Satisfied
holds_to s x h = rw (lt-ltb 0 (size s) h.0, h.1) refl

pub open_from : (s x : Members) → relation_of s x ≡ Open → (meets s x ≡ true) × (inside s x ≡ false)
unfolding relates
open_from s x e =
    let parts = open_of (ltb 0 (size s) && inside s x) (meets s x) e in (
      parts.1,
      elim (cases_Bool (inside s x)) [
        | inl h ↦ absurd
            (true≢false (sym (ap₂ (λ a b. a && b) (lt-ltb 0 (size s) (meets_some s x parts.1)) h) ∙ parts.0))
        | inr h ↦ h
      ],
    )

pub open_to : (s x : Members) → meets s x ≡ true → inside s x ≡ false → relation_of s x ≡ Open
open_to s x m i = rw (and_right (ltb 0 (size s)) (inside s x) i, m) refl

-- where a term stands
pub place_of : (ts : List TermView) (u : ℕ) (x : Members) → states_at ts u ≡ Some x
    → (i : ℕ) × (i < length ts) × ((term_at ts i).vertex ≡ u) × ((term_at ts i).states ≡ x)
place_of [] u x e = absurd cc
place_of (t ∷ ts) u x e = elim (cases_eq t.vertex u) [
  | inl h ↦ (0, omega arith, h, same_Some t.states x (sym (at_first t ts u h) ∙ e))
  | inr o ↦ let r =
      place_of ts u x (sym (at_later t ts u o) ∙ e) in (suc r.0, (let lt = r.1 in omega (arith, lt)), r.2, r.3)
]

past_at : (v : ℕ) (ts : List TermView) (i : ℕ) → AllPast v ts → i < length ts → v < (term_at ts i).vertex
past_at v [] i far lt = absurd (omega (arith, lt))
past_at v (t ∷ ts) zero far lt = far.0
past_at v (t ∷ ts) (suc i) far lt = past_at v ts i far.1 (omega (arith, lt))

pub rises_at : (ts : List TermView) (i j : ℕ) → IsRising ts → i < j → j < length ts
    → (term_at ts i).vertex < (term_at ts j).vertex
rises_at [] i j r ij lt = absurd (omega (arith, lt))
rises_at (t ∷ ts) zero zero r ij lt = absurd (omega (arith, ij))
rises_at (t ∷ ts) zero (suc j) r ij lt = past_at t.vertex ts j r.0 (omega (arith, lt))
rises_at (t ∷ ts) (suc i) zero r ij lt = absurd (omega (arith, ij))
rises_at (t ∷ ts) (suc i) (suc j) r ij lt = rises_at ts i j r.1 (omega (arith, ij)) (omega (arith, lt))

-- one term a vertex
pub one_place : (ts : List TermView) (i j : ℕ) → IsRising ts → i < length ts → j < length ts
    → (term_at ts i).vertex ≡ (term_at ts j).vertex → i ≡ j
one_place ts i j r il jl e = elim (cases_lt i j) [
  | inl lt ↦ absurd (omega (arith, rises_at ts i j r lt jl, e))
  | inr le ↦ elim (cases_lt j i) [
    | inl lt ↦ absurd (omega (arith, rises_at ts j i r lt il, e))
    | inr ge ↦ omega (arith, le, ge)
  ]
]

pub states_of : (ts : List TermView) (i : ℕ) → IsRising ts → i < length ts
    → states_at ts (term_at ts i).vertex ≡ Some (term_at ts i).states
states_of [] i r lt = absurd (omega (arith, lt))
states_of (t ∷ ts) zero r lt = at_first t ts t.vertex refl
states_of (t ∷ ts) (suc i) r lt =
    let past : t.vertex < (term_at ts i).vertex = past_at t.vertex ts i r.0 (omega (arith, lt)) in
    at_later t ts (term_at ts i).vertex (λ (e : t.vertex ≡ (term_at ts i).vertex). omega (arith, past, e))
    ∙ states_of ts i r.1 (omega (arith, lt))

pub full_at : (ts : List TermView) (i : ℕ) → NoneFull ts → i < length ts → is_full (term_at ts i).states ≡ false
full_at [] i n lt = absurd (omega (arith, lt))
full_at (t ∷ ts) zero n lt = n.0
full_at (t ∷ ts) (suc i) n lt = full_at ts i n.1 (omega (arith, lt))

-- a term that lies in a universe stands on a vertex of the trail
pub in_range : (sets : List Members) (v : ℕ) → 0 < length (set_of sets v) → v < length sets
in_range [] v some = absurd (omega (arith, some))
in_range (s ∷ sets) zero some = omega arith
in_range (s ∷ sets) (suc v) some = let ih = in_range sets v some in omega (arith, ih)

pub term_fits : (t : TrailView) (ts : List TermView) (i : ℕ) → LiesOn t ts → i < length ts
    → length (term_at ts i).states ≡ space_of t (term_at ts i).vertex
term_fits t ts i on lt = on.lies (term_at ts i).vertex (term_at ts i).states (states_of ts i on.is.rising lt)

pub term_within : (t : TrailView) (ts : List TermView) (i : ℕ) → LiesOn t ts → i < length ts
    → (term_at ts i).vertex < length t.sets
term_within t ts i on lt = in_range t.sets (term_at ts i).vertex
    (omega (arith, term_fits t ts i on lt, not_full_long (term_at ts i).states (full_at ts i on.is.none_full lt)))

pub term_some : (t : TrailView) (ts : List TermView) (i : ℕ) → LiesOn t ts → i < length ts
    → 0 < space_of t (term_at ts i).vertex
term_some t ts i on lt =
    omega (arith, term_fits t ts i on lt, not_full_long (term_at ts i).states (full_at ts i on.is.none_full lt))

holds_by : (sets : List Members) (ts : List TermView) (u : ℕ) (o : Option Members) → states_at ts u ≡ o → ((x : Members)
    → o ≡ Some x → (i : ℕ) → i < length ts → (term_at ts i).vertex ≡ u → relation_at sets ts i ≡ Satisfied)
    → HoldsAt (set_of sets u) o
holds_by sets ts u None e h = tt
holds_by sets ts u (Some x) e h =
    let p = place_of ts u x e in
    subst (λ y. HoldsAt (set_of sets u) (Some y)) p.3
    (subst (λ w. HoldsAt (set_of sets w) (Some (term_at ts p.0).states)) p.2
    (holds_from (set_of sets (term_at ts p.0).vertex) (term_at ts p.0).states (h x refl p.0 p.1 p.2)))

-- all terms hold, so the incompatibility is satisfied, and the other way round
pub sat_from : (sets : List Members) (ts : List TermView) → AllHold (length ts) (relation_at sets ts)
    → Sat sets (states_at ts)
sat_from sets ts all u = holds_by sets ts u (states_at ts u) refl (λ x e i lt at. all i lt)

pub holds_of : (sets : List Members) (ts : List TermView) (i : ℕ) → IsRising ts → i < length ts
    → HoldsAt (set_of sets (term_at ts i).vertex) (states_at ts (term_at ts i).vertex)
    → relation_at sets ts i ≡ Satisfied
holds_of sets ts i r lt h = holds_to (set_of sets (term_at ts i).vertex) (term_at ts i).states
    (subst (HoldsAt (set_of sets (term_at ts i).vertex)) (states_of ts i r lt) h)

pub sat_to : (sets : List Members) (ts : List TermView) → IsRising ts → Sat sets (states_at ts)
    → AllHold (length ts) (relation_at sets ts)
sat_to sets ts r sat i lt = holds_of sets ts i r lt (sat (term_at ts i).vertex)

-- one term is contradicted, so the incompatibility is ruled out
pub out_at : (sets : List Members) (ts : List TermView) (i : ℕ) → IsRising ts → i < length ts
    → relation_at sets ts i ≡ Contradicted → RuledOut sets (states_at ts)
unfolding relates
out_at sets ts i r lt e =
    let s = set_of sets (term_at ts i).vertex in
    let x = (term_at ts i).states in
    record {
      vertex = (term_at ts i).vertex;
      states = x;
      term = states_of ts i r lt;
      apart = apart_of (ltb 0 (size s) && inside s x) (meets s x) e;
    }

-- one term is open
pub open_one : (sets : List Members) (ts : List TermView) (k : ℕ) → IsRising ts → OneIsOpen (length ts)
    (relation_at sets ts) k → IsOneOpen sets (states_at ts) (term_at ts k).vertex (term_at ts k).states
open_one sets ts k r o =
    let parts = open_from (set_of sets (term_at ts k).vertex) (term_at ts k).states o.here in
    record {
      term = states_of ts k r o.within;
      common = parts.0;
      apart = parts.1;
      others = λ u ne. holds_by sets ts u (states_at ts u) refl
          (λ x e i lt at. o.others i lt (λ same. ne (sym at ∙ ap (λ m. (term_at ts m).vertex) same)));
    }

one_open : (sets : List Members) (ts : List TermView) (v : ℕ) (x : Members) → IsRising ts
    → IsOneOpen sets (states_at ts) v x → (k : ℕ) × OneIsOpen (length ts) (relation_at sets ts) k
one_open sets ts v x r o =
    let p = place_of ts v x o.term in (
      p.0,
      record {
        within = p.1;
        here = subst (λ w. relation_of (set_of sets w) (term_at ts p.0).states ≡ Open) (sym p.2)
            (subst (λ y. relation_of (set_of sets v) y ≡ Open) (sym p.3) (open_to (set_of sets v) x o.common o.apart));
        others = λ i lt ne. holds_of sets ts i r lt
            (o.others (term_at ts i).vertex (λ e. ne (one_place ts i p.0 r lt p.1 (e ∙ sym p.2))));
      },
    )

pub quiet_from : (sets : List Members) (ts : List TermView) → IsRising ts → Neither (length ts) (relation_at sets ts)
    → IsQuiet sets (states_at ts)
quiet_from sets ts r n = record {
  not_all = λ sat. n.not_all (sat_to sets ts r sat);
  not_one = λ v x o. let k = one_open sets ts v x r o in n.not_one k.0 k.1;
}

-- a view in a list of views
pub view_at : {A B : Type 0} (f : A → B) (xs : List A) (i : ℕ) (a : A) (d : B) → i < length xs → a ≡ get_or xs i a
    → get_or (map f xs) i d ≡ f a
view_at f xs i a d lt e = get_or-map f xs i a d lt ∙ ap f (sym e)

-- a step, read
pub step_read : {S : Type 0} (tests : S → Members) (ss : List (TrailStep S)) (p : ℕ) (s d : TrailStep S)
    → p < length (steps_view tests ss) → s ≡ get_or ss p d → step_at (steps_view tests ss) p ≡ step_view tests s
step_read tests ss p s d lt e =
    get_or-map (step_view tests) ss p d no_step (rw length-map at lt) ∙ ap (step_view tests) (sym e)
