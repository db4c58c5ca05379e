-- Entries that are ruled out: they are quiet, they stay ruled out while sets shrink, and while their store grows.
use Rattle.std.proofs.Common.{◌≡◌, ℕ, zero, suc, ◌+◌, ◌<◌, true, false, Bool, List, [], ◌∷◌, ◌++◌, length, get_or}
use Rattle.std.proofs.Common.{cond, Some, sym, ap, ◌∙◌, subst, arith, inl, inr}
use Rattle.std.proofs.lemmas.Bool.{cases_Bool, cases_eq, true≢false}
use Rattle.std.proofs.lemmas.List.{get_or_append_left, length-append}
use Rattle.std.proofs.lemmas.Option.{same_Some}
use Rattle.version_sets.specs.Sets.{Members, inside, meets}
use Rattle.incompatibilities.specs.Incompatibilities.{HoldsAt, Terms, states_at}
use Rattle.incompatibilities.specs.Stores.{EntryView, ids_at, ids_from, terms_of, touches}
use Rattle.incompatibilities.specs.declared.origin.Origin.TheVariants.{Axiom}
use Rattle.propagation.specs.Trails.{FrontView, TrailView, end_sets, front_of, set_of}
use Rattle.propagation.specs.Satisfaction.{IsQuiet, RuledOut}
use Rattle.propagation.specs.Promises.{AreFronts, IsFront}
use Rattle.propagation.proofs.SetLemmas.{inside_same, meets_of, meets_through}

-- what is ruled out is quiet
module _ (sets : List Members) (f : Terms) (out : RuledOut sets f) where
  not_held : HoldsAt (set_of sets out.vertex) (f out.vertex) → ⊥
  not_held h =
      let s = set_of sets out.vertex in
      let here : HoldsAt s (Some out.states) = subst (HoldsAt s) out.term h in
      true≢false (sym (meets_of s s out.states here.0 (inside_same s) here.1) ∙ out.apart)

  pub out_quiet : IsQuiet sets f
  out_quiet = record {
    not_all = λ sat. not_held (sat out.vertex);
    not_one = λ v x one. elim (cases_eq v out.vertex) [
      | inl e ↦
          let same : out.states ≡ x = same_Some out.states x (sym out.term ∙ ap f (sym e) ∙ one.term) in
          true≢false (sym (subst (λ u. meets (set_of sets u) out.states ≡ true) e
          (subst (λ y. meets (set_of sets v) y ≡ true) (sym same) one.common)) ∙ out.apart)
      | inr ne ↦ not_held (one.others out.vertex (λ h. ne (sym h)))
    ];
  }

-- sets shrink
abbrev pub AreInside : List Members → List Members → Type 0
AreInside after sets = (u : ℕ) → inside (set_of after u) (set_of sets u) ≡ true

pub out_down : (sets after : List Members) (f : Terms) → AreInside after sets → RuledOut sets f → RuledOut after f
out_down sets after f part out = record {
  vertex = out.vertex;
  states = out.states;
  term = out.term;
  apart = elim (cases_Bool (meets (set_of after out.vertex) out.states)) [
    | inl h ↦ absurd (true≢false (sym (meets_through (set_of after out.vertex) (set_of sets out.vertex) out.states
        (part out.vertex) h) ∙ out.apart))
    | inr h ↦ h
  ];
}

pub front_down : (es : List EntryView) (sets after : List Members) (v : ℕ) (f : FrontView) → AreInside after sets
    → IsFront es sets v f → IsFront es after v f
front_down es sets after v f part front = record {
  few = front.few;
  short = front.short;
  below = front.below;
  out = λ r lt none. out_down sets after (terms_of es (get_or (ids_at v es) r 0)) part (front.out r lt none);
}

-- the index: each number is of an entry
below_step : (b : Bool) (n m : ℕ) (xs : List ℕ) → n < m → ((j : ℕ) → j < length xs → get_or xs j 0 < m) → (j : ℕ)
    → j < length (cond b (n ∷ xs) xs) → get_or (cond b (n ∷ xs) xs) j 0 < m
below_step true n m xs lt h zero jl = lt
below_step true n m xs lt h (suc j) jl = h j (omega (arith, jl))
below_step false n m xs lt h j jl = h j jl

from_below : (n v : ℕ) (es : List EntryView) (j : ℕ) → j < length (ids_from n v es)
    → get_or (ids_from n v es) j 0 < n + length es
from_below n v [] j lt = absurd (omega (arith, lt))
from_below n v (e ∷ es) j lt = below_step (touches v e.terms) n (n + length (e ∷ es))
    (ids_from (suc n) v es) (omega arith) (λ i il. let q = from_below (suc n) v es i il in omega (arith, q)) j lt

pub ids_below : (v : ℕ) (es : List EntryView) (j : ℕ) → j < length (ids_at v es) → get_or (ids_at v es) j 0 < length es
ids_below v es j lt = let q = from_below 0 v es j lt in omega (arith, q)

-- a longer store lists the same entries first
ids_step : (b : Bool) (n : ℕ) (xs ys zs : List ℕ) → xs ≡ ys ++ zs → cond b (n ∷ xs) xs ≡ cond b (n ∷ ys) ys ++ zs
ids_step true n xs ys zs e = ap (λ l. n ∷ l) e
ids_step false n xs ys zs e = e

ids_more : (n v : ℕ) (es more : List EntryView)
    → ids_from n v (es ++ more) ≡ ids_from n v es ++ ids_from (n + length es) v more
ids_more n v [] more = ap (λ k. ids_from k v more) (omega arith)
ids_more n v (e ∷ es) more =
    let next : suc n + length es ≡ n + suc (length es) = omega arith in
    ids_step (touches v e.terms) n (ids_from (suc n) v (es ++ more)) (ids_from (suc n) v es)
    (ids_from (n + suc (length es)) v more)
    (ids_more (suc n) v es more ∙ ap (λ k. ids_from (suc n) v es ++ ids_from k v more) next)

pub front_grown : (es more : List EntryView) (sets : List Members) (v : ℕ) (f : FrontView) → IsFront es sets v f
    → IsFront (es ++ more) sets v f
front_grown es more sets v f front = record {
  few = (
      let few = front.few in
      omega (arith, few, ap length longer, length-append (ids_at v es) (ids_from (0 + length es) v more))
      );
  short = front.short;
  below = front.below;
  out = λ r lt none.
      let few = front.few in
      let low : r < length (ids_at v es) = omega (arith, lt, few) in
      let id = get_or (ids_at v es) r 0 in
      let same : get_or (ids_at v (es ++ more)) r 0 ≡ id = ap (λ ids. get_or ids r 0) longer
      ∙ get_or_append_left (ids_at v es) (ids_from (0 + length es) v more) 0 r low in
      subst (λ i. RuledOut sets (terms_of (es ++ more) i)) (sym same)
      (subst (λ (e : EntryView). RuledOut sets (states_at e.terms))
      (sym (get_or_append_left es more (record { terms = []; origin = Axiom 0 }) id (ids_below v es r low)))
      (front.out r lt none));
}
  where
    longer : ids_at v (es ++ more) ≡ ids_at v es ++ ids_from (0 + length es) v more
    longer = ids_more 0 v es more

pub fronts_grown : (es more : List EntryView) (t : TrailView) → AreFronts es t → AreFronts (es ++ more) t
fronts_grown es more t p = record {
  long = p.long;
  front = λ v. front_grown es more (end_sets t 0) v (front_of t.fronts v) (p.front v);
}
