-- The steps of a derivation are in order, and what is refused of them.
use Rattle.std.proofs.Common.{◌≡◌, ℕ, suc, ◌+◌, List, [], ◌∷◌, ◌++◌, length, take, drop, get_or, min, Bool, true, false}
use Rattle.std.proofs.Common.{cond, ◌<◌, Option, Some, None, slice_get, option_map, ◌-◌, ◌==◌, arith, refl, sym, ap}
use Rattle.std.proofs.Common.{◌∙◌, Less, Equal}
use Rattle.std.specs.Borrow.{Bor}
use Rattle.std.specs.List.{AllByRecursion}
use Rattle.std.specs.List.Sorted.{IsStrictlySortedBy}
use Rattle.std.specs.Slice.{IsItemAt}
use Rattle.std.proofs.Math.Seq.{drop-cons}
use Rattle.std.proofs.lemmas.Bool.{eqb-true}
use Rattle.std.proofs.lemmas.List.{length-map, length-take}
use Rattle.std.proofs.lemmas.Cmp.{nat_list_cmp_total, tied_itself}
use Rattle.std.proofs.lemmas.Option.{none-some, same_Some, slice_get-map}
use Rattle.model.specs.Axioms.{AreApart}
use Rattle.model.specs.Axioms as axioms
use Rattle.model.specs.Content.{Problem}
use Rattle.model.specs.Derivation as steps
use Rattle.model.specs.Order.{text_cmp}
use Rattle.model.specs.Vertices.{same_vertex}
use Rattle.model.proofs.Same.{vertex-other}
use Rattle.model.specs.inner.Checks.{ArePlain, RefusedStep, combines, is_step, is_none_left, end_if, end_refused}
use Rattle.model.specs.inner.Checks.{first_refused, reason_of}
use Rattle.model.specs.inner.Terms.{is_combination}
use Rattle.vertices.specs.Texts.{vertex_text}
use Rattle.derivations.specs.inner.Derivations.{IsTerm, AreTerms, AreStepsFrom, term_cmp}
use Rattle.derivations.specs.inner.Tables.{TablesView, AreStepsOf, AreTermsOf, terms_at, step_at, steps_at}
use Rattle.derivations.specs.inner.Tables.{step_by_origin}
use Rattle.derivations.specs.inner.Tables.{vertex_at}
use Rattle.derivations.specs.declared.step.Origin.{Origin}
use Rattle.derivations.specs.declared.step.Origin.TheVariants.{Axiom, Combination}
use Rattle.derivations.specs.declared.step.Step.{Step}
use Rattle.derivations.specs.declared.step.Term.{Term}
use Rattle.catalogue.proofs.Rows.{item_at}
use Rattle.checker.specs.inner.Steps.{IsOrderedTerm, AreOrderedSteps}

each_term : (t : TablesView) (terms : List Term) → AreTermsOf t terms → AllByRecursion IsTerm (terms_at t terms)
    → AllByRecursion (IsOrderedTerm t) terms
each_term t [] h k = tt
each_term t (x ∷ terms) h k = ((h.0, (k.0).order), each_term t terms h.1 k.1)

terms_by : (t : TablesView) (c : Origin ℕ) (ts : List axioms.Term)
    → AreTerms (steps.terms_of (step_by_origin t c ts)) → AreTerms ts
terms_by t (Axiom k) ts h = h
terms_by t (Combination a b v) ts h = h

pub each_step : (t : TablesView) (n : ℕ) (ss : List Step) → AreStepsOf t ss
    → AreStepsFrom n (steps_at t ss) → AreOrderedSteps t ss
each_step t n [] h k = tt
each_step t n (s ∷ ss) h k =
    let terms = terms_by t s.origin (terms_at t s.terms.items) (k.0).1 in
    (((h.0).0, (each_term t s.terms.items (h.0).1 terms.0, terms.1)), each_step t (n + 1) ss h.1 k.1)

-- ---- what a combination step says

said_by_step : (t : TablesView) (c : Origin ℕ) (ts : List axioms.Term) → steps.terms_of (step_by_origin t c ts) ≡ ts
said_by_step t (Axiom k) ts = refl
said_by_step t (Combination a b v) ts = refl

got_step : (t : TablesView) (ss : List Step) (i : ℕ) (s : Step) → slice_get ss i ≡ Some s
    → slice_get (steps_at t ss) i ≡ Some (step_at t s)
got_step t ss i s e = slice_get-map (step_at t) ss i ∙ ap (option_map (step_at t)) e

pub combined_step : (q : Problem) (t : TablesView) (earlier : List Step) (s a b : Step) (first second v : ℕ)
    → s.origin ≡ Combination first second v
    → slice_get earlier first ≡ Some a → slice_get earlier second ≡ Some b
    → is_combination q (vertex_at t v) (terms_at t a.terms.items) (terms_at t b.terms.items) (terms_at t s.terms.items)
    ≡ is_step q (steps_at t earlier) (step_at t s)
combined_step q t earlier s a b first second v is e f =
    let terms = terms_at t s.terms.items in
    ap (λ ts. is_combination q (vertex_at t v) ts (terms_at t b.terms.items) terms)
    (sym (said_by_step t a.origin (terms_at t a.terms.items)))
    ∙ ap (λ ts. is_combination q (vertex_at t v) (steps.terms_of (step_at t a)) ts terms)
    (sym (said_by_step t b.origin (terms_at t b.terms.items)))
    ∙ ap (λ o. combines q (vertex_at t v) o (Some (step_at t b)) terms) (sym (got_step t earlier first a e))
    ∙ ap (λ o. combines q (vertex_at t v) (slice_get (steps_at t earlier) first) o terms)
    (sym (got_step t earlier second b f))
    ∙ ap (λ c. is_step q (steps_at t earlier) (step_by_origin t c terms)) (sym is)

-- the first step that isn't accepted after those before it
pub refused_at : (q : Problem) (t : TablesView) (ss : List Step) (n : ℕ) (s : Step) (whole : Option RefusedStep)
    → n < length ss → s ≡ get_or ss n s → is_step q (steps_at t (take n ss)) (step_at t s) ≡ false
    → first_refused q (steps_at t (take n ss)) (steps_at t (drop n ss)) ≡ whole
    → Some (n, reason_of (step_at t s)) ≡ whole
refused_at q t ss n s whole lt item fails told =
    let earlier = steps_at t (take n ss) in
    let rest = steps_at t (drop (suc n) ss) in
    let taken : length (take n ss) ≡ n = length-take n ss ∙ min_left n (length ss) lt in
    let number : n ≡ length earlier = sym (length-map (take n ss) (step_at t) ∙ taken) in
    let split : steps_at t (drop n ss) ≡ step_at t s ∷ rest =
    ap (steps_at t) (drop-cons ss n s lt) ∙ ap (λ x. step_at t x ∷ rest) (sym item) in
    ap (λ k. Some (k, reason_of (step_at t s))) number
    ∙ ap (λ b. cond b (first_refused q (earlier ++ step_at t s ∷ []) rest)
    (Some (length earlier, reason_of (step_at t s)))) (sym fails)
    ∙ ap (first_refused q earlier) (sym split) ∙ told
  where
    min_left : (a b : ℕ) → a < b → min a b ≡ a
    min_left a b lt = omega (arith, lt)

-- a step that was lent is the one at its place
pub lent : (xs : List Step) (i : ℕ) (r : Option (Bor Step)) (b : Bor Step) → IsItemAt xs i r → r ≡ Some b
    → slice_get xs i ≡ Some b.now
lent xs i r b h e =
    by (slice_get xs i) (sym (ap (option_map (λ (b : Bor Step). b.now)) e) ∙ item_at (λ (x : Step). x) xs i r h)
  where
    by : (o : Option Step) → Some b.now ≡ option_map (λ (x : Step). x) o → o ≡ Some b.now
    by None h = absurd (none-some b.now (sym h))
    by (Some x) h = sym h

-- ---- the end

not_empty : (n : ℕ) → (suc n == 0) ≡ false
not_empty n = by (suc n == 0) refl
  where
    by : (t : Bool) → (suc n == 0) ≡ t → t ≡ false
    by true e = absurd (let k = eqb-true (suc n) 0 e in omega (arith, k))
    by false e = refl

pub none_left : (t : TablesView) (terms : List Term) → (length terms == 0) ≡ is_none_left (terms_at t terms)
none_left t [] = refl
none_left t (x ∷ terms) = not_empty (length terms)

pub end_at : (t : TablesView) (n : ℕ) (ss : List Step) (x : Step) → Some x ≡ slice_get ss (length ss - 1)
    → end_if (n + (length ss - 1)) (is_none_left (terms_at t x.terms.items)) ≡ end_refused n (steps_at t ss)
end_at t n [] x e = absurd (none-some x (sym e))
end_at t n (s ∷ []) x e =
    let place : n + 0 ≡ n = omega arith in
    ap (λ k. end_if k (is_none_left (terms_at t x.terms.items))) place
    ∙ ap (λ (y : Step). end_if n (is_none_left (terms_at t y.terms.items))) (same_Some x s e)
    ∙ ap (λ ts. end_if n (is_none_left ts)) (sym (said_by_step t s.origin (terms_at t s.terms.items)))
end_at t n (s ∷ r ∷ ss) x e =
    let place : length (s ∷ r ∷ ss) - 1 ≡ suc (length (r ∷ ss) - 1) = omega arith in
    let number : n + (length (s ∷ r ∷ ss) - 1) ≡ suc n + (length (r ∷ ss) - 1) = omega arith in
    ap (λ k. end_if k (is_none_left (terms_at t x.terms.items))) number
    ∙ end_at t (suc n) (r ∷ ss) x (e ∙ ap (slice_get (s ∷ r ∷ ss)) place)

pub end_first : (t : TablesView) (ss : List Step) (x : Step) → Some x ≡ slice_get ss (length ss - 1)
    → end_if (length ss - 1) (is_none_left (terms_at t x.terms.items)) ≡ end_refused 0 (steps_at t ss)
end_first t ss x e =
    let place : length ss - 1 ≡ 0 + (length ss - 1) = omega arith in
    ap (λ k. end_if k (is_none_left (terms_at t x.terms.items))) place ∙ end_at t 0 ss x e

-- ---- no vertex twice

before_apart : (t : axioms.Term) (us : List axioms.Term) → AllByRecursion (λ u. term_cmp t u ≡ Less) us
    → AllByRecursion (λ u. same_vertex t.vertex u.vertex ≡ false) us
before_apart t [] h = tt
before_apart t (u ∷ us) h = (
  vertex-other t.vertex u.vertex
      (λ e. let k : Less ≡ Equal = sym h.0 ∙ ap (λ v. text_cmp (vertex_text t.vertex) (vertex_text v)) (sym e)
      ∙ tied_itself nat_list_cmp_total (vertex_text t.vertex) in cc),
  before_apart t us h.1,
)

are_apart : (ts : List axioms.Term) → IsStrictlySortedBy term_cmp ts → AreApart ts
unfolding IsStrictlySortedBy
are_apart [] h = tt
are_apart (t ∷ ts) h = (before_apart t ts h.0, are_apart ts h.1)

pub are_plain : (n : ℕ) (ss : List steps.Step) → AreStepsFrom n ss → ArePlain ss
are_plain n [] h = tt
are_plain n (s ∷ ss) h = (are_apart (steps.terms_of s) ((h.0).1).1, are_plain (n + 1) ss h.1)
