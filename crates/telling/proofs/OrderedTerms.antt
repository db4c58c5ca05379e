-- The terms of a derivation's steps have their states in order.
use Rattle.std.proofs.Common.{◌≡◌, ℕ, zero, suc, ◌+◌, List, [], ◌∷◌, Option, Some, None, slice_get, option_map, refl}
use Rattle.std.proofs.Common.{sym, ap, ◌∙◌}
use Rattle.std.specs.Borrow.{Bor}
use Rattle.std.specs.List.{AllByRecursion}
use Rattle.std.specs.Slice.{IsItemAt}
use Rattle.std.proofs.lemmas.Option.{none-some, same_Some, slice_get-map}
use Rattle.model.specs.Axioms as axioms
use Rattle.model.specs.Derivation as steps
use Rattle.derivations.specs.inner.Derivations.{IsTerm, AreTerms, AreStepsFrom}
use Rattle.derivations.specs.inner.Tables.{TablesView, AreStepsOf, AreTermsOf, terms_at, step_at, steps_at}
use Rattle.derivations.specs.inner.Tables.{step_by_origin}
use Rattle.derivations.specs.declared.step.Origin.{Origin}
use Rattle.derivations.specs.declared.step.Origin.TheVariants.{Axiom, Combination}
use Rattle.derivations.specs.declared.step.Step.{Step}
use Rattle.derivations.specs.declared.step.Term.{Term}
use Rattle.catalogue.proofs.Rows.{item_at}
use Rattle.telling.specs.inner.Terms.{IsOrderedTerm, terms_if}

each-term : (t : TablesView) (terms : List Term) → AreTermsOf t terms → AllByRecursion IsTerm (terms_at t terms)
    → AllByRecursion (IsOrderedTerm t) terms
each-term t [] h k = tt
each-term t (x ∷ terms) h k = ((h.0, (k.0).order), each-term t terms h.1 k.1)

terms-by : (t : TablesView) (c : Origin ℕ) (ts : List axioms.Term)
    → AreTerms (steps.terms_of (step_by_origin t c ts)) → AreTerms ts
terms-by t (Axiom k) ts h = h
terms-by t (Combination a b v) ts h = h

pub ordered-at : (t : TablesView) (n : ℕ) (ss : List Step) (i : ℕ) (s : Step) → AreStepsOf t ss
    → AreStepsFrom n (steps_at t ss) → slice_get ss i ≡ Some s → AllByRecursion (IsOrderedTerm t) s.terms.items
ordered-at t n [] i s h k e = absurd (none-some s e)
ordered-at t n (x ∷ ss) zero s h k e =
    let same : x ≡ s = same_Some x s e in
    rw (← same) (each-term t x.terms.items (h.0).1 (terms-by t x.origin (terms_at t x.terms.items) (k.0).1).0)
ordered-at t n (x ∷ ss) (suc i) s h k e = ordered-at t (n + 1) ss i s h.1 k.1 e

said-by-step : (t : TablesView) (c : Origin ℕ) (ts : List axioms.Term) → steps.terms_of (step_by_origin t c ts) ≡ ts
said-by-step t (Axiom k) ts = refl
said-by-step t (Combination a b v) ts = refl

-- the terms of the step at a place
pub terms-there : (t : TablesView) (ss : List Step) (all : List steps.Step) (i : ℕ) (s : Step) → steps_at t ss ≡ all
    → slice_get ss i ≡ Some s → terms_at t s.terms.items ≡ terms_if (slice_get all i)
terms-there t ss all i s whole e =
    sym (said-by-step t s.origin (terms_at t s.terms.items))
    ∙ sym (ap terms_if (ap (option_map (step_at t)) e))
    ∙ sym (ap terms_if (slice_get-map (step_at t) ss i))
    ∙ ap (λ x. terms_if (slice_get x i)) whole

pub none-there : (t : TablesView) (ss : List Step) (all : List steps.Step) (i : ℕ) → steps_at t ss ≡ all
    → slice_get ss i ≡ None → terms_if (slice_get all i) ≡ []
none-there t ss all i whole e =
    sym (ap (λ x. terms_if (slice_get x i)) whole)
    ∙ ap terms_if (slice_get-map (step_at t) ss i)
    ∙ ap terms_if (ap (option_map (step_at t)) e)

-- no step that is lent is one that isn't there
pub none-lent : (xs : List Step) (i : ℕ) (r : Option (Bor Step)) → IsItemAt xs i r → r ≡ None → slice_get xs i ≡ None
none-lent xs i r h e =
    by (slice_get xs i) (sym (ap (option_map (λ (b : Bor Step). b.now)) e) ∙ item_at (λ (x : Step). x) xs i r h)
  where
    by : (o : Option Step) → None ≡ option_map (λ x. x) o → o ≡ None
    by None h = refl
    by (Some x) h = absurd (none-some x h)
