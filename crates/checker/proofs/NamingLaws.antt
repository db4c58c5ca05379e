-- What was gathered of steps, and that it is all that they name.
use Rattle.std.proofs.Common.{◌≡◌, ℕ, suc, ◌+◌, ◌<◌, List, [], ◌∷◌, length, take, get_or, Result, Ok, Err, IfOk, sym}
use Rattle.std.proofs.Common.{subst, arith}
use Rattle.std.proofs.Math.Seq.{take-suc}
use Rattle.std.specs.List.{AllByRecursion}
use Rattle.model.proofs.Accepted.{all-push}
use Rattle.model.proofs.Sorting.{each-weaker}
use Rattle.derivations.specs.inner.Tables.{TablesView}
use Rattle.derivations.specs.declared.step.Term.{Term}
use Rattle.derivations.specs.declared.step.Step.{Step}
use Rattle.checker.specs.inner.Names.{Sets, IsMade}
use Rattle.checker.specs.inner.Naming.{AreNamed, AreNamedSteps, IsGrown, IsNamed}
use Rattle.checker.specs.inner.Ready.{tables_of, AreReadySteps, IsReady}
use Rattle.checker.specs.inner.Steps.{AreOrderedSteps, IsOrderedStep}
use Rattle.checker.specs.declared.names.Names.{Names}
use Rattle.checker.specs.declared.naming.Naming.{Naming}

-- one more of a list, where what held before still holds
each_more : {X : Type 0} (P Q : X → Type 0) → ((x : X) → P x → Q x) → (xs : List X) (i : ℕ) (d : X) → i < length xs
    → AllByRecursion P (take i xs) → Q (get_or xs i d) → AllByRecursion Q (take (i + 1) xs)
each_more P Q f xs i d lt so_far here =
    let next : suc i ≡ i + 1 = omega arith in
    subst (λ n. AllByRecursion Q (take n xs)) next (subst (AllByRecursion Q) (sym (take-suc xs i d lt))
    (all-push Q (take i xs) (get_or xs i d) (each-weaker P Q f (take i xs) so_far) here))

grown_more : (t u : TablesView) (first old new : Naming) → u ≡ t → IsGrown t first old
    → IsGrown u old new → IsGrown t first new
grown_more t u first old new e g h = record {
  sound = (subst (λ t. IsGrown t old new) e h).sound;
  stays = λ x named. (subst (λ t. IsGrown t old new) e h).stays x (g.stays x named);
}

pub named_more : (t u : TablesView) (first old new : Naming) (terms : List Term) (i : ℕ) (d : Term) → u ≡ t
    → i < length terms → IsGrown t first old → AreNamed t old (take i terms)
    → IsGrown u old new → IsNamed u new (get_or terms i d) → IsGrown t first new × AreNamed t new (take (i + 1) terms)
named_more t u first old new terms i d e lt g so_far h here = (
  grown_more t u first old new e g h,
  each_more (IsNamed t old) (IsNamed t new) (subst (λ t. IsGrown t old new) e h).stays terms i d lt so_far
      (subst (λ t. IsNamed t new (get_or terms i d)) e here),
)

-- ---- what is at hand in the end

module _ (t : TablesView) (g : Naming) (d : Names) (same : tables_of d ≡ t)
    (bound : length d.ranks.items ≡ length g.texts.items) (sets : d.sets.items ≡ g.sets.items) where
  term_ready : (x : Term) → IsNamed t g x → IsReady d x
  term_ready x h = (
    subst (λ n. x.vertex < n) (sym bound) h.0,
    subst (λ t. IsMade t d.sets.items x.states) (sym same) (subst (λ (s : Sets). IsMade t s x.states) (sym sets) h.1),
  )

  steps_ready : (steps : List Step) → AreOrderedSteps t steps → AreNamedSteps t g steps → AreReadySteps d steps
  steps_ready [] ordered named = tt
  steps_ready (s ∷ steps) ordered named =
      let this : IsOrderedStep (tables_of d) s = subst (λ t. IsOrderedStep t s) (sym same) ordered.0 in (
        (this.0, (each-weaker (IsNamed t g) (IsReady d) term_ready s.terms.items named.0, (this.1).1)),
        steps_ready steps ordered.1 named.1,
      )

pub all_ready : {E : Type 0} (t : TablesView) (g : Naming) (r : Result Names E) (steps : List Step)
    → AreOrderedSteps t steps → AreNamedSteps t g steps
    → IfOk r (λ d. tables_of d ≡ t) → IfOk r (λ d. length d.ranks.items ≡ length g.texts.items)
    → IfOk r (λ d. d.sets.items ≡ g.sets.items) → IfOk r (λ d. AreReadySteps d steps)
all_ready t g (Ok d) steps ordered named same bound sets = steps_ready t g d same bound sets steps ordered named
all_ready t g (Err e) steps ordered named same bound sets = tt
