-- What the function that gives the first refused step means: which step is the first that isn't accepted.
use Rattle.std.proofs.Common.{◌≡◌, ◌↔◌, inl, inr, ℕ, suc, ◌+◌, ◌-◌, List, [], ◌∷◌, ◌++◌, Bool, true, false, cond}
use Rattle.std.proofs.Common.{Option, Some, None, length, refl, sym, ap, ap₂, ◌∙◌, subst, true≢false, arith}
use Rattle.std.specs.Option.{option_or}
use Rattle.std.proofs.lemmas.List.{append-nil, append_assoc}
use Rattle.std.proofs.lemmas.Option.{none-some, same_Some}
use Rattle.model.specs.Content.{Problem}
use Rattle.model.specs.Derivation.{Step, given, combine, terms_of, IsStep, AreSteps, none_yet, one_more, IsAccepted}
use Rattle.model.specs.inner.Checks as model
use Rattle.model.specs.inner.Checks.{RefusedStep, ArePlain, is_step, reason_of, first_refused, is_none_left}
use Rattle.model.specs.inner.Checks.{end_if, end_refused, refused_step, not_an_axiom, not_combined, not_final}
use Rattle.model.proofs.Accepting.{refused-is, step-is, to_step}
use Rattle.checker.specs.inner.Answers.{check_view, reason_view}
use Rattle.checker.specs.RefusedSteps.{reason_for, IsRefusedAt}
use Rattle.checker.specs.declared.outcome.Check.{Check}
use Rattle.checker.specs.declared.outcome.Check.TheVariants.{Proves, Refused}
use Rattle.checker.specs.declared.outcome.Reason.{Reason}
use Rattle.checker.specs.declared.outcome.Reason.TheVariants.{NotAnAxiom, BadCombination, NotFinal}

-- ---- reasons

abbrev reason_back : model.Reason → Reason
reason_back not_an_axiom = NotAnAxiom
reason_back not_combined = BadCombination
reason_back not_final = NotFinal

back_is : (r : Reason) → reason_back (reason_view r) ≡ r
back_is NotAnAxiom = refl
back_is BadCombination = refl
back_is NotFinal = refl

reason_is : (s : Step) → reason_view (reason_for s) ≡ reason_of s
reason_is (given k ts) = refl
reason_is (combine i j v ts) = refl

same_reason : (r s : Reason) → reason_view r ≡ reason_view s → r ≡ s
same_reason r s h = sym (back_is r) ∙ ap reason_back h ∙ back_is s

module _ (q : Problem) where
  -- ---- accepted steps one by one

  abbrev Each : List Step → List Step → Type 0
  Each earlier [] = Unit {0}
  Each earlier (s ∷ steps) = IsStep q earlier s × Each (earlier ++ s ∷ []) steps

  each_more : (earlier before : List Step) (s : Step) → Each earlier before → IsStep q (earlier ++ before) s
      → Each earlier (before ++ s ∷ [])
  each_more earlier [] s h is = (subst (λ l. IsStep q l s) (append-nil earlier) is, tt)
  each_more earlier (b ∷ before) s h is = (
    h.0,
    each_more (earlier ++ b ∷ []) before s h.1
        (subst (λ l. IsStep q l s) (sym (append_assoc earlier (b ∷ []) before)) is),
  )

  each_of : (steps : List Step) → AreSteps q steps → Each [] steps
  each_of steps none_yet = tt
  each_of steps (one_more before s are is) = each_more [] before s (each_of before are) is

  first_none : (earlier rest : List Step) → ArePlain rest → Each earlier rest → first_refused q earlier rest ≡ None
  first_none earlier [] plain h = refl
  first_none earlier (s ∷ rest) plain h =
      ap (λ b. cond b (first_refused q (earlier ++ s ∷ []) rest) (Some (length earlier, reason_of s)))
      (to_step q earlier s plain.0 h.0)
      ∙ first_none (earlier ++ s ∷ []) rest plain.1 h.1

  first_at : (earlier before : List Step) (s : Step) (after : List Step) → ArePlain (before ++ s ∷ after)
      → Each earlier before → (IsStep q (earlier ++ before) s → ⊥)
      → first_refused q earlier (before ++ s ∷ after) ≡ Some (length (earlier ++ before), reason_of s)
  first_at earlier [] s after plain h wrong = by (is_step q earlier s) refl
    where
      by : (b : Bool) → is_step q earlier s ≡ b → cond b (first_refused q (earlier ++ s ∷ []) after)
          (Some (length earlier, reason_of s)) ≡ Some (length (earlier ++ []), reason_of s)
      by true t = absurd (wrong (subst (λ l. IsStep q l s) (sym (append-nil earlier)) (step-is q earlier s plain.0 t)))
      by false t = ap (λ l. Some (length l, reason_of s)) (sym (append-nil earlier))
  first_at earlier (b ∷ before) s after plain h wrong =
      let same = append_assoc earlier (b ∷ []) before in
      ap (λ t. cond t (first_refused q (earlier ++ b ∷ []) (before ++ s ∷ after)) (Some (length earlier, reason_of b)))
      (to_step q earlier b plain.0 h.0)
      ∙ first_at (earlier ++ b ∷ []) before s after plain.1 h.1 (λ is. wrong (subst (λ l. IsStep q l s) same is))
      ∙ ap (λ l. Some (length l, reason_of s)) same

  -- all are accepted, or those before this one
  abbrev Told : List Step → Option RefusedStep → Type 0
  Told steps None = AreSteps q steps
  Told steps (Some r) = (before after : List Step) × (s : Step) × (steps ≡ before ++ s ∷ after)
      × (r ≡ (length before, reason_of s)) × AreSteps q before × (IsStep q before s → ⊥)

  told : (earlier rest : List Step) → ArePlain rest → AreSteps q earlier
      → Told (earlier ++ rest) (first_refused q earlier rest)
  told earlier [] plain are = subst (AreSteps q) (sym (append-nil earlier)) are
  told earlier (s ∷ rest) plain are = by (told (earlier ++ s ∷ []) rest plain.1) (is_step q earlier s) refl
    where
      by : (AreSteps q (earlier ++ s ∷ []) → Told ((earlier ++ s ∷ []) ++ rest)
          (first_refused q (earlier ++ s ∷ []) rest)) → (b : Bool) → is_step q earlier s ≡ b
          → Told (earlier ++ s ∷ rest)
          (cond b (first_refused q (earlier ++ s ∷ []) rest) (Some (length earlier, reason_of s)))
      by others true t = subst (λ l. Told l (first_refused q (earlier ++ s ∷ []) rest))
          (append_assoc earlier (s ∷ []) rest) (others (one_more earlier s are (step-is q earlier s plain.0 t)))
      by others false t =
          (earlier, rest, s, refl, refl, are, (λ is. true≢false (sym (to_step q earlier s plain.0 is) ∙ t)))

  -- ---- the end

  ends : (n : ℕ) (steps : List Step) (r : RefusedStep) → end_refused n steps ≡ Some r
      → r ≡ (n + (length steps - 1), not_final)
  ends n [] r e = let place : n ≡ n + (0 - 1) =
      omega arith in sym (same_Some (n, not_final) r e) ∙ ap (λ k. (k, not_final)) place
  ends n (s ∷ []) r e = by (is_none_left (terms_of s)) e
    where
      by : (b : Bool) → end_if n b ≡ Some r → r ≡ (n + (1 - 1), not_final)
      by true h = absurd (none-some r h)
      by false h = let place : n ≡ n + (1 - 1) =
          omega arith in sym (same_Some (n, not_final) r h) ∙ ap (λ k. (k, not_final)) place
  ends n (s ∷ t ∷ steps) r e =
      let place : suc n + (length (t ∷ steps) - 1) ≡ n + (length (s ∷ t ∷ steps) - 1) = omega arith in
      ends (suc n) (t ∷ steps) r e ∙ ap (λ k. (k, not_final)) place

  ends_at_last : (steps : List Step) (r : RefusedStep) → end_refused 0 steps ≡ Some r
      → r ≡ (length steps - 1, not_final)
  ends_at_last steps r e = let place : 0 + (length steps - 1) ≡ length steps - 1 =
      omega arith in ends 0 steps r e ∙ ap (λ k. (k, not_final)) place

  -- ---- the whole derivation

  abbrev as_refused : ℕ → model.Reason → RefusedStep
  as_refused n r = (n, r)

  module _ (steps : List Step) (plain : ArePlain steps) where
    refused_told : (n : ℕ) (r : Reason) (x y : Option RefusedStep) → Told steps x → first_refused q [] steps ≡ x
        → end_refused 0 steps ≡ y → option_or x y ≡ Some (n, reason_view r) → IsRefusedAt q steps n r
    refused_told n r (Some p) y t e f h =
        let same : (n, reason_view r) ≡ (length t.0, reason_of t.2) = sym (same_Some p (n, reason_view r) h) ∙ t.4 in
        inl (record {
          before = t.0;
          step = t.2;
          after = t.1;
          whole = t.3;
          number = ap (λ (p : RefusedStep). p.0) same;
          accepted = t.5;
          refused = t.6;
          why = same_reason r (reason_for t.2) (ap (λ (p : RefusedStep). p.1) same ∙ sym (reason_is t.2));
        })
    refused_told n r None (Some p) t e f h =
        let same : (n, reason_view r) ≡ (length steps - 1, not_final) =
        sym (same_Some p (n, reason_view r) h) ∙ ends_at_last steps p f in
        inr (record {
          accepted = t;
          unended = λ a. none-some p (sym ((refused-is q steps plain).1 a) ∙ ap₂ option_or e f);
          number = ap (λ (p : RefusedStep). p.0) same;
          why = same_reason r NotFinal (ap (λ (p : RefusedStep). p.1) same);
        })
    refused_told n r None None t e f h = absurd (none-some (n, reason_view r) h)

    refused_where : (n : ℕ) (r : Reason) → IsRefusedAt q steps n r → refused_step q steps ≡ Some (n, reason_view r)
    refused_where n r (inl h) =
        let found = ap (first_refused q []) h.whole ∙ first_at [] h.before h.step h.after
        (subst ArePlain h.whole plain) (each_of h.before h.accepted) h.refused in
        ap (λ o. option_or o (end_refused 0 steps)) found
        ∙ sym (ap Some (ap₂ as_refused h.number (ap reason_view h.why ∙ reason_is h.step)))
    refused_where n r (inr h) = none ∙ by (end_refused 0 steps) refl
      where
        none : refused_step q steps ≡ end_refused 0 steps
        none = ap (λ o. option_or o (end_refused 0 steps)) (first_none [] steps plain (each_of steps h.accepted))

        by : (y : Option RefusedStep) → end_refused 0 steps ≡ y → y ≡ Some (n, reason_view r)
        by None e = absurd (h.unended ((refused-is q steps plain).0 (none ∙ e)))
        by (Some p) e = ap Some (ends_at_last steps p e ∙ sym (ap₂ as_refused h.number (ap reason_view h.why)))

    refused_as : (c : Check) (n : ℕ) (r : Reason) → check_view c ≡ Some (n, reason_view r) → c ≡ Refused n r
    refused_as Proves n r h = absurd (none-some (n, reason_view r) h)
    refused_as (Refused m p) n r h =
        let same : (m, reason_view p) ≡ (n, reason_view r) = same_Some (m, reason_view p) (n, reason_view r) h in
        ap₂ Refused (ap (λ (p : RefusedStep). p.0) same) (same_reason p r (ap (λ (p : RefusedStep). p.1) same))

    proves_as : (c : Check) → check_view c ≡ None → c ≡ Proves
    proves_as Proves h = refl
    proves_as (Refused n r) h = absurd (none-some (n, reason_view r) (sym h))

    module _ (c : Check) (answer : check_view c ≡ refused_step q steps) where
      -- it proves exactly where all is accepted
      pub proves_where : c ≡ Proves ↔ IsAccepted q steps
      proves_where = (
        λ e. (refused-is q steps plain).0 (sym answer ∙ ap check_view e),
        λ a. proves_as c (answer ∙ (refused-is q steps plain).1 a),
      )

      -- and refuses exactly the first step that isn't
      pub refuses_where : (n : ℕ) (r : Reason) → c ≡ Refused n r ↔ IsRefusedAt q steps n r
      refuses_where n r = (
        λ e. refused_told n r (first_refused q [] steps) (end_refused 0 steps)
            (told [] steps plain none_yet) refl refl (sym answer ∙ ap check_view e),
        λ h. refused_as c n r (answer ∙ refused_where n r h),
      )
