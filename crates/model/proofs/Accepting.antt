-- A derivation of which nothing is refused is an accepted one.
use Rattle.std.proofs.Common.{◌≡◌, ◌↔◌, ℕ, suc, List, [], ◌∷◌, ◌++◌, Bool, true, false, cond, Option, Some, None}
use Rattle.std.proofs.Common.{slice_get, length, refl, sym, ap, ◌∙◌, subst, true≢false}
use Rattle.std.specs.Option.{option_or}
use Rattle.std.proofs.lemmas.List.{append-nil, append_assoc}
use Rattle.std.proofs.lemmas.Option.{none-some}
use Rattle.model.specs.Content.{Problem}
use Rattle.model.specs.Axioms.{Term, AreApart}
use Rattle.model.specs.Derivation.{Step, given, combine, terms_of, IsStep, AreSteps, none_yet, one_more, IsAccepted}
use Rattle.model.specs.inner.Checks.{RefusedStep, not_final, ArePlain, combines, is_step, reason_of}
use Rattle.model.specs.inner.Checks.{first_refused}
use Rattle.model.specs.inner.Checks.{is_none_left, end_if, end_refused, refused_step}
use Rattle.model.proofs.Found.{instance-is}
use Rattle.model.proofs.Sets.{is_combination-is}

module _ (q : Problem) where
  -- a step follows exactly where the test of it passes
  pub step-is : (earlier : List Step) (s : Step) → AreApart (terms_of s) → is_step q earlier s ≡ true
      → IsStep q earlier s
  step-is earlier (given k ts) apart h = (instance-is q k ts apart).0 h
  step-is earlier (combine i j v ts) apart h = by (slice_get earlier i) (slice_get earlier j) refl refl h
    where
      by : (a b : Option Step) → slice_get earlier i ≡ a → slice_get earlier j ≡ b → combines q v a b ts ≡ true
          → IsStep q earlier (combine i j v ts)
      by (Some a) (Some b) e f h = (a, b, e, f, (is_combination-is q v (terms_of a) (terms_of b) ts).0 h)
      by (Some a) None e f h = absurd (true≢false (sym h))
      by None b e f h = absurd (true≢false (sym h))

  pub to_step : (earlier : List Step) (s : Step) → AreApart (terms_of s) → IsStep q earlier s
      → is_step q earlier s ≡ true
  to_step earlier (given k ts) apart h = (instance-is q k ts apart).1 h
  to_step earlier (combine i j v ts) apart (a, b, e, f, is) =
      (λ t. combines q v (e t) (f t) ts) ∙ (is_combination-is q v (terms_of a) (terms_of b) ts).1 is

  -- ---- the steps

  steps-are : (earlier steps : List Step) → ArePlain steps → AreSteps q earlier → first_refused q earlier steps ≡ None
      → AreSteps q (earlier ++ steps)
  steps-are earlier [] plain are e = subst (AreSteps q) (sym (append-nil earlier)) are
  steps-are earlier (s ∷ steps) plain are e =
      by (λ x f. steps-are (earlier ++ s ∷ []) steps plain.1 x f) (is_step q earlier s) refl e
    where
      by : (AreSteps q (earlier ++ s ∷ []) → first_refused q (earlier ++ s ∷ []) steps ≡ None
          → AreSteps q ((earlier ++ s ∷ []) ++ steps)) → (b : Bool) → is_step q earlier s ≡ b
          → cond b (first_refused q (earlier ++ s ∷ []) steps) (Some (length earlier, reason_of s)) ≡ None
          → AreSteps q (earlier ++ s ∷ steps)
      by rest true t e = subst (AreSteps q) (append_assoc earlier (s ∷ []) steps)
          (rest (one_more earlier s are (step-is earlier s plain.0 t)) e)
      by rest false t e = absurd (none-some (length earlier, reason_of s) (sym e))

  refused-snoc : (earlier before : List Step) (s : Step) → first_refused q earlier before ≡ None
      → is_step q (earlier ++ before) s ≡ true → first_refused q earlier (before ++ s ∷ []) ≡ None
  refused-snoc earlier [] s e h = let x : is_step q earlier s ≡ true =
      subst (λ l. is_step q l s ≡ true) (append-nil earlier) h in
      ap (λ b. cond b None (Some (length earlier, reason_of s))) x
  refused-snoc earlier (b ∷ before) s e h = by (λ e. refused-snoc (earlier ++ b ∷ []) before s e
      (subst (λ l. is_step q l s ≡ true) (sym (append_assoc earlier (b ∷ []) before)) h)) (is_step q earlier b) e
    where
      by : (first_refused q (earlier ++ b ∷ []) before ≡ None
          → first_refused q (earlier ++ b ∷ []) (before ++ s ∷ []) ≡ None) → (t : Bool)
          → cond t (first_refused q (earlier ++ b ∷ []) before) (Some (length earlier, reason_of b)) ≡ None
          → cond t (first_refused q (earlier ++ b ∷ []) (before ++ s ∷ [])) (Some (length earlier, reason_of b)) ≡ None
      by rest true e = rest e
      by rest false e = absurd (none-some (length earlier, reason_of b) (sym e))

  plain-last : (before : List Step) (s : Step) → ArePlain (before ++ s ∷ []) → ArePlain before × AreApart (terms_of s)
  plain-last [] s h = (tt, h.0)
  plain-last (b ∷ before) s h = let r = plain-last before s h.1 in ((h.0, r.0), r.1)

  none-refused : (steps : List Step) → ArePlain steps → AreSteps q steps → first_refused q [] steps ≡ None
  none-refused steps plain none_yet = refl
  none-refused steps plain (one_more before s are is) =
      let p = plain-last before s plain in
      refused-snoc [] before s (none-refused before p.0 are) (to_step before s p.1 is)

  -- ---- the end

  left-is : (ts : List Term) → is_none_left ts ≡ true → ts ≡ []
  left-is [] h = refl
  left-is (t ∷ ts) h = absurd (true≢false (sym h))

  end-is : (n : ℕ) (steps : List Step) → end_refused n steps ≡ None
      → (before : List Step) × (last : Step) × (steps ≡ before ++ last ∷ []) × (terms_of last ≡ [])
  end-is n [] e = absurd (none-some (n, not_final) (sym e))
  end-is n (s ∷ []) e = by (is_none_left (terms_of s)) refl e
    where
      by : (b : Bool) → is_none_left (terms_of s) ≡ b → end_if n b ≡ None
          → (before : List Step) × (last : Step) × (s ∷ [] ≡ before ++ last ∷ []) × (terms_of last ≡ [])
      by true h e = ([], s, refl, left-is (terms_of s) h)
      by false h e = absurd (none-some (n, not_final) (sym e))
  end-is n (s ∷ r ∷ steps) e = let x = end-is (suc n) (r ∷ steps) e in (s ∷ x.0, x.1, ap (λ l. s ∷ l) x.2, x.3)

  to_end : (n : ℕ) (before : List Step) (last : Step) → terms_of last ≡ [] → end_refused n (before ++ last ∷ []) ≡ None
  to_end n [] last h = ap (λ ts. end_if n (is_none_left ts)) h
  to_end n (s ∷ []) last h = ap (λ ts. end_if (suc n) (is_none_left ts)) h
  to_end n (s ∷ r ∷ before) last h = to_end (suc n) (r ∷ before) last h

  parts-none : (x y : Option RefusedStep) → option_or x y ≡ None → (x ≡ None) × (y ≡ None)
  parts-none None y e = (refl, e)
  parts-none (Some a) y e = absurd (none-some a (sym e))

  -- Nothing is refused of a derivation exactly where it is accepted.
  pub refused-is : (steps : List Step) → ArePlain steps → refused_step q steps ≡ None ↔ IsAccepted q steps
  refused-is steps plain = (
    λ e. let x = parts-none (first_refused q [] steps) (end_refused 0 steps) e in
        record { each = steps-are [] steps plain none_yet x.0; final = end-is 0 steps x.1 },
    λ a. let f = a.final in
        ap (λ o. option_or o (end_refused 0 steps)) (none-refused steps plain a.each)
        ∙ ap (end_refused 0) f.2 ∙ to_end 0 f.0 f.1 f.3,
  )
