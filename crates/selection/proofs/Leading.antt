-- Where the enabled dependencies of one package lead, number by number.
use Rattle.std.proofs.Common.{◌≡◌, ℕ, ◌+◌, ◌<◌, ◌≤◌, ◌↔◌, Bool, true, false, cond, ◌&&◌, List, length, nat_eq, nat_cmp}
use Rattle.std.proofs.Common.{Option, Some, None, slice_get, refl, sym, ap, ◌∙◌, subst, arith, inl, inr, true≢false}
use Rattle.std.specs.BTreeMap.{is_at}
use Rattle.std.specs.Ordering.{is_eq}
use Rattle.std.proofs.lemmas.Bool.{cases_lt, eqb-true, eq-eqb, and_from}
use Rattle.std.proofs.lemmas.Bool.Decides.{nat_tests}
use Rattle.std.proofs.lemmas.Option.{none-some, same_Some, slice_get_within}
use Rattle.model.proofs.Same.{both}
use Rattle.facts.specs.inner.Graphs.{flag_at}
use Rattle.selection.specs.inner.Places.{target_given, enabled_target, with_target, is_missing, AreMet, IsLedTo}

nat_tie : (x y : ℕ) → is_eq (nat_cmp x y) ≡ nat_eq x y
nat_tie x y = grind (arith, nat_tests)

at_same : (x t : ℕ) → is_at (nat_cmp x) t ≡ true → x ≡ t
at_same x t e = eqb-true x t (sym (nat_tie x t) ∙ e)

same_at : (x t : ℕ) → x ≡ t → is_at (nat_cmp x) t ≡ true
same_at x t e = nat_tie x t ∙ eq-eqb x t e

module _ (flags : List Bool) (targets : List (Option ℕ)) where
  -- an enabled dependency with a number below n leads there
  abbrev pub IsLedBelow : ℕ → ℕ → Type 0
  IsLedBelow n t = (i : ℕ) × (i < n) × (flag_at flags i ≡ true) × (slice_get targets i ≡ Some (Some t))

  target_some : (n x : ℕ) → enabled_target flags targets n ≡ Some x
      → (flag_at flags n ≡ true) × (slice_get targets n ≡ Some (Some x))
  target_some n x e = by (flag_at flags n) refl e
    where
      given : (o : Option (Option ℕ)) → target_given o ≡ Some x → o ≡ Some (Some x)
      given None e = absurd (none-some x e)
      given (Some o) e = ap Some e

      by : (b : Bool) → flag_at flags n ≡ b → cond b (target_given (slice_get targets n)) None ≡ Some x
          → (flag_at flags n ≡ true) × (slice_get targets n ≡ Some (Some x))
      by true f e = (f, given (slice_get targets n) e)
      by false f e = absurd (none-some x e)

  some_target : (n t : ℕ) → flag_at flags n ≡ true → slice_get targets n ≡ Some (Some t)
      → enabled_target flags targets n ≡ Some t
  some_target n t f e = ap (λ b. cond b (target_given (slice_get targets n)) None) f ∙ ap target_given e

  -- one number more, of a dependency that leads to x ..
  pub led_more : (n x : ℕ) (was now : ℕ → Bool) → enabled_target flags targets n ≡ Some x
      → ((t : ℕ) → now t ≡ cond (is_at (nat_cmp x) t) true (was t))
      → ((t : ℕ) → (was t ≡ true) ↔ IsLedBelow n t) → (t : ℕ) → (now t ≡ true) ↔ IsLedBelow (n + 1) t
  led_more n x was now e step told t = by (is_at (nat_cmp x) t) refl
    where
      found : (flag_at flags n ≡ true) × (slice_get targets n ≡ Some (Some x))
      found = target_some n x e

      same : (s : ℕ) → flag_at flags n ≡ true → slice_get targets n ≡ Some (Some s) → x ≡ s
      same s f h = same_Some x s (sym e ∙ some_target n s f h)

      by : (b : Bool) → is_at (nat_cmp x) t ≡ b → (now t ≡ true) ↔ IsLedBelow (n + 1) t
      by true a = (
        λ h. (n, omega arith, found.0, found.1 ∙ ap (λ s. Some (Some s)) (at_same x t a)),
        λ h. step t ∙ ap (λ b. cond b true (was t)) a,
      )
      by false a =
          let now_is : now t ≡ was t = step t ∙ ap (λ b. cond b true (was t)) a in (
            λ h. (let l = (told t).0 (sym now_is ∙ h) in (l.0, omega (arith, l.1), l.2, l.3)),
            λ l. elim (cases_lt l.0 n) [
              | inl lt ↦ now_is ∙ (told t).1 (l.0, lt, l.2, l.3)
              | inr back ↦
                  let place : l.0 ≡ n = omega (arith, l.1, back) in
                  absurd (true≢false (sym (same_at x t (same t (subst (λ i. flag_at flags i ≡ true) place l.2)
                  (subst (λ i. slice_get targets i ≡ Some (Some t)) place l.3))) ∙ a))
            ],
          )

  -- .. or nowhere
  pub led_same : (n : ℕ) (was : ℕ → Bool) → enabled_target flags targets n ≡ None
      → ((t : ℕ) → (was t ≡ true) ↔ IsLedBelow n t) → (t : ℕ) → (was t ≡ true) ↔ IsLedBelow (n + 1) t
  led_same n was e told t = (
    λ h. (let l = (told t).0 h in (l.0, omega (arith, l.1), l.2, l.3)),
    λ l. elim (cases_lt l.0 n) [
      | inl lt ↦ (told t).1 (l.0, lt, l.2, l.3)
      | inr back ↦
          let place : l.0 ≡ n = omega (arith, l.1, back) in
          absurd (none-some t (sym e ∙ some_target n t (subst (λ i. flag_at flags i ≡ true) place l.2)
          (subst (λ i. slice_get targets i ≡ Some (Some t)) place l.3)))
    ],
  )

  pub led_step : (n : ℕ) (o : Option ℕ) (was now : ℕ → Bool) → o ≡ enabled_target flags targets n
      → ((t : ℕ) → now t ≡ with_target o t (was t))
      → ((t : ℕ) → (was t ≡ true) ↔ IsLedBelow n t) → (t : ℕ) → (now t ≡ true) ↔ IsLedBelow (n + 1) t
  led_step n None was now e step told t =
      subst (λ b. (b ≡ true) ↔ IsLedBelow (n + 1) t) (sym (step t)) (led_same n was (sym e) told t)
  led_step n (Some x) was now e step told t = led_more n x was now (sym e) step told t

  pub led_all : (n : ℕ) (was : ℕ → Bool) → length targets ≤ n → ((t : ℕ) → (was t ≡ true) ↔ IsLedBelow n t) → (t : ℕ)
      → (was t ≡ true) ↔ IsLedTo flags targets t
  led_all n was le told t = (
    λ h. (let l = (told t).0 h in (l.0, l.2, l.3)),
    λ l. (told t).1 (l.0, (let lt = slice_get_within targets l.0 (Some t) l.2 in omega (arith, le, lt)), l.1, l.2),
  )

  -- whether each enabled dependency has a target
  pub met_all : ((i : ℕ) → i < length targets → (is_missing (slice_get targets i) && flag_at flags i) ≡ false)
      → AreMet flags targets
  met_all h i on none =
      true≢false (sym (and_from (is_missing (slice_get targets i)) (flag_at flags i) (ap is_missing none) on)
      ∙ h i (slice_get_within targets i None none))

  pub not_met : (i : ℕ) → (is_missing (slice_get targets i) && flag_at flags i) ≡ true → AreMet flags targets → ⊥
  not_met i e met = let h =
      both (is_missing (slice_get targets i)) (flag_at flags i) e in met i h.1 (missing (slice_get targets i) h.0)
    where
      missing : (o : Option (Option ℕ)) → is_missing o ≡ true → o ≡ Some None
      missing None e = absurd (true≢false (sym e))
      missing (Some None) e = refl
      missing (Some (Some t)) e = absurd (true≢false (sym e))
