-- What is wrong with the list of one package, by the flags and targets of its dependencies.
use Rattle.std.proofs.Common.{◌≡◌, ◌↔◌, ◌⊎◌, ℕ, Bool, true, false, not, ◌&&◌, List, length, Option, Some, None}
use Rattle.std.proofs.Common.{slice_get, Contains, refl, sym, ap, ◌∙◌, inl, inr, subst, true≢false}
use Rattle.std.specs.List.{filter, range_with_len}
use Rattle.std.proofs.lemmas.Bool.{and_from, not-true, not_from_false}
use Rattle.std.proofs.lemmas.Option.{slice_get_within}
use Rattle.model.specs.Selection.{enabled, IsFact, IsTarget}
use Rattle.model.specs.Content.{Package, Content, Problem, summary_of, list_if}
use Rattle.model.proofs.Lists.{in_filter, to_filter}
use Rattle.model.proofs.Same.{both}
use Rattle.facts.specs.inner.Graphs.{flag_at}
use Rattle.selection.specs.inner.Graphs.{targets_in}
use Rattle.selection.specs.inner.Places.{is_missing, IsLedTo}
use Rattle.selection.proofs.Judging.{its_target, its_dependency, target_here, led_to_target, target_led_to}
use Rattle.flaws.specs.inner.Flaws.{IsUnmet, IsSurplus}
use Rattle.flaws.proofs.Elements.{in_range}

-- a dependency that is there and has no target
missing : (o : Option (Option ℕ)) → is_missing o ≡ true → o ≡ Some None
missing None e = absurd (true≢false (sym e))
missing (Some None) e = refl
missing (Some (Some t)) e = absurd (true≢false (sym e))

module _ (q : Problem) (content : Content) (n : ℕ) (p : Package) (got : slice_get content n ≡ Some p)
    (flags : List Bool) (targets : List (Option ℕ))
    (flags_are : (i : ℕ) → (flag_at flags i ≡ true) ↔ IsFact q content (enabled n i))
    (targets_is : targets ≡ targets_in content p.list (summary_of q p).dependencies) where
  abbrev lacks : ℕ → Bool
  lacks i = is_missing (slice_get targets i) && flag_at flags i

  pub unmet_is : (i : ℕ) → Contains (filter lacks (range_with_len 0 (length targets))) i ↔ IsUnmet q content n i
  unmet_is i = (to, from)
    where
      to : Contains (filter lacks (range_with_len 0 (length targets))) i → IsUnmet q content n i
      to c =
          let kept = in_filter lacks (range_with_len 0 (length targets)) i c in
          let test = both (is_missing (slice_get targets i)) (flag_at flags i) kept.1 in
          let d = its_dependency q content n p got flags targets flags_are targets_is i None
          (missing (slice_get targets i) test.0) in
          (d.0, (d.1, (flags_are i).0 test.1), target_here q content n p got d.0 ∙ d.2)

      from : IsUnmet q content n i → Contains (filter lacks (range_with_len 0 (length targets))) i
      from (d, (brings, on), none) =
          let target : slice_get targets i ≡ Some None =
          its_target q content n p got flags targets flags_are targets_is i d brings
          ∙ ap Some (sym (target_here q content n p got d) ∙ none) in
          to_filter lacks (range_with_len 0 (length targets)) i
          (in_range (length targets) i (slice_get_within targets i None target))
          (and_from (is_missing (slice_get targets i)) (flag_at flags i) (ap is_missing target) ((flags_are i).1 on))

  module _ (led : ℕ → Bool) (led_is : (t : ℕ) → (led t ≡ true) ↔ IsLedTo flags targets t) where
    listed_here : (t : ℕ) → Contains (list_if (slice_get content n)) t → Contains p.list t
    listed_here t c = subst (λ o. Contains (list_if o) t) got c

    pub surplus_is : (t : ℕ) → Contains (filter (λ t. not (led t)) p.list) t ↔ IsSurplus q content n t
    surplus_is t = (to, from)
      where
        to : Contains (filter (λ t. not (led t)) p.list) t → IsSurplus q content n t
        to c =
            let kept = in_filter (λ t. not (led t)) p.list t c in (
              subst (λ o. Contains (list_if o) t) (sym got) kept.0,
              λ h. true≢false
                  (sym ((led_is t).1 (target_led_to q content n p got flags targets flags_are targets_is t h))
                  ∙ not-true (led t) kept.1),
            )

        by : (b : Bool) → led t ≡ b → IsSurplus q content n t → Contains (filter (λ t. not (led t)) p.list) t
        by true e h =
            absurd (h.1 (led_to_target q content n p got flags targets flags_are targets_is t ((led_is t).0 e)))
        by false e h = to_filter (λ t. not (led t)) p.list t (listed_here t h.0) (not_from_false (led t) e)

        from : IsSurplus q content n t → Contains (filter (λ t. not (led t)) p.list) t
        from h = by (led t) refl h

    pub others_are : (t : ℕ) → Contains (list_if (slice_get content n)) t
        → Contains (filter (λ t. not (led t)) p.list) t ⊎ IsTarget q content n t
    others_are t c = by (led t) refl
      where
        by : (b : Bool) → led t ≡ b → Contains (filter (λ t. not (led t)) p.list) t ⊎ IsTarget q content n t
        by true e = inr (led_to_target q content n p got flags targets flags_are targets_is t ((led_is t).0 e))
        by false e = inl (to_filter (λ t. not (led t)) p.list t (listed_here t c) (not_from_false (led t) e))
