-- Nothing is told of a package exactly where each condition of a valid selection holds at it.
use Rattle.std.proofs.Common.{◌≡◌, ◌↔◌, ◌==◌, ℕ, Bool, true, false, not, cond, List, [], ◌∷◌, length, Option}
use Rattle.std.proofs.Common.{Some, None, slice_get, Contains, MatchOption, is_some, refl, sym, ap, ◌∙◌, subst, inl}
use Rattle.std.proofs.Common.{inr, arith, true≢false}
use Rattle.std.proofs.lemmas.Bool.{and_from, eqb-true, not-false, not-true, not_from_false}
use Rattle.std.proofs.lemmas.Option.{none-some, same_Some}
use Rattle.model.specs.Content.{Package, Content, Problem, is_root, candidate_of, list_if, target_of}
use Rattle.model.specs.Selection.{HasTarget, IsTarget}
use Rattle.model.specs.Verdict.{VerdictFault, not_candidate, two_in_class, unmet, no_feature, wrong_list, unreached}
use Rattle.model.specs.Verdict.{IsFreeOf, IsFaultless}
use Rattle.model.proofs.Lists.{in_none, in_first}
use Rattle.model.proofs.Orders.{last_is}
use Rattle.model.proofs.Same.{both}
use Rattle.model.proofs.Places.{some_at}
use Rattle.manifest.specs.Manifests.{ManifestView}
use Rattle.catalogue.specs.Problems.{problem_in}
use Rattle.catalogue.specs.Stores.{CatalogueView}
use Rattle.selection.proofs.Judging.{featured_is}
use Rattle.flaws.specs.inner.Reasons.{why_none}
use Rattle.flaws.specs.inner.Flaws.{is_flawless, IsTwin, AreFlaws}
use Rattle.flaws.specs.declared.flawed.Flawed.{Flawed}
use Rattle.flaws.specs.declared.no_candidate.NoCandidate.{NoCandidate}
use Rattle.flaws.proofs.Reasons.{why_decides}

negated_some : {X : Type 0} (o : Option X) → not (is_some o) ≡ true → is_some o ≡ false
negated_some o e = not-true (is_some o) e

-- a list without elements
no_elements : (xs : List ℕ) → length xs == 0 ≡ true → (x : ℕ) → Contains xs x → ⊥
no_elements [] e x c = in_none x c
no_elements (y ∷ ys) e x c = (let h : length (y ∷ ys) ≡ 0 = eqb-true (length (y ∷ ys)) 0 e in absurd (omega (arith, h)))

if_none : (xs : List ℕ) → ((x : ℕ) → Contains xs x → ⊥) → length xs == 0 ≡ true
if_none [] h = refl
if_none (y ∷ ys) h = absurd (h y (in_first y ys))

module _ (m : ManifestView) (index : CatalogueView) (content : Content) (f : Flawed)
    (told : AreFlaws m index content f) where
  abbrev q : Problem
  q = problem_in m index

  abbrev n : ℕ
  n = f.place

  -- what stands there
  here : (p : Package) × (slice_get content n ≡ Some p)
  here = some_at content n told.is_there

  -- a candidate
  reason_is : (b : Bool) → is_root q here.0 ≡ b → f.no_candidate ≡ cond b None (why_none index here.0)
  reason_is b e = told.no_candidate_is here.0 here.1 ∙ ap (λ x. cond x None (why_none index here.0)) e

  candidate_free : not (is_some f.no_candidate) ≡ true → IsFreeOf q content not_candidate n
  candidate_free e p o =
      let one : here.0 ≡ p = same_Some here.0 p (sym here.1 ∙ o.0) in
      let other : is_root q here.0 ≡ false = ap (is_root q) one ∙ o.1 in
      let none : is_some (why_none index here.0) ≡ false =
      ap (λ (r : Option NoCandidate). is_some r) (sym (reason_is false other)) ∙ negated_some f.no_candidate e in
      let known : is_some (candidate_of q here.0) ≡ true =
      not-false (is_some (candidate_of q here.0)) (sym (why_decides m index here.0) ∙ none) in
      subst (λ x. is_some (candidate_of q x) ≡ true) one known

  free_candidate : IsFreeOf q content not_candidate n → not (is_some f.no_candidate) ≡ true
  free_candidate free = by (is_root q here.0) refl
    where
      by : (b : Bool) → is_root q here.0 ≡ b → not (is_some f.no_candidate) ≡ true
      by true e = ap (λ (r : Option NoCandidate). not (is_some r)) (reason_is true e)
      by false e =
          let known : is_some (candidate_of q here.0) ≡ true = free here.0 (here.1, e) in
          ap (λ (r : Option NoCandidate). not (is_some r)) (reason_is false e)
          ∙ ap not (why_decides m index here.0 ∙ ap not known)

  -- alone in its class
  twin_none : (o : Option ℕ) → MatchOption o (IsFreeOf q content two_in_class n) (λ t. IsTwin q content n t)
      → not (is_some o) ≡ true → IsFreeOf q content two_in_class n
  twin_none None h e = h
  twin_none (Some t) h e = absurd (true≢false (sym e))

  none_twin : (o : Option ℕ) → MatchOption o (IsFreeOf q content two_in_class n) (λ t. IsTwin q content n t)
      → IsFreeOf q content two_in_class n → not (is_some o) ≡ true
  none_twin None h free = refl
  none_twin (Some t) h free =
      absurd (free t h.package_there h.earlier h.is_before h.is_other h.is_other_too h.name_is h.class_is)

  -- each enabled dependency has a target
  unmet_free : length f.unmet.items == 0 ≡ true → IsFreeOf q content unmet n
  unmet_free e i d on = by (target_of content n d) refl
    where
      by : (o : Option ℕ) → target_of content n d ≡ o → (t : ℕ) × HasTarget q content n d t
      by (Some t) g = (t, g)
      by None g = absurd (no_elements f.unmet.items e i ((told.unmet_are i).1 (d, on, g)))

  free_unmet : IsFreeOf q content unmet n → length f.unmet.items == 0 ≡ true
  free_unmet free = if_none f.unmet.items none
    where
      none : (i : ℕ) → Contains f.unmet.items i → ⊥
      none i c =
          let u = (told.unmet_are i).0 c in
          let t = free i u.0 u.1 in
          none-some t.0 (sym u.2 ∙ t.1)

  -- its list is the set of targets
  target_listed : (t : ℕ) → IsTarget q content n t → Contains (list_if (slice_get content n)) t
  target_listed t (i, d, on, to) = (last_is content d (list_if (slice_get content n)) t to).listed

  surplus_free : length f.surplus.items == 0 ≡ true → IsFreeOf q content wrong_list n
  surplus_free e t p got = (to, from)
    where
      to : Contains p.list t → IsTarget q content n t
      to c = elim (told.others_are t (subst (λ o. Contains (list_if o) t) (sym got) c))
          [ inl s ↦ absurd (no_elements f.surplus.items e t s) | inr h ↦ h ]

      from : IsTarget q content n t → Contains p.list t
      from h = subst (λ o. Contains (list_if o) t) got (target_listed t h)

  free_surplus : IsFreeOf q content wrong_list n → length f.surplus.items == 0 ≡ true
  free_surplus free = if_none f.surplus.items none
    where
      none : (t : ℕ) → Contains f.surplus.items t → ⊥
      none t c = (let s =
          (told.surplus_are t).0 c in s.1 ((free t here.0 here.1).0 (subst (λ o. Contains (list_if o) t) here.1 s.0)))

  features_are : (not f.lacks_feature ≡ true) ↔ IsFreeOf q content no_feature n
  features_are = featured_is q content n f.lacks_feature told.lacks_is

  -- all of it
  pub flawless_free : is_flawless f ≡ true → IsFaultless q content n
  flawless_free e =
      let a = both _ (not f.unreached) e in
      let b = both _ (length f.surplus.items == 0) a.0 in
      let c = both _ (not f.lacks_feature) b.0 in
      let d = both _ (length f.unmet.items == 0) c.0 in
      let g = both (not (is_some f.no_candidate)) (not (is_some f.twin)) d.0 in
      each g.0 g.1 d.1 c.1 b.1 a.1
    where
      each : not (is_some f.no_candidate) ≡ true → not (is_some f.twin) ≡ true → length f.unmet.items == 0 ≡ true
          → not f.lacks_feature ≡ true → length f.surplus.items == 0 ≡ true → not f.unreached ≡ true
          → (v : VerdictFault) → IsFreeOf q content v n
      each a b c d e g not_candidate = candidate_free a
      each a b c d e g two_in_class = twin_none f.twin told.twin_is b
      each a b c d e g unmet = unmet_free c
      each a b c d e g no_feature = features_are.0 d
      each a b c d e g wrong_list = surplus_free e
      each a b c d e g unreached = told.reached_is.0 (not-true f.unreached g)

  pub free_flawless : IsFaultless q content n → is_flawless f ≡ true
  free_flawless free =
      and_from _ (not f.unreached)
      (and_from _ (length f.surplus.items == 0)
      (and_from _ (not f.lacks_feature)
      (and_from _ (length f.unmet.items == 0)
      (and_from (not (is_some f.no_candidate)) (not (is_some f.twin)) (free_candidate (free not_candidate))
      (none_twin f.twin told.twin_is (free two_in_class)))
      (free_unmet (free unmet)))
      (features_are.1 (free no_feature)))
      (free_surplus (free wrong_list)))
      (not_from_false f.unreached (told.reached_is.1 (free unreached)))
