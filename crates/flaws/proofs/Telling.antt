-- Package by package, just those are told at which something is wrong.
use Rattle.std.proofs.Common.{◌≡◌, ◌↔◌, ◌⊎◌, ◌<◌, ◌≤◌, ℕ, ◌+◌, Bool, true, false, cond, List, [], ◌∷◌, ◌++◌, length}
use Rattle.std.proofs.Common.{Contains, refl, sym, ◌∙◌, subst, inl, inr, arith}
use Rattle.std.proofs.Common.{true≢false}
use Rattle.std.specs.List.{All}
use Rattle.std.proofs.lemmas.Bool.{cases_lt}
use Rattle.std.proofs.lemmas.List.{append-nil}
use Rattle.std.proofs.lemmas.List.Elements.{All-nil, Contains-append_left, Contains-append_right, All-push}
use Rattle.std.proofs.lemmas.List.Quantifiers.{all_pairs_push}
use Rattle.model.specs.Content.{Content, Problem}
use Rattle.model.specs.Selection.{IsPlace, IsValidSelection}
use Rattle.model.specs.Verdict.{HasRoot, IsFaultless}
use Rattle.model.specs.Order.{IsContent}
use Rattle.model.proofs.Lists.{all_first, in_first, in_none, pairs_none}
use Rattle.model.proofs.Verdicts.{valid_iff}
use Rattle.manifest.specs.Manifests.{ManifestView}
use Rattle.catalogue.specs.Problems.{problem_in}
use Rattle.catalogue.specs.Stores.{CatalogueView}
use Rattle.flaws.specs.inner.Flaws.{is_flawless, AreFlaws, IsToldBelow, AreToldBelow, AreTold}
use Rattle.flaws.specs.declared.flawed.Flawed.{Flawed}
use Rattle.flaws.proofs.Conditions.{flawless_free, free_flawless}

module _ (m : ManifestView) (index : CatalogueView) (content : Content) where
  abbrev q : Problem
  q = problem_in m index

  pub none_told : AreToldBelow m index content 0 []
  none_told = record {
    each = All-nil (IsToldBelow m index content 0);
    every =
        λ k lt. absurd (omega (arith, lt));
    in_order = pairs_none (λ (f g : Flawed). f.place < g.place);
  }

  -- what is told below a place is told below the next one
  further : (n k : ℕ) → n ≤ k → (fs : List Flawed) → All (IsToldBelow m index content n) fs
      → All (IsToldBelow m index content k) fs
  further n k le fs h i d lt = let t = h i d lt in (t.0, omega (arith, t.1, le), t.2)

  places_below : (n : ℕ) (g : Flawed) → g.place ≡ n → (fs : List Flawed) → All (IsToldBelow m index content n) fs
      → All (λ (f : Flawed). f.place < g.place) fs
  places_below n g e fs h i d lt = let t = h i d lt in omega (arith, t.1, e)

  module _ (n : ℕ) (fs : List Flawed) (g : Flawed) (told : AreToldBelow m index content n fs)
      (flaws : AreFlaws m index content g) (place : g.place ≡ n) where
    -- one more package, with which nothing is wrong ..
    same_told : is_flawless g ≡ true → AreToldBelow m index content (n + 1) fs
    same_told e =
        record { each = further n (n + 1) (omega arith) fs told.each; every = every; in_order = told.in_order }
      where
        every : (k : ℕ) → k < n + 1 → IsFaultless q content k ⊎ ((f : Flawed) × Contains fs f × (f.place ≡ k))
        every k lt = elim (cases_lt k n) [
          | inl less ↦ told.every k less
          | inr back ↦
              let here : g.place ≡ k = omega (arith, lt, back, place) in
              inl (subst (λ i. IsFaultless q content i) here (flawless_free m index content g flaws e))
        ]

    -- .. or with which something is
    more_told : is_flawless g ≡ false → AreToldBelow m index content (n + 1) (fs ++ g ∷ [])
    more_told e = record {
      each = All-push (IsToldBelow m index content (n + 1)) fs g (further n (n + 1) (omega arith) fs told.each)
          (flaws, omega (arith, place), λ free. true≢false (sym (free_flawless m index content g flaws free) ∙ e));
      every = every;
      in_order =
          all_pairs_push (λ (f h : Flawed). f.place < h.place) fs g told.in_order (places_below n g place fs told.each);
    }
      where
        kept : (k : ℕ) → IsFaultless q content k ⊎ ((f : Flawed) × Contains fs f × (f.place ≡ k))
            → IsFaultless q content k ⊎ ((f : Flawed) × Contains (fs ++ g ∷ []) f × (f.place ≡ k))
        kept k (inl free) = inl free
        kept k (inr (f, c, s)) = inr (f, Contains-append_left fs (g ∷ []) f c, s)

        every : (k : ℕ) → k < n + 1
            → IsFaultless q content k ⊎ ((f : Flawed) × Contains (fs ++ g ∷ []) f × (f.place ≡ k))
        every k lt = elim (cases_lt k n) [
          | inl less ↦ kept k (told.every k less)
          | inr back ↦ inr (g, Contains-append_right fs (g ∷ []) g (in_first g []), omega (arith, lt, back, place))
        ]

    pub one_more : (now : List Flawed) → now ≡ fs ++ cond (is_flawless g) [] (g ∷ [])
        → AreToldBelow m index content (n + 1) now
    one_more now e = subst (λ xs. AreToldBelow m index content (n + 1) xs) (sym e) (by (is_flawless g) refl)
      where
        by : (b : Bool) → is_flawless g ≡ b → AreToldBelow m index content (n + 1) (fs ++ cond b [] (g ∷ []))
        by true f = subst (λ xs. AreToldBelow m index content (n + 1) xs) (sym (append-nil fs)) (same_told f)
        by false f = more_told f

  -- no package is told exactly where the content is a valid selection
  pub nothing_told : IsContent content → HasRoot q content → (fs : List Flawed) → AreTold m index content fs
      → (fs ≡ []) ↔ IsValidSelection q content
  nothing_told formed root fs told = (to, from fs told)
    where
      faultless : fs ≡ [] → (n : ℕ) → IsPlace q content n → IsFaultless q content n
      faultless e n lt = elim
          (told.every n lt) [ inl free ↦ free | inr (f, c, s) ↦ absurd (in_none f (subst (λ xs. Contains xs f) e c)) ]

      to : fs ≡ [] → IsValidSelection q content
      to e = (valid_iff q content formed).0 (root, faultless e)

      from : (gs : List Flawed) → AreTold m index content gs → IsValidSelection q content → gs ≡ []
      from [] t v = refl
      from (g ∷ gs) t v =
          let first = all_first (IsToldBelow m index content (length content)) g gs t.each in
          absurd (first.2 (((valid_iff q content formed).1 v).1 g.place first.1))

  -- where no place is left, all are told
  pub all_told : (n : ℕ) (fs : List Flawed) → length content ≤ n → AreToldBelow m index content n fs
      → AreTold m index content fs
  all_told n fs le told = record {
    each = λ i d lt. (let t = told.each i d lt in (t.0, t.0.is_there, t.2));
    every = λ k lt. told.every k (omega (arith, lt, le));
    in_order = told.in_order;
  }
