-- Where propagation has nothing to do, the assignment that is taken breaks no instance.
use Rattle.std.proofs.Common.{◌≡◌, ◌≢◌, ℕ, zero, suc, [], ◌∷◌, Bool, true, false, Option, Some, None}
use Rattle.std.proofs.Common.{refl, sym, ◌∙◌, subst, arith}
use Rattle.version_sets.proofs.Within.{has_some, meets_at}
use Rattle.version_sets.specs.Sets.{Members, has, inside}
use Rattle.incompatibilities.specs.Incompatibilities.{Assignment, Terms, HoldsOf, Breaks}
use Rattle.numbering.specs.inner.Absences.{HasZero, OneZero}
use Rattle.numbering.specs.inner.Finals.{IsFinal, IsAtRest}
use Rattle.incompatibilities.specs.Incompatibilities.{HoldsAt}

inside_from : (s x : Members) → ((j : ℕ) → has s j ≡ true → has x j ≡ true) → inside s x ≡ true
inside_from [] x h = refl
inside_from (true ∷ s) [] h = let z : false ≡ true = h zero refl in cc
inside_from (false ∷ s) [] h = inside_from s [] (λ j e. h (suc j) e)
inside_from (true ∷ s) (true ∷ x) h = inside_from s x (λ j e. h (suc j) e)
inside_from (true ∷ s) (false ∷ x) h = let z : false ≡ true = h zero refl in cc
inside_from (false ∷ s) (y ∷ x) h = inside_from s x (λ j e. h (suc j) e)

module _ (sets : ℕ → Members) (f : Terms) (x : Assignment)
    (final : (u : ℕ) (s : Members) → f u ≡ Some s → IsFinal (sets u) (x u)) where
  one_left : (u : ℕ) (s : Members) → f u ≡ Some s → x u ≢ 0 → has s (x u) ≡ true → HoldsAt (sets u) (Some s)
  one_left u s e n h =
      let r = final u s e in (
        has_some (sets u) (x u) r.left,
        inside_from (sets u) s (λ j k. subst (λ i. has s i ≡ true) (sym (r.alone n j k)) h),
      )

  broken_has : Breaks x f → (u : ℕ) (s : Members) → f u ≡ Some s → has s (x u) ≡ true
  broken_has b u s e = subst (λ o. HoldsOf o (x u)) e (b u)

  pub breaks_not : OneZero f → IsAtRest sets f → Breaks x f → ⊥
  breaks_not one rest b = rest.not_all (λ u. all u (f u) refl)
    where
      zero_here : (u : ℕ) (s : Members) → f u ≡ Some s → x u ≡ 0 → HasZero (f u)
      zero_here u s e z = subst HasZero (sym e) (subst (λ i. has s i ≡ true) z (broken_has b u s e))

      others : (v : ℕ) (s : Members) → f v ≡ Some s → x v ≡ 0 → (u : ℕ) → u ≢ v → (o : Option Members)
          → f u ≡ o → HoldsAt (sets u) o
      others v s e z u n None k = tt
      others v s e z u n (Some y) k =
          one_left u y k (λ w. n (one u v (zero_here u y k w) (zero_here v s e z))) (broken_has b u y k)

      at_zero : (u : ℕ) (s : Members) → f u ≡ Some s → x u ≡ 0 → (c : Bool) → inside (sets u) s ≡ c
          → HoldsAt (sets u) (Some s)
      at_zero u s e z true i = (has_some (sets u) (x u) (final u s e).left, i)
      at_zero u s e z false i = absurd (rest.not_one u s (record {
        term = e;
        common = meets_at (sets u) s (x u) (final u s e).left (broken_has b u s e);
        apart = i;
        others = λ w n. others u s e z w n (f w) refl;
      }))

      some : (u : ℕ) (s : Members) → f u ≡ Some s → (i : ℕ) → x u ≡ i → HoldsAt (sets u) (Some s)
      some u s e zero z = at_zero u s e z (inside (sets u) s) refl
      some u s e (suc i) z =
          one_left u s e (λ w. let k : suc i ≡ 0 = sym z ∙ w in omega (arith, k)) (broken_has b u s e)

      all : (u : ℕ) (o : Option Members) → f u ≡ o → HoldsAt (sets u) o
      all u None e = tt
      all u (Some s) e = some u s e (x u) refl
