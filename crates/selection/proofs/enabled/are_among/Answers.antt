use Rattle.std.proofs.Common.{◌≡◌, ℕ, ◌<◌, List, length, get_or, true, ◌∙◌, sym, ap, refl, subst, arith, inl, inr}
use Rattle.std.specs.BTreeSet.{contains}
use Rattle.std.specs.Ordering.{nat_cmp}
use Rattle.std.proofs.lemmas.Bool.{cases_lt}
use Rattle.std.proofs.lemmas.Option.{slice_get-get_or, same_Some}
use Rattle.selection.proofs.enabled.are_among.Goals as goal

same_element : (xs : List ℕ) (i d e : ℕ) → i < length xs → get_or xs i d ≡ get_or xs i e
same_element xs i d e lt =
    same_Some (get_or xs i d) (get_or xs i e) (sym (slice_get-get_or xs i d lt) ∙ slice_get-get_or xs i e lt)

pub listed-preserved : goal.listed-preserved
listed-preserved c =
    λ k d lt. elim (cases_lt k c.listed.place-index) [
      | inl less ↦ c.listed.invariant k d less
      | inr back ↦
          let e : k ≡ c.listed.place-index = omega (arith, lt, back) in
          subst (λ i. contains nat_cmp c.args.places.now (get_or c.args.list.now i d) ≡ true) (sym e)
          (ap (contains nat_cmp c.args.places.now) (same_element c.args.list.now c.listed.place-index d 0
          c.listed-test.true) ∙ sym c.contains.ensures ∙ c.if-not-contains.false)
    ]

pub returns : goal.returns
returns c = (
  λ e t h. subst (λ x. contains nat_cmp c.args.places.now x ≡ true) h.2
      (c.listed.invariant h.0 t (omega (arith, h.1, c.listed-test.false))),
  λ h. refl,
)
