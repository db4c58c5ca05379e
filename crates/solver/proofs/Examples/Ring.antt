-- A package that holds itself, in a ring that the root doesn't need: the selection is valid, and the root alone doesn't
-- bring it.
use Rattle.std.proofs.Common.{◌≡◌, ℕ, zero, suc, [], ◌∷◌, Contains, Some, slice_get, refl, sym, ap, ◌∙◌, subst, subst₂}
use Rattle.std.proofs.Common.{false, true≢false, arith}
use Rattle.std.proofs.lemmas.Option.{none-some, same_Some}
use Rattle.model.specs.Summary.{Dependency, Table, dependency, asked_of_target}
use Rattle.model.specs.Selection.{Fact, Holds, here, on, enabled, Brings, IsValidSelection, HasTarget, IsRootAt}
use Rattle.model.specs.Selection.Holds.{starts, arrives, root_needs, needs, asks, root_wants, turns_on, enables}
use Rattle.model.specs.Selection.Holds.{enables_for, wants, wants_weakly}
use Rattle.model.specs.Content.{Problem, Content, Package, is_root, summary_at, target_of}
use Rattle.model.proofs.Lists.{in_none}
use Rattle.model.proofs.Examples.Small.{text_a, text_b, text_f, version_1_0, on_any, asking, optional_on, candidate}
use Rattle.model.proofs.Examples.Small.{asked_by_demo, locked, demo}
use Rattle.model.proofs.Examples.Held.{ring-valid}
use Rattle.model.specs.Selected.{IsBrought}

-- f enables b
abbrev table : Table
table = (text_f, dependency text_b ∷ []) ∷ []

abbrev pub held : Problem
held = asked_by_demo (on_any text_a ∷ [])
    ((text_a, candidate version_1_0 (optional_on text_b ∷ []) table ∷ [])
    ∷ (text_b, candidate version_1_0 (asking text_a (text_f ∷ []) ∷ []) [] ∷ []) ∷ [])

abbrev package_a : Package
package_a = locked text_a version_1_0 (1 ∷ [])

abbrev package_b : Package
package_b = locked text_b version_1_0 (0 ∷ [])

abbrev pub ring : Content
ring = package_a ∷ package_b ∷ demo (0 ∷ []) ∷ []

pub is_valid : IsValidSelection held ring
is_valid = ring-valid

root_is : (n : ℕ) → IsRootAt held ring n → n ≡ 2
root_is zero (p, got, is) = absurd (true≢false (sym (ap (is_root held) (same_Some package_a p got) ∙ is)))
root_is (suc zero) (p, got, is) = absurd (true≢false (sym (ap (is_root held) (same_Some package_b p got) ∙ is)))
root_is (suc (suc zero)) r = refl
root_is (suc (suc (suc n))) (p, got, is) = absurd (none-some p got)

-- the root has one dependency, which leads to a
demo_dep : (n i : ℕ) (d : Dependency) → n ≡ 2 → Brings (summary_at held ring) n i d → on_any text_a ≡ d
demo_dep n i d place b = by i (subst (λ m. slice_get (summary_at held ring m).dependencies i ≡ Some d) place b)
  where
    by : (i : ℕ) → slice_get (summary_at held ring 2).dependencies i ≡ Some d → on_any text_a ≡ d
    by zero e = same_Some (on_any text_a) d e
    by (suc i) e = absurd (none-some d e)

leads_to_a : (n t i : ℕ) (d : Dependency) → n ≡ 2 → Brings (summary_at held ring) n i d
    → HasTarget held ring n d t → 0 ≡ t
leads_to_a n t i d place b to =
    same_Some 0 t (subst₂ (λ m x. target_of ring m x ≡ Some t) place (sym (demo_dep n i d place b)) to)

-- but for b the root alone needs its dependencies
needed_at : (n i : ℕ) (d : Dependency) → (n ≡ 1 → ⊥) → Brings (summary_at held ring) n i d → d.optional ≡ false → n ≡ 2
needed_at zero zero d other b stays =
    absurd (true≢false (ap (λ (x : Dependency). x.optional) (same_Some (optional_on text_b) d b) ∙ stays))
needed_at zero (suc i) d other b stays = absurd (none-some d b)
needed_at (suc zero) i d other b stays = absurd (other refl)
needed_at (suc (suc zero)) i d other b stays = refl
needed_at (suc (suc (suc n))) i d other b stays = absurd (none-some d b)

abbrev IsBroughtFact : Fact ℕ → Type 0
IsBroughtFact = Holds (summary_at held ring) (IsRootAt held ring) (IsRootAt held ring) held.root_asks
    (λ n i d t. HasTarget held ring n d t)

-- b isn't here, no feature is on, and the root's dependency alone is enabled
abbrev Only : Fact ℕ → Type 0
Only (here n) = n ≡ 1 → ⊥
Only (on n f) = ⊥
Only (enabled n i) = n ≡ 2

only : (x : Fact ℕ) → IsBroughtFact x → Only x
only x (starts n r) = λ e. let two = root_is n r in omega (arith, e, two)
only x (arrives n t i d h b l) = λ e. let first =
    leads_to_a n t i d (only (enabled n i) h) b l in omega (arith, e, first)
only x (root_needs n i d h r b) = root_is n r
only x (needs n i d h b stays) = needed_at n i d (only (here n) h) b stays
only x (asks n t i d f h b l a) = in_none f
    (subst (λ (y : Dependency). Contains (asked_of_target y) f) (sym (demo_dep n i d (only (enabled n i) h) b)) a)
only x (root_wants n t i d g h r b l a) = in_none (d.name, g) a
only x (turns_on n f g h l) = only (on n f) h
only x (enables n i d f h b l) = absurd (only (on n f) h)
only x (enables_for n i d f g h b l) = absurd (only (on n f) h)
only x (wants n t i d f g h b l to) = only (on n f) h
only x (wants_weakly n t i d f g h b l e to) = only (on n f) h

pub not_brought : IsBrought held ring → ⊥
not_brought brought = only (here 1) (brought 1 (omega arith)) refl
