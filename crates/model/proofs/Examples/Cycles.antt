-- A cycle of features doesn't start itself.
use Rattle.std.proofs.Common.{◌≡◌, ◌⊎◌, ℕ, zero, suc, List, [], ◌∷◌, Contains, refl, sym, ap, ◌∙◌, subst, inl, inr}
use Rattle.std.proofs.Common.{true≢false, arith}
use Rattle.std.proofs.lemmas.Option.{none-some, same_Some}
use Rattle.model.specs.Summary.{Dependency, Table, feature, dependency, asked_of_target}
use Rattle.model.specs.Selection.{Fact, here, on, enabled, Brings, IsFact, IsRootAt}
use Rattle.model.specs.Selection.Holds.{starts, arrives, root_needs, needs, asks, root_wants, turns_on, enables}
use Rattle.model.specs.Selection.Holds.{enables_for, wants, wants_weakly}
use Rattle.model.specs.Content.{Problem, Content, is_root, summary_at}
use Rattle.model.proofs.Lists.{in_none}
use Rattle.model.proofs.Examples.Small.{text_a, text_b, text_f, text_g, version_1_0, on_any, optional_on, candidate}
use Rattle.model.proofs.Examples.Small.{asked_by_demo, locked, demo, no_feature_on}

-- f puts on g, and g puts on f and enables b
abbrev ring : Table
ring = (text_f, feature text_g ∷ []) ∷ (text_g, feature text_f ∷ dependency text_b ∷ []) ∷ []

abbrev ringed : Problem
ringed = asked_by_demo (on_any text_a ∷ []) ((text_a, candidate version_1_0 (optional_on text_b ∷ []) ring ∷ [])
    ∷ (text_b, candidate version_1_0 [] [] ∷ []) ∷ [])

abbrev off : Content
off = locked text_a version_1_0 [] ∷ demo (0 ∷ []) ∷ []

dep_here : (n i : ℕ) (d : Dependency) → Brings (summary_at ringed off) n i d
    → ((n ≡ 0) × (optional_on text_b ≡ d)) ⊎ ((n ≡ 1) × (on_any text_a ≡ d))
dep_here zero zero d e = inl (refl, same_Some (optional_on text_b) d e)
dep_here zero (suc i) d e = absurd (none-some d e)
dep_here (suc zero) zero d e = inr (refl, same_Some (on_any text_a) d e)
dep_here (suc zero) (suc i) d e = absurd (none-some d e)
dep_here (suc (suc n)) i d e = absurd (none-some d e)

asks_none : (n i : ℕ) (d : Dependency) (f : List ℕ) → Brings (summary_at ringed off) n i d
    → Contains (asked_of_target d) f → ⊥
asks_none n i d f b c = elim (dep_here n i d b) [
  | inl h ↦ in_none f (subst (λ (x : Dependency). Contains (asked_of_target x) f) (sym h.1) c)
  | inr h ↦ in_none f (subst (λ (x : Dependency). Contains (asked_of_target x) f) (sym h.1) c)
]

-- nobody asks for f or g, so both stay off, though each would put on the other
pub ring_stays_off : (n : ℕ) (f : List ℕ) → IsFact ringed off (on n f) → ⊥
ring_stays_off n f h = no_feature_on ringed off asks_none refl n f h

-- only what the root brings is enabled
abbrev OfRoot : Fact ℕ → Type 0
OfRoot (here n) = Unit {0}
OfRoot (on n f) = Unit {0}
OfRoot (enabled n i) = n ≡ 1

root_place : (n : ℕ) → IsRootAt ringed off n → n ≡ 1
root_place zero (p, got, is) =
    absurd (true≢false (sym (ap (is_root ringed) (same_Some (locked text_a version_1_0 []) p got) ∙ is)))
root_place (suc zero) r = refl
root_place (suc (suc n)) (p, got, is) = absurd (none-some p got)

of_root : (f : Fact ℕ) → IsFact ringed off f → OfRoot f
of_root f (starts n lt) = tt
of_root f (arrives n t i d h b l) = tt
of_root f (root_needs n i d h e b) = root_place n e
of_root f (needs n i d h b o) = elim (dep_here n i d b) [
  | inl x ↦ absurd (true≢false (ap (λ (y : Dependency). y.optional) x.1 ∙ o))
  | inr x ↦ x.0
]
of_root f (asks n t i d g h b l a) = tt
of_root f (root_wants n t i d g h e b l a) = tt
of_root f (turns_on n g k h l) = tt
of_root f (enables n i d g h b l) = absurd (ring_stays_off n g h)
of_root f (enables_for n i d g k h b l) = absurd (ring_stays_off n g h)
of_root f (wants n t i d g k h b l to) = tt
of_root f (wants_weakly n t i d g k h b l e to) = tt

-- so b isn't enabled
pub ring_enables_nothing : IsFact ringed off (enabled 0 0) → ⊥
ring_enables_nothing h = let x : zero ≡ suc zero = of_root (enabled 0 0) h in omega arith
