-- The number of a state that stands alone.
use Rattle.std.proofs.Common.{◌≡◌, ℕ, zero, suc, ◌+◌, ◌<◌, ◌≤◌, Bool, true, false, not, cond, List, [], ◌∷◌}
use Rattle.std.proofs.Common.{length, map, option_map, Some, None, refl, sym, ap, ap₂, ◌∙◌}
use Rattle.std.proofs.Common.{arith, inl, inr}
use Rattle.std.specs.List.{position, position_or_len}
use Rattle.std.proofs.Math.Dec.{ltb}
use Rattle.std.proofs.lemmas.Bool.{cases_lt, le-ltb, lt-ltb}
use Rattle.std.proofs.lemmas.List.{length-map, length-replicate, length-set}
use Rattle.model.specs.Selection.{Class}
use Rattle.model.specs.Vertices.{same_class}
use Rattle.version_sets.specs.Sets.{none, only}
use Rattle.numbering.specs.inner.TestedTerms.{is_class}

-- ---- the first state of one that stands alone

first_only : (n i : ℕ) → i < n → position_or_len (λ b. b) (only n i) ≡ i
first_only zero i lt = absurd (omega (arith, lt))
first_only (suc n) zero lt = refl
first_only (suc n) (suc i) lt =
    let next : 1 + i ≡ suc i = omega arith in
    ap (λ k. 1 + k) (first_only n i (omega (arith, lt))) ∙ next

past_only : (n i : ℕ) → n ≤ i → position_or_len (λ b. b) (only n i) ≡ n
past_only zero i le = refl
past_only (suc n) zero le = absurd (omega (arith, le))
past_only (suc n) (suc i) le =
    let next : 1 + n ≡ suc n = omega arith in
    ap (λ k. 1 + k) (past_only n i (omega (arith, le))) ∙ next

long_only : (n i : ℕ) → length (only n i) ≡ n
long_only n i = length-set (none n) i true ∙ length-replicate n false

pub one_first : (n i : ℕ) → i < n → Some i ≡ position (λ b. b) (only n i)
one_first n i lt = sym (
    ap₂ (λ k m. cond (ltb k m) (Some k) None) (first_only n i lt) (long_only n i)
    ∙ ap (λ b. cond b (Some i) None) (lt-ltb i n lt))

pub past_first : (n i : ℕ) → n ≤ i → None ≡ position (λ b. b) (only n i)
past_first n i le = sym (
    ap₂ (λ k m. cond (ltb k m) (Some k) None) (past_only n i le) (long_only n i)
    ∙ ap (λ b. cond b (Some n) None) (le-ltb n n (omega arith)))

-- ---- the first state after absent

module _ {X : Type 0} (p : X → Bool) where
  first_of_tests : (xs : List X) → position_or_len (λ b. b) (map p xs) ≡ position_or_len p xs
  first_of_tests [] = refl
  first_of_tests (x ∷ xs) = ap (λ k. cond (not (p x)) (1 + k) 0) (first_of_tests xs)

  after_absent : (xs : List X) → position (λ b. b) (false ∷ map p xs) ≡ option_map (λ k. suc k) (position p xs)
  after_absent xs =
      ap₂ (λ k m. cond (ltb (1 + k) (suc m)) (Some (1 + k)) None) (first_of_tests xs) (length-map xs p)
      ∙ elim (cases_lt (position_or_len p xs) (length xs)) [
        | inl less ↦
            let next : 1 + position_or_len p xs ≡ suc (position_or_len p xs) = omega arith in
            ap (λ b. cond b (Some (1 + position_or_len p xs)) None)
            (lt-ltb (1 + position_or_len p xs) (suc (length xs)) (omega (arith, less)))
            ∙ ap Some next ∙ sym (ap (λ b. option_map (λ k. suc k) (cond b (Some (position_or_len p xs)) None))
            (lt-ltb (position_or_len p xs) (length xs) less))
        | inr le ↦
            ap (λ b. cond b (Some (1 + position_or_len p xs)) None)
            (le-ltb (1 + position_or_len p xs) (suc (length xs)) (omega (arith, le)))
            ∙ sym (ap (λ b. option_map (λ k. suc k) (cond b (Some (position_or_len p xs)) None))
            (le-ltb (position_or_len p xs) (length xs) le))
      ]

pub class_after_absent : (k : Class) (ms : List Class) → position (λ b. b) (false ∷ map (is_class k) ms)
    ≡ option_map (λ n. suc n) (position (λ m. same_class m k) ms)
unfolding is_class
class_after_absent k ms = after_absent (is_class k) ms
