-- Where a text is cut at its first line end.
use Rattle.std.proofs.Common.{◌≡◌, ℕ, zero, suc, ◌+◌, ◌<◌, List, [], ◌∷◌, length, take, drop, Bool, true, false, refl}
use Rattle.std.proofs.Common.{ap, ◌∙◌, arith}
use Rattle.std.specs.List.{onto_first, slice_split}
use Rattle.std.specs.Prelude.{slice_index}
use Rattle.std.proofs.lemmas.List.Splits.{slice_split-cons_yes, slice_split-cons_no}
use Rattle.trees.specs.Trees.{is_line_end}

is_no : (b : Bool) → (b ≡ true → ⊥) → b ≡ false
is_no true h = absurd (h refl)
is_no false h = refl

split-first : (bytes : List ℕ) (k : ℕ) → k < length bytes
    → ((i : ℕ) → i < k → is_line_end (slice_index bytes i) ≡ true → ⊥) → is_line_end (slice_index bytes k) ≡ true
    → slice_split is_line_end bytes ≡ take k bytes ∷ slice_split is_line_end (drop (suc k) bytes)
split-first [] k low none ends = absurd (omega (arith, low))
split-first (b ∷ bs) zero low none ends = slice_split-cons_yes is_line_end b bs ends
split-first (b ∷ bs) (suc k) low none ends =
    slice_split-cons_no is_line_end b bs (is_no (is_line_end b) (none 0 (omega arith)))
    ∙ ap (onto_first b) (split-first bs k (omega (arith, low)) (λ i h. none (suc i) (omega (arith, h))) ends)

-- the same, with the next place as it is computed
pub split-at : (bytes : List ℕ) (k : ℕ) → k < length bytes
    → ((i : ℕ) → i < k → is_line_end (slice_index bytes i) ≡ true → ⊥) → is_line_end (slice_index bytes k) ≡ true
    → slice_split is_line_end bytes ≡ take k bytes ∷ slice_split is_line_end (drop (k + 1) bytes)
split-at bytes k low none ends =
    let next : k + 1 ≡ suc k = omega arith in
    rw next (split-first bytes k low none ends)

pub split-none : (bytes : List ℕ) → ((i : ℕ) → i < length bytes → is_line_end (slice_index bytes i) ≡ true → ⊥)
    → slice_split is_line_end bytes ≡ bytes ∷ []
split-none [] none = refl
split-none (b ∷ bs) none =
    slice_split-cons_no is_line_end b bs (is_no (is_line_end b) (none 0 (omega arith)))
    ∙ ap (onto_first b) (split-none bs (λ i h. none (suc i) (omega (arith, h))))
