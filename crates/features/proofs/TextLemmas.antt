-- Where a text is split at a byte.
use Rattle.std.proofs.Common.{◌≡◌, ℕ, ◌<◌, ◌+◌, suc, List, [], ◌∷◌, length, Bool, true, false, not, cond, ◌||◌, ◌==◌}
use Rattle.std.proofs.Common.{Option, Some, None, option_map, option_copied, take, ◌-◌, refl, ap, ◌∙◌, arith}
use Rattle.std.proofs.Common.{MatchOption}
use Rattle.std.specs.List.{list_any, position_or_len, before_first, after_first}
use Rattle.std.specs.Borrow.{Bor}
use Rattle.std.specs.Str.Pattern.{FindsTextSuffix, StripsSuffix}
use Rattle.std.proofs.lemmas.Str.Pattern.{ends_text}
use Rattle.features.specs.Names.{around, before_text}

-- some element passes just where the first place that does is within the list
pub list_any-within : (p : ℕ → Bool) (s : List ℕ) → position_or_len p s < length s → list_any p s ≡ true
list_any-within p [] lt = absurd (omega arith)
list_any-within p (x ∷ xs) lt = by (λ lt. list_any-within p xs lt) (p x) lt
  where
    by : (position_or_len p xs < length xs → list_any p xs ≡ true) → (b : Bool)
        → cond (not b) (1 + position_or_len p xs) 0 < suc (length xs) → (b || list_any p xs) ≡ true
    by rest true lt = refl
    by rest false lt = rest (omega arith)

pub list_any-none : (p : ℕ → Bool) (s : List ℕ) → position_or_len p s ≡ length s → list_any p s ≡ false
list_any-none p [] e = refl
list_any-none p (x ∷ xs) e = by (λ e. list_any-none p xs e) (p x) e
  where
    by : (position_or_len p xs ≡ length xs → list_any p xs ≡ false) → (b : Bool)
        → cond (not b) (1 + position_or_len p xs) 0 ≡ suc (length xs) → (b || list_any p xs) ≡ false
    by rest true e = absurd (omega arith)
    by rest false e = rest (omega arith)

pub around-split : (byte : ℕ) (s : List ℕ) (r : Option (Bor (List ℕ) × Bor (List ℕ)))
    → MatchOption r (position_or_len (λ b. b == byte) s ≡ length s)
    (λ x. (x.0.now ≡ before_first (λ b. b == byte) s) × (x.1.now ≡ after_first (λ b. b == byte) s)
    × (position_or_len (λ b. b == byte) s < length s))
    → option_map (λ p. (p.0.now, p.1.now)) r ≡ around byte s
around-split byte s None e = rw (list_any-none (λ b. b == byte) s e) refl
around-split byte s (Some x) (before, after, within) = rw (list_any-within (λ b. b == byte) s within) cc

-- what `strip_suffix` gives of a text
pub before-stripped : (end s : List ℕ) (r : Option (Bor (List ℕ))) → MatchOption r (FindsTextSuffix end s None)
    (λ x. StripsSuffix (FindsTextSuffix end) s x.now) → option_copied r ≡ before_text end s
before-stripped end s None none = rw (← ends_text false end s none) refl
before-stripped end s (Some x) (n, found, is, whole) =
    rw (← ends_text true end s (n, found, omega arith, rw found.0 found.2))
    (ap Some (is ∙ ap (λ k. take (length s - k) s) found.0))
