-- Digits without a leading zero are what `parse` reads as a number, as long as it fits.
use Rattle.std.proofs.Common.{nat_lt, ◌≡◌, ◌≢◌, ℕ, ◌<◌, ◌≤◌, ◌^◌, List, [], ◌∷◌, get_or, Bool, true, false, None}
use Rattle.std.proofs.Common.{refl, arith}
use Rattle.std.specs.Char.{digit_value, is_ascii_digit}
use Rattle.std.specs.List.{list_all}
use Rattle.std.specs.Str.Parse.{AllDigits, IsNumeral, digits_value, without_leading_plus}
use Rattle.std.proofs.lemmas.Bool.{ltb-true, leb-true, and_parts}
use Rattle.std.proofs.lemmas.Str.Parse.{without_leading_plus_none}
use Rattle.classes.specs.Classes.{is_plain_number, number_of}

is_digit : (c : ℕ) → is_ascii_digit c ≡ true → (48 ≤ c) × (c ≤ 57)
is_digit c e = let p = and_parts _ _ e in (leb-true _ _ p.0, leb-true _ _ p.1)

digit_below : (c : ℕ) → is_ascii_digit c ≡ true → digit_value c < 10
digit_below c e =
    let at = is_digit c e in
    let low : nat_lt c 48 ≡ false = grind arith in
    let high : nat_lt c 58 ≡ true = grind arith in
    rw (low, high) (omega arith)

all_digits : (text : List ℕ) → list_all is_ascii_digit text ≡ true → AllDigits 10 text
all_digits [] e = tt
all_digits (c ∷ text) e = let p = and_parts _ _ e in (digit_below c p.0, all_digits text p.1)

no_plus : (text : List ℕ) → list_all is_ascii_digit text ≡ true → get_or text 0 0 ≢ 43
no_plus [] e h = omega arith
no_plus (c ∷ text) e h = let at = is_digit c (and_parts _ _ e).0 in omega arith

pub refused : (text : List ℕ) → is_plain_number text ≡ true
    → (IsNumeral 10 (without_leading_plus text) × (digits_value 10 (without_leading_plus text) < 2 ^ 64) → ⊥)
    → None ≡ number_of text
refused text plain refusal =
    let rest = and_parts _ _ plain in
    let digits : list_all is_ascii_digit text ≡ true = (and_parts _ _ rest.1).0 in
    let same : without_leading_plus text ≡ text = without_leading_plus_none text (no_plus text digits) in
    let numeral : IsNumeral 10 text = (leb-true _ _ rest.0, all_digits text digits) in
    by (λ lt. refusal (rw same (numeral, lt))) (nat_lt (digits_value 10 text) (2 ^ 64)) refl
  where
    by : (digits_value 10 text < 2 ^ 64 → ⊥) → (b : Bool)
        → nat_lt (digits_value 10 text) (2 ^ 64) ≡ b → None ≡ number_of text
    by over true lt = absurd (over (ltb-true _ _ lt))
    by over false lt = rw (plain, lt) refl
