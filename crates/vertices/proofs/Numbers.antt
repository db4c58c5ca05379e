-- Decimal texts read as their numbers, and the texts of classes as the classes.
use Rattle.std.proofs.Common.{◌≡◌, ℕ, zero, suc, ◌+◌, ◌%◌, ◌<◌, ◌^◌, List, [], ◌∷◌, length, get_or, slice_index, Bool}
use Rattle.std.proofs.Common.{true, false, not, cond, ◌&&◌, ◌||◌, ◌==◌, Some, None, Ok, nat_lt, nat_le, decimal, codes}
use Rattle.std.proofs.Common.{refl, ap, ap₂, ◌∙◌, arith}
use Rattle.std.specs.Char.{is_ascii_digit}
use Rattle.std.specs.List.{list_all}
use Rattle.std.proofs.lemmas.Bool.{lt-ltb, le-leb}
use Rattle.std.proofs.lemmas.Bool.Decides.{nat_tests}
use Rattle.std.proofs.lemmas.Fmt.{decimal_by_steps, decimal_digit, decimal_is_IsNumeral, decimal_nonempty}
use Rattle.std.proofs.lemmas.Fmt.{first_decimal}
use Rattle.std.proofs.lemmas.List.Folds.{list_all-append}
use Rattle.semver.specs.Grammar.{IsValid}
use Rattle.semver.specs.Parse.{Parts}
use Rattle.model.specs.Outcome.{◌>>=◌}
use Rattle.model.specs.Selection.{Class, patch, minor, major, class_of}
use Rattle.features.specs.Names.{after_text}
use Rattle.classes.specs.Classes.{class_text, is_plain_number, number_of}
use Rattle.vertices.specs.Texts.{above_zero, class_or, class_of_text, index_of}
use Rattle.vertices.specs.inner.Valid.{IsValidClass, IsIndex}

digit : (m : ℕ) → m < 10 → is_ascii_digit (48 + m) ≡ true
digit m h = grind arith

pub decimal-digits : (n : ℕ) → n < 2 ^ 64 → list_all is_ascii_digit (decimal n) ≡ true
decimal-digits n h =
    decimal_by_steps (λ m ds. list_all is_ascii_digit ds ≡ true) (λ m l. ap (λ t. t && true) (digit m l))
    (λ m ds l e. list_all-append is_ascii_digit ds ((48 + m % 10) ∷ [])
    ∙ ap₂ (λ s t. s && (t && true)) e (digit (m % 10) (omega arith))) n h

all-three : (a b c : Bool) → a ≡ true → b ≡ true → c ≡ true → (a && (b && c)) ≡ true
all-three true true true p q r = refl
all-three true true false p q r = r
all-three true false c p q r = q
all-three false b c p q r = p

plain-decimal : (n : ℕ) → n < 2 ^ 64 → is_plain_number (decimal n) ≡ true
plain-decimal zero h = ap is_plain_number (decimal_digit 0 (omega arith))
plain-decimal (suc n) h =
    let first : 48 < get_or (decimal (suc n)) 0 0 = first_decimal (suc n) (omega arith) h in
    all-three _ _ _ (le-leb _ _ (decimal_nonempty (suc n) h)) (decimal-digits (suc n) h)
    (no-zero (decimal (suc n)) first)
  where
    no-zero : (ds : List ℕ) → 48 < get_or ds 0 0 → (nat_le (length ds) 1 || not (slice_index ds 0 == 48)) ≡ true
    no-zero [] h = absurd (omega arith)
    no-zero (c ∷ cs) h = or-true (nat_le (length (c ∷ cs)) 1) (c == 48) (grind arith)
      where
        or-true : (s t : Bool) → t ≡ false → (s || not t) ≡ true
        or-true true t e = refl
        or-true false t e = ap not e

pub number-reads : (n : ℕ) → n < 2 ^ 64 → number_of (decimal n) ≡ Some n
number-reads n h =
    by _ _ _ n (plain-decimal n h) (lt-ltb _ _ (rw ((decimal_is_IsNumeral n h).1) h)) (decimal_is_IsNumeral n h).1
  where
    by : (a b : Bool) (m n : ℕ) → a ≡ true → b ≡ true → m ≡ n → cond (a && b) (Some m) None ≡ Some n
    by true true m n p q e = ap Some e
    by true false m n p q e = cc
    by false b m n p q e = cc

pub above_zero-reads : (n : ℕ) → 0 < n → n < 2 ^ 64 → above_zero (decimal n) ≡ Ok n
unfolding above_zero
above_zero-reads n some h = rw (number-reads n h, lt-ltb 0 n some) refl

pub index-reads : (n : ℕ) → IsIndex n → index_of (decimal n) ≡ Ok n
unfolding index_of
index-reads n h = rw (number-reads n (omega arith), lt-ltb n 4294967296 h) refl

-- ---- classes

no-front : (ds : List ℕ) → 48 < get_or ds 0 0 → after_text (codes "0.") ds ≡ None
no-front [] h = absurd (omega arith)
no-front (c ∷ cs) h = let other : (48 == c) ≡ false = grind arith in rw other refl

pub class-is-read : (c : Class) → IsValidClass c → class_of_text (class_text c) ≡ Ok c
class-is-read (major n) h =
    ap (class_or (decimal n)) (no-front (decimal n) (first_decimal n h.0 h.1))
    ∙ ap (λ r. r >>= λ m. Ok (major m)) (above_zero-reads n h.0 h.1)
class-is-read (minor n) h = rw (no-front (decimal n) (first_decimal n h.0 h.1), above_zero-reads n h.0 h.1) refl
class-is-read (patch n) h = rw (number-reads n h) refl

pub class-of-valid : (v : Parts) → IsValid v → IsValidClass (class_of v)
class-of-valid v h = by (nat_lt 0 v.0) (nat_lt 0 v.1) refl refl
  where
    by : (a b : Bool) → nat_lt 0 v.0 ≡ a → nat_lt 0 v.1 ≡ b
        → IsValidClass (cond a (major v.0) (cond b (minor v.1) (patch v.2)))
    by true b p q = (grind (arith, nat_tests), h.0)
    by false true p q = (grind (arith, nat_tests), h.1)
    by false false p q = h.2
