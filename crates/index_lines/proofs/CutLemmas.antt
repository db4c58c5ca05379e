-- What a text begins with, and which names are plain.
use Rattle.std.proofs.Common.{◌≡◌, ℕ, ◌+◌, List, [], ◌∷◌, ◌++◌, true, false, ◌&&◌, refl, sym, ap₂}
use Rattle.std.proofs.Common.{◌∙◌, take, drop, length, Option, Some, None, Bor, arith}
use Rattle.std.specs.Prelude.{IfSome, MatchOption, nat_eq}
use Rattle.std.specs.Cmp.Lexicographic.{pointwise}
use Rattle.std.specs.List.{list_all}
use Rattle.std.proofs.lemmas.Bool.{and_parts}
use Rattle.std.proofs.lemmas.Bool.Decides.{nat_tests}
use Rattle.std.proofs.lemmas.List.{take-append-drop}
use Rattle.model.proofs.Same.{text-same}
use Rattle.features.specs.Names.{is_package_byte, is_package_name}
use Rattle.trees.specs.inner.Parts.{is_plain, is_plain_byte}

-- what is left of bytes behind a text
pub stripped : (o : Option (Bor (List ℕ))) (bytes text : List ℕ)
    → MatchOption o (pointwise nat_eq (take (length text) bytes) text ≡ false)
    (λ x. (pointwise nat_eq (take (length text) bytes) text ≡ true) × (x.now ≡ drop (length text) bytes)
    × (length x.now + length text ≡ length bytes))
    → IfSome o (λ rest. bytes ≡ text ++ rest.now)
stripped None bytes text h = tt
stripped (Some x) bytes text h = sym (ap₂ (λ a b. a ++ b) (sym (text-same (take (length text) bytes) text h.0)) h.1
    ∙ take-append-drop (length text) bytes)

plain-byte : (b : ℕ) → is_package_byte b ≡ true → is_plain_byte b ≡ true
plain-byte b named = grind (arith, nat_tests)

plain-bytes : (bs : List ℕ) → list_all is_package_byte bs ≡ true → is_plain bs ≡ true
plain-bytes [] h = refl
plain-bytes (b ∷ bs) h = let t = and_parts (is_package_byte b) (list_all is_package_byte bs) h in
    ap₂ (λ x y. x && y) (plain-byte b t.0) (plain-bytes bs t.1)

pub name-plain : (name : List ℕ) → is_package_name name ≡ true → is_plain name ≡ true
name-plain name h = plain-bytes name (and_parts _ (list_all is_package_byte name) (and_parts _ _ h).1).1
