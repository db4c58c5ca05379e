-- A text is split at the byte that joins it, where what stands before has none.
use Rattle.std.proofs.Common.{◌≡◌, ℕ, suc, ◌+◌, List, [], ◌∷◌, ◌++◌, length, take, drop, Bool, true, false, not, cond}
use Rattle.std.proofs.Common.{◌||◌, ◌==◌, Some, None, Ok, refl, ap, ap₂, ◌∙◌, arith}
use Rattle.std.proofs.lemmas.Bool.{eq-eqb, and_parts, or_parts}
use Rattle.std.proofs.lemmas.List.Folds.{list_any-append}
use Rattle.std.specs.List.{list_any, list_all, position_or_len, before_first, after_first}
use Rattle.features.specs.Names.{around}
use Rattle.vertices.specs.Texts.{parted}

-- the text has no such byte
abbrev pub Lacks : ℕ → List ℕ → Type 0
Lacks byte text = list_any (λ b. b == byte) text ≡ false

pub lacks-append : (byte : ℕ) (a b : List ℕ) → Lacks byte a → Lacks byte b → Lacks byte (a ++ b)
lacks-append byte a b h k = list_any-append (λ x. x == byte) a b ∙ ap₂ (λ x y. x || y) h k

-- of a test that the byte fails
pub lacks-all : (test : ℕ → Bool) (byte : ℕ) → ((b : ℕ) → test b ≡ true → (b == byte) ≡ false) → (text : List ℕ)
    → list_all test text ≡ true → Lacks byte text
lacks-all test byte other [] h = refl
lacks-all test byte other (b ∷ bs) h =
    let p = and_parts (test b) (list_all test bs) h in
    ap₂ (λ x y. x || y) (other b p.0) (lacks-all test byte other bs p.1)

one-more : (n : ℕ) → 1 + n ≡ suc n
one-more n = omega arith

-- the first such byte is the one that joins
first-place : (byte : ℕ) (a b : List ℕ) → Lacks byte a → position_or_len (λ x. x == byte) (a ++ (byte ∷ b)) ≡ length a
first-place byte [] b h = ap (λ t. cond (not t) (1 + position_or_len (λ x. x == byte) b) 0) (eq-eqb byte byte refl)
first-place byte (x ∷ a) b h =
    let p = or_parts (x == byte) (list_any (λ y. y == byte) a) h in
    ap (λ t. cond (not t) (1 + position_or_len (λ y. y == byte) (a ++ (byte ∷ b))) 0) p.0
    ∙ ap (λ n. 1 + n) (first-place byte a b p.1) ∙ one-more (length a)

found : (byte : ℕ) (a b : List ℕ) → list_any (λ x. x == byte) (a ++ (byte ∷ b)) ≡ true
found byte [] b = ap (λ t. t || list_any (λ x. x == byte) b) (eq-eqb byte byte refl)
found byte (x ∷ a) b = or-true (x == byte) _ (found byte a b)
  where
    or-true : (s t : Bool) → t ≡ true → (s || t) ≡ true
    or-true true t e = refl
    or-true false t e = e

take-seam : (a b : List ℕ) → take (length a) (a ++ b) ≡ a
take-seam [] b = refl
take-seam (x ∷ a) b = ap (λ t. x ∷ t) (take-seam a b)

drop-seam : (byte : ℕ) (a b : List ℕ) → drop (length a + 1) (a ++ (byte ∷ b)) ≡ b
drop-seam byte [] b = refl
drop-seam byte (x ∷ a) b = ap (λ k. drop k (x ∷ (a ++ (byte ∷ b)))) (later (length a)) ∙ drop-seam byte a b
  where
    later : (n : ℕ) → suc n + 1 ≡ suc (n + 1)
    later n = omega arith

pub around-first : (byte : ℕ) (a b : List ℕ) → Lacks byte a → around byte (a ++ (byte ∷ b)) ≡ Some (a, b)
around-first byte a b h =
    let n = first-place byte a b h in
    let text = a ++ (byte ∷ b) in
    ap (λ t.
    cond t (Some (before_first (λ x. x == byte) text, after_first (λ x. x == byte) text)) None) (found byte a b)
    ∙ ap (λ k. Some (take k text, drop (k + 1) text)) n
    ∙ ap₂ (λ s t. Some (s, t)) (take-seam a (byte ∷ b)) (drop-seam byte a b)

pub parted-first : (byte : ℕ) (a b : List ℕ) → Lacks byte a → parted byte (a ++ (byte ∷ b)) ≡ Ok (a, b)
parted-first byte a b h = rw (around-first byte a b h) refl
