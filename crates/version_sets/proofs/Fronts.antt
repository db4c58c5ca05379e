-- Lists of words of which a front has been worked on.
use Rattle.std.proofs.Common.{◌≡◌, ℕ, zero, suc, ◌+◌, ◌<◌, ◌≤◌, Bool, true, false, ◌&&◌, eqb, List, [], ◌∷◌, ◌++◌}
use Rattle.std.proofs.Common.{length, take, drop, get_or, set, map, bit_and, bit_or, refl, ap, ap₂, sym, ◌∙◌, arith}
use Rattle.std.proofs.Common.{eq-eqb, inl, inr}
use Rattle.std.proofs.Math.Bool.{and-true}
use Rattle.std.proofs.lemmas.Bool.{cases_eq, ne_eqb}
use Rattle.std.proofs.lemmas.List.{length-map, length-take}
use Rattle.std.proofs.lemmas.Nat.{and_le_l, and_le_r}
use Rattle.std.specs.Int.{bit_not, w64}
use Rattle.std.specs.Int.Bits.{or_add_and}
use Rattle.std.proofs.lemmas.Simd.{chunk-drop, length-chunk, length-zip2, put_chunk_is}
use Rattle.std.specs.Simd.Lanes.{chunk, fold_l, put_chunk, zip2}
use Rattle.version_sets.specs.inner.Words.{all_zero, and_not}

module _ (f : ℕ → ℕ → ℕ) where
  -- the words of a, with f of b's up to n, and as they were from there on
  abbrev pub done_to : ℕ → List ℕ → List ℕ → List ℕ
  done_to n a b = zip2 f (take n a) (take n b) ++ drop n a

  front_block : (a b : List ℕ) → 8 ≤ length a → length a ≡ length b
      → put_chunk 0 a (zip2 f (take 8 a) (take 8 b)) ≡ done_to 8 a b
  front_block a b room same =
      let both : length (zip2 f (take 8 a) (take 8 b)) ≡ 8 = length-zip2 f (take 8 a) (take 8 b)
      (length-take 8 a ∙ rw same (sym (length-take 8 b))) ∙ length-take 8 a ∙ omega arith in
      put_chunk_is 0 a (zip2 f (take 8 a) (take 8 b)) (omega arith)
      ∙ ap (λ n. zip2 f (take 8 a) (take 8 b) ++ drop n a) both

  pub block_step : (n : ℕ) (a b : List ℕ) → n + 8 ≤ length a → length a ≡ length b
      → put_chunk n (done_to n a b) (zip2 f (chunk n 8 (done_to n a b)) (chunk n 8 b)) ≡ done_to (n + 8) a b
  block_step zero a b room same = front_block a b (omega arith) same
  block_step (suc n) [] b room same = absurd (omega arith)
  block_step (suc n) (x ∷ xs) [] room same = absurd (omega arith)
  block_step (suc n) (x ∷ xs) (y ∷ ys) room same =
      let more : suc n + 8 ≡ suc (n + 8) = omega arith in
      rw more (ap (λ l. f x y ∷ l) (block_step n xs ys (omega arith) (omega arith)))

  pub word_step : (n : ℕ) (a b : List ℕ) → n < length a → length a ≡ length b
      → set (done_to n a b) n (f (get_or (done_to n a b) n 0) (get_or b n 0)) ≡ done_to (n + 1) a b
  word_step n [] b room same = absurd (omega arith)
  word_step n (x ∷ xs) [] room same = absurd (omega arith)
  word_step zero (x ∷ xs) (y ∷ ys) room same = refl
  word_step (suc n) (x ∷ xs) (y ∷ ys) room same =
      let more : suc n + 1 ≡ suc (n + 1) = omega arith in
      rw more (ap (λ l. f x y ∷ l) (word_step n xs ys (omega arith) (omega arith)))

  -- the words from n on, against all of them
  zip2-append : (xs ys us vs : List ℕ) → length xs ≡ length ys
      → zip2 f (xs ++ us) (ys ++ vs) ≡ zip2 f xs ys ++ zip2 f us vs
  zip2-append [] [] us vs e = refl
  zip2-append [] (y ∷ ys) us vs e = absurd (omega arith)
  zip2-append (x ∷ xs) [] us vs e = absurd (omega arith)
  zip2-append (x ∷ xs) (y ∷ ys) us vs e = ap (λ l. f x y ∷ l) (zip2-append xs ys us vs (omega arith))

  zeros-append : (xs ys : List ℕ) → all_zero (xs ++ ys) ≡ (all_zero xs && all_zero ys)
  zeros-append [] ys = refl
  zeros-append (x ∷ xs) ys = step (eqb x 0) (zeros-append xs ys)
    where
      step : (t : Bool) → all_zero (xs ++ ys) ≡ (all_zero xs && all_zero ys)
          → (t && all_zero (xs ++ ys)) ≡ ((t && all_zero xs) && all_zero ys)
      step true e = e
      step false e = refl

  pub zeros_block : (i : ℕ) (a b : List ℕ) → i + 8 ≤ length a → length a ≡ length b
      → all_zero (zip2 f (drop i a) (drop i b))
      ≡ (all_zero (zip2 f (chunk i 8 a) (chunk i 8 b)) && all_zero (zip2 f (drop (i + 8) a) (drop (i + 8) b)))
  zeros_block i a b room same =
      ap₂ (λ x y. all_zero (zip2 f x y)) (chunk-drop i 8 a) (chunk-drop i 8 b)
      ∙ ap all_zero (zip2-append (chunk i 8 a) (chunk i 8 b) (drop (i + 8) a) (drop (i + 8) b)
      (length-chunk i 8 a room ∙ sym (length-chunk i 8 b (omega arith))))
      ∙ zeros-append (zip2 f (chunk i 8 a) (chunk i 8 b)) (zip2 f (drop (i + 8) a) (drop (i + 8) b))

  -- a block is all zero, or not
  pub block_more : (i j : ℕ) (a b : List ℕ) (t whole : Bool) → j ≡ i + 8 → i + 8 ≤ length a → length a ≡ length b
      → t ≡ all_zero (zip2 f (chunk i 8 a) (chunk i 8 b)) → t ≡ true → all_zero (zip2 f (drop i a) (drop i b)) ≡ whole
      → all_zero (zip2 f (drop j a) (drop j b)) ≡ whole
  block_more i j a b t whole next room same is passed so_far =
      ap (λ k. all_zero (zip2 f (drop k a) (drop k b))) next
      ∙ sym (ap (λ x. x && all_zero (zip2 f (drop (i + 8) a) (drop (i + 8) b))) (sym is ∙ passed))
      ∙ sym (zeros_block i a b room same) ∙ so_far

  pub block_fails : (i : ℕ) (a b : List ℕ) (t whole : Bool) → i + 8 ≤ length a → length a ≡ length b
      → t ≡ all_zero (zip2 f (chunk i 8 a) (chunk i 8 b)) → t ≡ false
      → all_zero (zip2 f (drop i a) (drop i b)) ≡ whole → false ≡ whole
  block_fails i a b t whole room same is failed so_far =
      sym (ap (λ x. x && all_zero (zip2 f (drop (i + 8) a) (drop (i + 8) b))) (sym is ∙ failed))
      ∙ sym (zeros_block i a b room same) ∙ so_far

module _ (f : ℕ → ℕ) where
  abbrev pub turned_to : ℕ → List ℕ → List ℕ
  turned_to n a = map f (take n a) ++ drop n a

  length-map_take : (a : List ℕ) → 8 ≤ length a → length (map f (take 8 a)) ≡ 8
  length-map_take a room = length-map (take 8 a) f ∙ length-take 8 a ∙ omega arith

  pub turn_block : (n : ℕ) (a : List ℕ) → n + 8 ≤ length a
      → put_chunk n (turned_to n a) (map f (chunk n 8 (turned_to n a))) ≡ turned_to (n + 8) a
  turn_block zero a room = put_chunk_is 0 a (map f (take 8 a)) (omega (arith, length-map_take a (omega arith)))
      ∙ ap (λ n. map f (take 8 a) ++ drop n a) (length-map_take a (omega arith))
  turn_block (suc n) [] room = absurd (omega arith)
  turn_block (suc n) (x ∷ xs) room =
      let more : suc n + 8 ≡ suc (n + 8) = omega arith in
      rw more (ap (λ l. f x ∷ l) (turn_block n xs (omega arith)))

  pub turn_word : (n : ℕ) (a : List ℕ) → n < length a
      → set (turned_to n a) n (f (get_or (turned_to n a) n 0)) ≡ turned_to (n + 1) a
  turn_word n [] room = absurd (omega arith)
  turn_word zero (x ∷ xs) room = refl
  turn_word (suc n) (x ∷ xs) room =
      let more : suc n + 1 ≡ suc (n + 1) = omega arith in
      rw more (ap (λ l. f x ∷ l) (turn_word n xs (omega arith)))

-- the lanes joined are 0 where each is
or_zero : (a b : ℕ) → eqb (bit_or a b) 0 ≡ (eqb a 0 && eqb b 0)
or_zero a b = elim (cases_eq a 0) [
  | inl e ↦ elim (cases_eq b 0) [
    | inl s ↦ eq-eqb (bit_or a b) 0 (omega (arith, or_add_and a b))
        ∙ sym (ap₂ (λ x y. x && y) (eq-eqb a 0 e) (eq-eqb b 0 s))
    | inr o ↦ ne_eqb (bit_or a b) 0
        (λ (z : bit_or a b ≡ 0). o (omega (arith, or_add_and a b, and_le_l a b, and_le_r a b)))
        ∙ sym (ap₂ (λ x y. x && y) (eq-eqb a 0 e) (ne_eqb b 0 o))
  ]
  | inr o ↦ ne_eqb (bit_or a b) 0 (λ (z : bit_or a b ≡ 0).
      o (omega (arith, or_add_and a b, and_le_l a b, and_le_r a b))) ∙ sym (ap (λ x. x && eqb b 0) (ne_eqb a 0 o))
]

folded : (a : ℕ) (xs : List ℕ) → eqb (fold_l bit_or a xs) 0 ≡ (eqb a 0 && all_zero xs)
folded a [] = sym (and-true (eqb a 0))
folded a (x ∷ xs) = folded (bit_or a x) xs ∙ ap (λ b. b && all_zero xs) (or_zero a x) ∙ and_assoc (eqb a 0)
  where
    and_assoc : (b : Bool) → ((b && eqb x 0) && all_zero xs) ≡ (b && (eqb x 0 && all_zero xs))
    and_assoc true = refl
    and_assoc false = refl

pub lanes_zero : (xs : List ℕ) → eqb (fold_l bit_or 0 xs) 0 ≡ all_zero xs
lanes_zero xs = folded 0 xs

pub not_lanes : (xs ys : List ℕ) → zip2 bit_and xs (map (bit_not w64) ys) ≡ zip2 and_not xs ys
not_lanes [] ys = refl
not_lanes (x ∷ xs) [] = refl
not_lanes (x ∷ xs) (y ∷ ys) = ap (λ l. and_not x y ∷ l) (not_lanes xs ys)
