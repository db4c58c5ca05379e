-- Words of the empty set and of the full one, bit by bit.
use Rattle.std.proofs.Common.{◌≡◌, ◌≢◌, ℕ, ◌+◌, ◌-◌, ◌*◌, ◌^◌, ◌<◌, ◌≤◌, Bool, true, false, not}
use Rattle.std.proofs.Common.{◌&&◌, ◌||◌, eqb, length, min, get_or, bit_and, bit_or, refl, ap, ap₂, sym}
use Rattle.std.proofs.Common.{◌∙◌, arith, inl, inr}
use Rattle.std.proofs.Math.Bool.{and-false, and-true}
use Rattle.std.proofs.Math.Dec.{ltb}
use Rattle.std.proofs.Math.Nat.{pow-le-pow_right}
use Rattle.std.proofs.lemmas.Bool.{cases_lt, le-ltb, lt-ltb}
use Rattle.std.proofs.lemmas.List.{get_or_past}
use Rattle.std.proofs.lemmas.List.FromFn.{get_or-map-range_with_len, length-map-range_with_len}
use Rattle.std.proofs.lemmas.Nat.{and_le_l, and_le_r, or_lt, pow_pos}
use Rattle.std.proofs.lemmas.Nat.Bits.{bit_at_ones, bit_at_ones_above, same_from_bits_below}
use Rattle.std.specs.Int.{bit_not, w64}
use Rattle.version_sets.specs.inner.Windows.{flank, flank_word, full_word, words_for}
use Rattle.version_sets.specs.inner.Words.{and_not}
use Rattle.version_sets.proofs.Bits.{and_not_bit, bit_and_is, bit_is, bit_not_is, bit_or_is, bit_same, bit_zero}

-- words with the same bits are one
pub same_word : (x y : ℕ) → x < 2 ^ 64 → y < 2 ^ 64 → ((j : ℕ) → j < 64 → bit_is x j ≡ bit_is y j) → x ≡ y
same_word x y p q same = same_from_bits_below 64 x y p q (λ j low. bit_same x y j (same j low))

-- a word of the numbers below n
pub full_fits : (n k : ℕ) → full_word n k < 2 ^ 64
unfolding full_word
full_fits n k =
    let most : 2 ^ min (n - 64 * k) 64 ≤ 2 ^ 64 = pow-le-pow_right {n = 2} (omega arith)
    {i = min (n - 64 * k) 64} {j = 64} (omega arith) in
    let some : 0 < 2 ^ min (n - 64 * k) 64 = pow_pos (min (n - 64 * k) 64) in
    omega arith

pub full_bit : (n k j : ℕ) → j < 64 → bit_is (full_word n k) j ≡ ltb (64 * k + j) n
unfolding full_word
full_bit n k j low = elim (cases_lt (64 * k + j) n) [
  | inl here ↦ ap (λ b. eqb b 1) (bit_at_ones (min (n - 64 * k) 64) j (omega arith)) ∙ sym (lt-ltb (64 * k + j) n here)
  | inr past ↦ ap (λ b. eqb b 1) (bit_at_ones_above (min (n - 64 * k) 64) j (omega arith))
      ∙ sym (le-ltb (64 * k + j) n past)
]

pub full_none : (n k : ℕ) → n ≤ 64 * k → full_word n k ≡ 0
unfolding full_word
full_none n k past = ap (λ c. 2 ^ c - 1) nothing
  where
    nothing : min (n - 64 * k) 64 ≡ 0
    nothing = omega arith

pub full_some : (n k : ℕ) → 64 * k < n → full_word n k ≢ 0
full_some n k here zero_is =
    let low : 0 < 64 = omega arith in
    let start : 64 * k + 0 ≡ 64 * k = omega arith in
    let set : bit_is (full_word n k) 0 ≡ true = full_bit n k 0 low ∙ ap (λ i. ltb i n) start ∙ lt-ltb (64 * k) n here in
    let clear : bit_is (full_word n k) 0 ≡ false = ap (λ w. bit_is w 0) zero_is ∙ bit_zero 0 in
    cc

-- a word of the empty set or of the full one
pub flank_fits : (n : ℕ) (b : Bool) (k : ℕ) → flank_word n b k < 2 ^ 64
flank_fits n false k = omega arith
flank_fits n true k = full_fits n k

pub flank_bit : (n : ℕ) (b : Bool) (k j : ℕ) → j < 64 → bit_is (flank_word n b k) j ≡ (b && ltb (64 * k + j) n)
flank_bit n false k j low = bit_zero j
flank_bit n true k j low = full_bit n k j low

pub flank_none : (n : ℕ) (b : Bool) (k : ℕ) → n ≤ 64 * k → flank_word n b k ≡ 0
flank_none n false k past = refl
flank_none n true k past = full_none n k past

pub flank_zero : (n : ℕ) (b : Bool) (j k : ℕ) → 64 * j < n → flank_word n b j ≡ 0 → flank_word n b k ≡ 0
flank_zero n false j k here e = refl
flank_zero n true j k here e = absurd (full_some n j here e)

-- an operation on words, bit by bit, and on two flanks
pub record IsBitwise (f : ℕ → ℕ → ℕ) (g : Bool → Bool → Bool) : Type 0 where
  pub bits : (x y j : ℕ) → x < 2 ^ 64 → y < 2 ^ 64 → j < 64 → bit_is (f x y) j ≡ g (bit_is x j) (bit_is y j)
  pub bound : (x y : ℕ) → x < 2 ^ 64 → y < 2 ^ 64 → f x y < 2 ^ 64
  pub nothing : g false false ≡ false

pub or_bitwise : IsBitwise bit_or (λ x y. x || y)
or_bitwise = record { bits = λ x y j p q low. bit_or_is x y j; bound = or_lt 64; nothing = refl }

pub and_bitwise : IsBitwise bit_and (λ x y. x && y)
and_bitwise = record {
  bits = λ x y j p q low. bit_and_is x y j;
  bound = λ x y p q. omega (arith, and_le_l x y);
  nothing = refl;
}

pub and_not_bitwise : IsBitwise and_not (λ x y. x && not y)
and_not_bitwise = record {
  bits = λ x y j p q low. and_not_bit x y j q low;
  bound = λ x y p q. omega (arith, and_le_l x (bit_not w64 y));
  nothing = refl;
}

under_test : (g : Bool → Bool → Bool) → g false false ≡ false → (p q t : Bool) → g (p && t) (q && t) ≡ (g p q && t)
under_test g e true true true = sym (and-true (g true true))
under_test g e true false true = sym (and-true (g true false))
under_test g e false true true = sym (and-true (g false true))
under_test g e false false true = sym (and-true (g false false))
under_test g e true true false = e ∙ sym (and-false (g true true))
under_test g e true false false = e ∙ sym (and-false (g true false))
under_test g e false true false = e ∙ sym (and-false (g false true))
under_test g e false false false = e ∙ sym (and-false (g false false))

pub flanks_are : (f : ℕ → ℕ → ℕ) (g : Bool → Bool → Bool) → IsBitwise f g → (n : ℕ) (p q : Bool) (k : ℕ)
    → f (flank_word n p k) (flank_word n q k) ≡ flank_word n (g p q) k
flanks_are f g is n p q k =
    same_word (f (flank_word n p k) (flank_word n q k)) (flank_word n (g p q) k)
    (is.bound (flank_word n p k) (flank_word n q k) (flank_fits n p k) (flank_fits n q k)) (flank_fits n (g p q) k)
    (λ j low. is.bits (flank_word n p k) (flank_word n q k) j (flank_fits n p k) (flank_fits n q k) low
    ∙ ap₂ g (flank_bit n p k j low) (flank_bit n q k j low) ∙ under_test g is.nothing p q (ltb (64 * k + j) n)
    ∙ sym (flank_bit n (g p q) k j low))

-- a word turned, without the bits past the universe
abbrev pub turned_word : ℕ → ℕ → ℕ → ℕ
turned_word n k w = bit_and (bit_not w64 w) (full_word n k)

pub turned_flank : (n : ℕ) (b : Bool) (k : ℕ) → turned_word n k (flank_word n b k) ≡ flank_word n (not b) k
turned_flank n b k =
    same_word (turned_word n k (flank_word n b k)) (flank_word n (not b) k)
    (omega (arith, and_le_r (bit_not w64 (flank_word n b k)) (full_word n k), full_fits n k)) (flank_fits n (not b) k)
    (λ j low. bit_and_is (bit_not w64 (flank_word n b k)) (full_word n k) j
    ∙ ap₂ (λ x y. x && y) (bit_not_is (flank_word n b k) j (flank_fits n b k) low ∙ ap not (flank_bit n b k j low))
    (full_bit n k j low) ∙ both b (ltb (64 * k + j) n) ∙ sym (flank_bit n (not b) k j low))
  where
    both : (b t : Bool) → (not (b && t) && t) ≡ (not b && t)
    both true true = refl
    both true false = refl
    both false true = refl
    both false false = refl

-- words of which each is full, or each empty
pub length-flank : (n : ℕ) (b : Bool) → length (flank n b) ≡ words_for n
unfolding flank
length-flank n b = length-map-range_with_len (flank_word n b) 0 (words_for n)

pub flank_at : (n : ℕ) (b : Bool) (k : ℕ) → get_or (flank n b) k 0 ≡ flank_word n b k
unfolding flank
flank_at n b k = elim (cases_lt k (words_for n)) [
  | inl low ↦ get_or-map-range_with_len (flank_word n b) 0 (words_for n) k k 0 low (omega arith)
  | inr past ↦ get_or_past (flank n b) k 0 (omega (arith, length-flank n b)) ∙ sym (flank_none n b k (omega arith))
]

-- a word before the universe's last one is not cut
pub not_cut : (n k x : ℕ) → x < 2 ^ 64 → 64 * (k + 1) ≤ n → bit_and x (full_word n k) ≡ x
not_cut n k x fits here =
    same_word (bit_and x (full_word n k)) x (omega (arith, and_le_l x (full_word n k))) fits
    (λ j low. bit_and_is x (full_word n k) j ∙ ap (λ b. bit_is x j && b)
    (full_bit n k j low ∙ lt-ltb (64 * k + j) n (omega arith)) ∙ and-true (bit_is x j))

-- where one word has no bit
pub nothing_left : (x y : ℕ) → x ≡ 0 → and_not x y ≡ 0
nothing_left x y e = omega (arith, and_le_l x (bit_not w64 y))

pub nothing_first : (x y : ℕ) → x ≡ 0 → bit_and x y ≡ 0
nothing_first x y e = omega (arith, and_le_l x y)

pub nothing_second : (x y : ℕ) → y ≡ 0 → bit_and x y ≡ 0
nothing_second x y e = omega (arith, and_le_r x y)
