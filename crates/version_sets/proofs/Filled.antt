-- Words that are filled, cut at the universe, and counted.
use Rattle.std.proofs.Common.{◌≡◌, ◌≢◌, ℕ, zero, suc, ◌+◌, ◌-◌, ◌*◌, ◌/◌, ◌%◌, ◌^◌, ◌<◌, ◌≤◌, Bool, true, false, cond}
use Rattle.std.proofs.Common.{◌&&◌, eqb, List, [], ◌∷◌, ◌++◌, length, map, replicate, get_or, set, bit_and, refl, ap}
use Rattle.std.proofs.Common.{ap₂, sym, ◌∙◌, subst, arith, eq-eqb, get_or-set_other, get_or-set_same, inl, inr}
use Rattle.std.proofs.Math.Pow.{pow-lt}
use Rattle.std.proofs.lemmas.Bool.{cases_eq, cases_lt, cases_order, ne_eqb}
use Rattle.std.proofs.lemmas.List.{get_or-replicate, get_or_default, get_or_past, length-replicate, length-set}
use Rattle.std.proofs.lemmas.List.FromFn.{get_or-map-range_with_len, length-map-range_with_len}
use Rattle.std.proofs.lemmas.List.Recursion.{is_count_by}
use Rattle.std.proofs.lemmas.Nat.{and_le_l}
use Rattle.std.proofs.lemmas.Nat.Bits.{bit_at-lt, bit_at-pow_other, bit_at-pow_same, bit_at-zero, bit_at_ones}
use Rattle.std.proofs.lemmas.Nat.Bits.{bit_at_ones_above, same_from_bits_below}
use Rattle.std.proofs.lemmas.Simd.{bit_mask_l, mask_l-lt, ones-mask_l}
use Rattle.std.proofs.Math.Bool.{and-false, and-true}
use Rattle.std.specs.Int.{bit_at, bit_not, w64}
use Rattle.std.specs.Int.RustNames.{count_ones}
use Rattle.std.specs.List.{range_with_len}
use Rattle.std.specs.Simd.Lanes.{mask_l}
use Rattle.version_sets.specs.Sets.{Members, every, none, only, size}
use Rattle.version_sets.specs.inner.Listed.{set_where}
use Rattle.version_sets.specs.inner.Words.{IsWords, has_bit, ones_in}
use Rattle.version_sets.proofs.Bits.{bit_and_is, bit_is, none_past}
use Rattle.version_sets.proofs.Laws.{size-le}
use Rattle.version_sets.proofs.Listing.{every_where, length-set_where, map_agree_from, none_where, only_where}
use Rattle.version_sets.proofs.Listing.{range_split, set_agree}

-- the words cut at the universe: the last word r keeps its c lowest bits
module _ (n : ℕ) (ws : List ℕ) (r c v : ℕ) (long : length ws ≡ r + 1) (r_is : r ≡ (n - 1) / 64) (c_is : c ≡ n - 64 * r)
    (v_is : v ≡ bit_and (get_or ws r 0) (2 ^ c - 1)) where
  at_other : (i : ℕ) → (i / 64) ≢ r → has_bit (set ws r v) i ≡ has_bit ws i
  at_other i o = ap (λ w. bit_is w (i % 64)) (get_or-set_other ws r (i / 64) v 0 o)

  at_last : (i : ℕ) → i / 64 ≡ r → has_bit (set ws r v) i ≡ (has_bit ws i && bit_is (2 ^ c - 1) (i % 64))
  at_last i e =
      ap (λ k. bit_is (get_or (set ws r v) k 0) (i % 64)) e
      ∙ ap (λ w. bit_is w (i % 64)) (get_or-set_same ws r v 0 (omega arith) ∙ v_is)
      ∙ bit_and_is (get_or ws r 0) (2 ^ c - 1) (i % 64)
      ∙ ap (λ k. bit_is (get_or ws k 0) (i % 64) && bit_is (2 ^ c - 1) (i % 64)) (sym e)

  pub trim_has : (i : ℕ) → i < n → has_bit (set ws r v) i ≡ has_bit ws i
  trim_has i low = elim (cases_eq (i / 64) r) [
    | inl e ↦ at_last i e ∙ ap (λ b. has_bit ws i && b) (ap (λ k. eqb k 1) (bit_at_ones c (i % 64) (omega arith)))
        ∙ and-true (has_bit ws i)
    | inr o ↦ at_other i o
  ]

  pub trim_is : n ≤ 65536 → ((k : ℕ) → get_or ws k 0 < 2 ^ 64) → IsWords n (set ws r v)
  trim_is small fits = record {
    small = small;
    long = length-set ws r v ∙ long ∙ ap (λ k. k + 1) r_is;
    fits = λ k. elim (cases_eq k r) [
      | inl e ↦ subst
          (λ w. w < 2 ^ 64) (sym (ap (λ k. get_or (set ws r v) k 0) e ∙ get_or-set_same ws r v 0 (omega arith)))
          (omega (arith, v_is, and_le_l (get_or ws r 0) (2 ^ c - 1), fits r))
      | inr o ↦ subst (λ w. w < 2 ^ 64) (sym (get_or-set_other ws r k v 0 o)) (fits k)
    ];
    clear = λ i past. elim (cases_order (i / 64) r) [
      | inl e ↦ at_last i e ∙ ap (λ b. has_bit ws i && b)
          (ap (λ k. eqb k 1) (bit_at_ones_above c (i % 64) (omega arith))) ∙ and-false (has_bit ws i)
      | inr o ↦ elim o [
        | inl low ↦ absurd (omega arith)
        | inr high ↦ none_past (set ws r v) i (omega (arith, length-set ws r v))
      ]
    ];
  }

pub word_fits : (x : ℕ) → x < 2 ^ 64 → (k : ℕ) → get_or (x ∷ []) k 0 < 2 ^ 64
word_fits x h zero = h
word_fits x h (suc k) = omega arith

-- the same words, cut
pub record IsTrimmed (n : ℕ) (ws now : List ℕ) : Type 0 where
  pub words : IsWords n now
  pub same : set_where n (has_bit now) ≡ set_where n (has_bit ws)

pub trim_last : (n last y low : ℕ) (ws : List ℕ) → n ≤ 65536 → length ws ≡ (n - 1) / 64 + 1
    → ((k : ℕ) → get_or ws k 0 < 2 ^ 64) → last ≡ length ws - 1 → y ≡ get_or ws last y → low ≡ 2 ^ (n - 64 * last) - 1
    → IsTrimmed n ws (set ws last (bit_and y low))
trim_last n last y low ws small long fits last_is y_is low_is =
    let long_is : length ws ≡ last + 1 = omega arith in
    let place : last ≡ (n - 1) / 64 = omega arith in
    let v_is : bit_and y low ≡ bit_and (get_or ws last 0) (2 ^ (n - 64 * last) - 1) =
    ap₂ bit_and (y_is ∙ get_or_default ws last y 0 (omega arith)) low_is in
    record {
      words = trim_is n ws last (n - 64 * last) (bit_and y low) long_is place refl v_is small fits;
      same = set_agree (has_bit (set ws last (bit_and y low))) (has_bit ws) n
          (trim_has n ws last (n - 64 * last) (bit_and y low) long_is place refl v_is);
    }

pub trim_lone : (n x low : ℕ) → n ≤ 64 → x < 2 ^ 64 → low ≡ 2 ^ n - 1 → IsTrimmed n (x ∷ []) (bit_and x low ∷ [])
trim_lone n x low small fits low_is =
    trim_last n 0 x low (x ∷ []) (omega arith) long (word_fits x fits) refl refl (low_is ∙ ap (λ k. 2 ^ k - 1) none)
  where
    long : 1 ≡ (n - 1) / 64 + 1
    long = omega arith

    none : n ≡ n - 64 * 0
    none = omega arith

-- one word for all
get_or-all : (k v i : ℕ) → i < k → get_or (replicate k v) i 0 ≡ v
get_or-all k v i low = get_or-replicate k i v 0 low

zero_bits : (k i : ℕ) → has_bit (replicate k 0) i ≡ false
zero_bits k i = elim (cases_lt (i / 64) k) [
  | inl low ↦ ap (λ w. bit_is w (i % 64)) (get_or-all k 0 (i / 64) low) ∙ ap (λ b. eqb b 1) (bit_at-zero (i % 64))
  | inr past ↦ none_past (replicate k 0) i (omega (arith, length-replicate {A = ℕ} k 0))
]

pub zeros_are : (n k : ℕ) → set_where n (has_bit (replicate k 0)) ≡ none n
zeros_are n k = set_agree (has_bit (replicate k 0)) (λ _. false) n (λ i within. zero_bits k i) ∙ sym (none_where n)

pub ones_are : (n k : ℕ) → k ≡ (n - 1) / 64 + 1 → set_where n (has_bit (replicate k (2 ^ 64 - 1))) ≡ every n
ones_are n k e = set_agree (has_bit (replicate k (2 ^ 64 - 1))) (λ _. true) n (λ i within.
    let place : i / 64 < k = omega arith in
    ap (λ w. bit_is w (i % 64)) (get_or-all k (2 ^ 64 - 1) (i / 64) place)
    ∙ ap (λ b. eqb b 1) (bit_at_ones 64 (i % 64) (omega arith)))
    ∙ sym (every_where n)

pub turned_fits : (ws : List ℕ) (k : ℕ) → get_or (map (bit_not w64) ws) k 0 < 2 ^ 64
turned_fits [] k = omega arith
turned_fits (w ∷ ws) zero = omega arith
turned_fits (w ∷ ws) (suc k) = turned_fits ws k

-- one bit
module _ (n m r v : ℕ) (small : n ≤ 65536) (below : m < n) (r_is : r ≡ (n - 1) / 64 + 1) (v_is : v ≡ 2 ^ (m % 64)) where
  place : m / 64 < length (replicate {A = ℕ} r 0)
  place = omega (arith, length-replicate {A = ℕ} r 0)

  one_bit : (i : ℕ) → has_bit (set (replicate r 0) (m / 64) v) i ≡ eqb m i
  one_bit i = elim (cases_eq (i / 64) (m / 64)) [
    | inl e ↦
        ap (λ k. bit_is (get_or (set (replicate r 0) (m / 64) v) k 0) (i % 64)) e
        ∙ ap (λ w. bit_is w (i % 64)) (get_or-set_same (replicate r 0) (m / 64) v 0 place ∙ v_is)
        ∙ elim (cases_eq (i % 64) (m % 64)) as (λ _. bit_is (2 ^ (m % 64)) (i % 64) ≡ eqb m i) [
          | inl s ↦ ap (λ k. eqb k 1) (ap (bit_at (2 ^ (m % 64))) s ∙ bit_at-pow_same (m % 64))
              ∙ sym (eq-eqb m i (omega arith))
          | inr o ↦ ap (λ k. eqb k 1) (bit_at-pow_other (m % 64) (i % 64) o)
              ∙ sym (ne_eqb m i (λ (s : m ≡ i). o (omega arith)))
        ]
    | inr o ↦
        ap (λ w. bit_is w (i % 64)) (get_or-set_other (replicate r 0) (m / 64) (i / 64) v 0 o)
        ∙ zero_word ∙ sym (ne_eqb m i (λ (s : m ≡ i). o (ap (λ k. k / 64) (sym s))))
  ]
    where
      zero_word : bit_is (get_or (replicate r 0) (i / 64) 0) (i % 64) ≡ false
      zero_word = elim (cases_lt (i / 64) r) [
        | inl low ↦ ap (λ w. bit_is w (i % 64)) (get_or-all r 0 (i / 64) low) ∙ ap (λ k. eqb k 1) (bit_at-zero (i % 64))
        | inr past ↦ none_past (replicate r 0) i (omega (arith, length-replicate {A = ℕ} r 0))
      ]

  pub one_is : IsWords n (set (replicate r 0) (m / 64) v)
  one_is = record {
    small = small;
    long = length-set (replicate r 0) (m / 64) v ∙ length-replicate {A = ℕ} r 0 ∙ omega arith;
    fits = λ k. elim (cases_eq k (m / 64)) [
      | inl e ↦ subst (λ w. w < 2 ^ 64) (sym (ap (λ k. get_or (set (replicate r 0) (m / 64) v) k 0) e
          ∙ get_or-set_same (replicate r 0) (m / 64) v 0 place ∙ v_is)) (pow-lt {i = m % 64} {j = 64} (omega arith))
      | inr o ↦ subst (λ w. w < 2 ^ 64) (sym (get_or-set_other (replicate r 0) (m / 64) k v 0 o)) (zero_fits k)
    ];
    clear = λ i past. one_bit i ∙ ne_eqb m i (λ (s : m ≡ i). omega arith);
  }
    where
      zero_fits : (k : ℕ) → get_or (replicate r 0) k 0 < 2 ^ 64
      zero_fits k = elim (cases_lt k r) [
        | inl low ↦ subst (λ w. w < 2 ^ 64) (sym (get_or-all r 0 k low)) (omega arith)
        | inr past ↦ subst (λ w. w < 2 ^ 64)
            (sym (get_or_past (replicate r 0) k 0 (omega (arith, length-replicate {A = ℕ} r 0)))) (omega arith)
      ]

  pub one_set : set_where n (has_bit (set (replicate r 0) (m / 64) v)) ≡ only n m
  one_set =
      set_agree (has_bit (set (replicate r 0) (m / 64) v)) (λ i. eqb m i) n (λ i low. one_bit i) ∙ sym (only_where n m)

-- the same in one word
pub lone_bit : (n m v : ℕ) → n ≤ 64 → m < n → v ≡ 2 ^ (m % 64)
    → IsWords n (v ∷ []) × (set_where n (has_bit (v ∷ [])) ≡ only n m)
lone_bit n m v small below v_is =
    let words : set (replicate 1 0) (m / 64) v ≡ v ∷ [] = ap (λ k. set (replicate 1 0) k v) first in (
      subst (IsWords n) words (one_is n m 1 v (omega arith) below long v_is),
      ap (λ ws. set_where n (has_bit ws)) (sym words) ∙ one_set n m 1 v (omega arith) below long v_is,
    )
  where
    first : m / 64 ≡ 0
    first = omega arith

    long : 1 ≡ (n - 1) / 64 + 1
    long = omega arith

-- counting
count_step : (b : Bool) (xs : Members) → size (b ∷ xs) ≡ cond b (1 + size xs) (size xs)
count_step true xs = refl
count_step false xs = refl

mask_is : (k w : ℕ) → w < 2 ^ k → mask_l (map (bit_is w) (range_with_len 0 k)) ≡ w
mask_is k w fits = same_from_bits_below k (mask_l (map (bit_is w) (range_with_len 0 k))) w
    (subst (λ l. mask_l (map (bit_is w) (range_with_len 0 k)) < 2 ^ l) (length-map-range_with_len (bit_is w) 0 k)
    (mask_l-lt (map (bit_is w) (range_with_len 0 k)))) fits
    (λ i low. bit_mask_l (map (bit_is w) (range_with_len 0 k)) i
    ∙ ap (λ b. cond b 1 0) (get_or-map-range_with_len (bit_is w) 0 k i i false low (omega arith))
    ∙ bit_back (bit_at w i) (bit_at-lt w i))
  where
    bit_back : (b : ℕ) → b < 2 → cond (eqb b 1) 1 0 ≡ b
    bit_back zero h = refl
    bit_back (suc zero) h = refl
    bit_back (suc (suc b)) h = absurd (omega arith)

pub ones_word : (k w : ℕ) → w < 2 ^ k → size (map (bit_is w) (range_with_len 0 k)) ≡ count_ones w
ones_word k w fits =
    is_count_by (λ xs. size (map (bit_is w) xs)) (bit_is w) refl
    (λ x xs. count_step (bit_is w x) (map (bit_is w) xs)) (range_with_len 0 k)
    ∙ sym (ones-mask_l (bit_is w) (range_with_len 0 k)) ∙ ap count_ones (mask_is k w fits)

size-append : (xs ys : Members) → size (xs ++ ys) ≡ size xs + size ys
size-append [] ys = omega arith
size-append (true ∷ xs) ys = omega (arith, size-append xs ys)
size-append (false ∷ xs) ys = size-append xs ys

range_shift : (p : ℕ → Bool) (a k m : ℕ) → map p (range_with_len (a + k) m) ≡ map (λ i. p (i + k)) (range_with_len a m)
range_shift p a k zero = refl
range_shift p a k (suc m) =
    let next : (a + k) + 1 ≡ (a + 1) + k = omega arith in
    ap (λ l. p (a + k) ∷ l) (ap (λ b. map p (range_with_len b m)) next ∙ range_shift p (a + 1) k m)

size_none : (p : ℕ → Bool) (a m : ℕ) → ((i : ℕ) → a ≤ i → p i ≡ false) → size (map p (range_with_len a m)) ≡ 0
size_none p a zero clear = refl
size_none p a (suc m) clear = ap (λ b. size (b ∷ map p (range_with_len (a + 1) m))) (clear a (omega arith))
    ∙ size_none p (a + 1) m (λ i low. clear i (omega arith))

ones_all : (k : ℕ) → k ≡ 64 → (ws : List ℕ) → ((i : ℕ) → get_or ws i 0 < 2 ^ 64)
    → size (map (has_bit ws) (range_with_len 0 (length ws * k))) ≡ ones_in ws
ones_all k e [] fits = let nothing : length {A = ℕ} [] * k ≡ 0 =
    omega arith in ap (λ m. size (map (has_bit []) (range_with_len 0 m))) nothing
ones_all k e (w ∷ ws) fits =
    let wide : length (w ∷ ws) * k ≡ k + length ws * k = omega arith in
    ap (λ m. size (map (has_bit (w ∷ ws)) (range_with_len 0 m))) wide
    ∙ ap size (range_split (has_bit (w ∷ ws)) 0 k (length ws * k)) ∙ size-append (map (has_bit (w ∷ ws))
    (range_with_len 0 k)) (map (has_bit (w ∷ ws)) (range_with_len (0 + k) (length ws * k)))
    ∙ ap₂ (λ x y. x + y)
    (ap size (map_agree_from (has_bit (w ∷ ws)) (bit_is w) 0 k (λ i low high.
    ap₂ (λ q j. bit_is (get_or (w ∷ ws) q 0) j) (in_first i (omega arith)) (same_place i (omega arith))))
    ∙ ones_word k w (subst (λ l. w < 2 ^ l) (sym e) (fits 0)))
    (ap size (range_shift (has_bit (w ∷ ws)) 0 k (length ws * k)
    ∙ map_agree_from (λ i. has_bit (w ∷ ws) (i + k)) (has_bit ws) 0 (length ws * k) (λ i low high. ap₂ (λ q j.
    bit_is (get_or (w ∷ ws) q 0) j) (in_next i) (place_next i))) ∙ ones_all k e ws (λ i. fits (suc i)))
  where
    in_first : (i : ℕ) → i < 64 → i / 64 ≡ 0
    in_first i h = omega arith

    same_place : (i : ℕ) → i < 64 → i % 64 ≡ i
    same_place i h = omega arith

    in_next : (i : ℕ) → (i + k) / 64 ≡ suc (i / 64)
    in_next i = omega arith

    place_next : (i : ℕ) → (i + k) % 64 ≡ i % 64
    place_next i = omega arith

pub ones_are_size : (n : ℕ) (ws : List ℕ) → IsWords n ws → ones_in ws ≡ size (set_where n (has_bit ws))
ones_are_size n ws p = by 64 refl
  where
    by : (k : ℕ) → k ≡ 64 → ones_in ws ≡ size (set_where n (has_bit ws))
    by k e =
        let d : ℕ = length ws * k - n in
        let counted : length ws * k ≡ length ws * 64 = ap (λ m. length ws * m) e in
        let whole : length ws * k ≡ n + d = omega (arith, p.long, counted) in
        sym (ones_all k e ws p.fits) ∙ ap (λ m. size (map (has_bit ws) (range_with_len 0 m))) whole
        ∙ ap size (range_split (has_bit ws) 0 n d)
        ∙ size-append (set_where n (has_bit ws)) (map (has_bit ws) (range_with_len (0 + n) d))
        ∙ ap (λ z. size (set_where n (has_bit ws)) + z)
        (size_none (has_bit ws) (0 + n) d (λ i low. p.clear i (omega arith))) ∙ omega arith

pub ones_bound : (n : ℕ) (ws : List ℕ) → IsWords n ws → ones_in ws ≤ 65536
ones_bound n ws p =
    omega (arith, ones_are_size n ws p, size-le (set_where n (has_bit ws)), length-set_where n (has_bit ws), p.small)
