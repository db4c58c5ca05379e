-- Words of which a window is kept: each of them, and what comes of two such lists.
use Rattle.std.proofs.Common.{◌≡◌, ℕ, ◌+◌, ◌-◌, ◌/◌, ◌^◌, ◌<◌, ◌≤◌, Bool, true, false, not}
use Rattle.std.proofs.Common.{List, [], ◌∷◌, ◌++◌, length, take, drop, map, get_or, set, bit_and, refl, ap, ap₂, sym}
use Rattle.std.proofs.Common.{◌∙◌}
use Rattle.std.proofs.Common.{subst, arith, get_or-set_other, get_or-set_same, inl, inr}
use Rattle.std.proofs.lemmas.Bool.{cases_eq, cases_lt}
use Rattle.std.proofs.lemmas.Grind.{same_number_lists}
use Rattle.std.proofs.lemmas.List.{append-nil, get_or-append_right, get_or-drop, get_or-take, get_or_append_left}
use Rattle.std.proofs.lemmas.List.{length-append, length-drop, length-map, length-set, length-take-le}
use Rattle.std.proofs.lemmas.List.{take_more}
use Rattle.std.proofs.Math.ListN.{drop_of_length-le}
use Rattle.std.proofs.lemmas.Simd.{get_or-zip2, length-chunk, length-zip2}
use Rattle.std.specs.Int.{bit_not, w64}
use Rattle.std.specs.Simd.Lanes.{chunk, zip2}
use Rattle.version_sets.specs.inner.Windows.{IsFlanked, flank, flank_word, full_word, spread, words_for}
use Rattle.version_sets.proofs.Bits.{get_or-map_under}
use Rattle.version_sets.proofs.Flanks.{IsBitwise, flank_at, flank_fits, flanks_are, length-flank, not_cut}
use Rattle.version_sets.proofs.Flanks.{turned_flank, turned_word}

-- each word
module _ (n : ℕ) (low : Bool) (first : ℕ) (ws : List ℕ) (high : Bool) (ends : first + length ws ≤ words_for n) where
  before : length (take first (flank n low)) ≡ first
  before = length-take-le first (flank n low) (omega (arith, length-flank n low))

  pub length-spread : length (spread n low first ws high) ≡ words_for n
  unfolding spread
  length-spread = length-append (take first (flank n low)) (ws ++ drop (first + length ws) (flank n high))
      ∙ omega (
        arith,
        before,
        length-append ws (drop (first + length ws) (flank n high)),
        length-drop (first + length ws) (flank n high),
        length-flank n high,
      )

  pub spread_low : (k : ℕ) → k < first → get_or (spread n low first ws high) k 0 ≡ flank_word n low k
  unfolding spread
  spread_low k here =
      get_or_append_left (take first (flank n low)) (ws ++ drop (first + length ws) (flank n high)) 0 k
      (omega (arith, before)) ∙ get_or-take first (flank n low) k 0 here ∙ flank_at n low k

  past_first : (k : ℕ) → first ≤ k → get_or (spread n low first ws high) k 0
      ≡ get_or (ws ++ drop (first + length ws) (flank n high)) (k - first) 0
  unfolding spread
  past_first k from =
      get_or-append_right (take first (flank n low))
      (ws ++ drop (first + length ws) (flank n high)) first k 0 before from

  pub spread_in : (k : ℕ) → first ≤ k → k < first + length ws
      → get_or (spread n low first ws high) k 0 ≡ get_or ws (k - first) 0
  spread_in k from to = past_first k from
      ∙ get_or_append_left ws (drop (first + length ws) (flank n high)) 0 (k - first) (omega arith)

  pub spread_high : (k : ℕ) → first + length ws ≤ k → get_or (spread n low first ws high) k 0 ≡ flank_word n high k
  spread_high k from =
      let place : first + length ws + (k - first - length ws) ≡ k = omega arith in
      past_first k (omega arith)
      ∙ get_or-append_right ws (drop (first + length ws) (flank n high)) (length ws) (k - first) 0 refl (omega arith)
      ∙ get_or-drop (first + length ws) (flank n high) (k - first - length ws) 0
      ∙ ap (λ i. get_or (flank n high) i 0) place
      ∙ flank_at n high k

  pub spread_fits : ((k : ℕ) → get_or ws k 0 < 2 ^ 64) → (k : ℕ) → get_or (spread n low first ws high) k 0 < 2 ^ 64
  spread_fits fits k = elim (cases_lt k first) [
    | inl here ↦ subst (λ w. w < 2 ^ 64) (sym (spread_low k here)) (flank_fits n low k)
    | inr past ↦ elim (cases_lt k (first + length ws)) [
      | inl here ↦ subst (λ w. w < 2 ^ 64) (sym (spread_in k past here)) (fits (k - first))
      | inr behind ↦ subst (λ w. w < 2 ^ 64) (sym (spread_high k behind)) (flank_fits n high k)
    ]
  ]

  pub spread_flanked : (from to : ℕ) → from ≤ first → first + length ws ≤ to
      → IsFlanked n low high (spread n low first ws high) from to
  spread_flanked from to less more = record {
    before = λ k here. spread_low k (omega arith);
    behind = λ k here. spread_high k (omega arith);
  }

  pub even_flanked : ws ≡ [] → low ≡ high → (from to : ℕ) → IsFlanked n low high (spread n low first ws high) from to
  even_flanked none alike from to = record {
    before = λ k here. each k ∙ ap (λ b. flank_word n b k) (sym alike);
    behind = λ k here. each k;
  }
    where
      none_long : length ws ≡ 0
      none_long = ap length none

      each : (k : ℕ) → get_or (spread n low first ws high) k 0 ≡ flank_word n high k
      each k = elim (cases_lt k first) [
        | inl here ↦ spread_low k here ∙ ap (λ b. flank_word n b k) alike
        | inr past ↦ spread_high k (omega (arith, none_long))
      ]

-- words that are alike at both ends
pub chunk_at : (from m : ℕ) (xs : List ℕ) (j : ℕ) → j < m → get_or (chunk from m xs) j 0 ≡ get_or xs (from + j) 0
chunk_at from m xs j low = get_or-take m (drop from xs) j 0 low ∙ get_or-drop from xs j 0

pub of_flanked : (n : ℕ) (low high : Bool) (xs : List ℕ) (from to : ℕ) → length xs ≡ words_for n → from ≤ to
    → to ≤ words_for n → IsFlanked n low high xs from to → spread n low from (chunk from (to - from) xs) high ≡ xs
of_flanked n low high xs from to long rising within is =
    same_number_lists (spread n low from (chunk from (to - from) xs) high) xs
    (length-spread n low from (chunk from (to - from) xs) high ends ∙ sym long) (λ k below.
    elim (cases_lt k from) as (λ _. get_or (spread n low from (chunk from (to - from) xs) high) k 0 ≡ get_or xs k 0) [
      | inl here ↦ spread_low n low from (chunk from (to - from) xs) high ends k here ∙ sym (is.before k here)
      | inr past ↦ elim (cases_lt k to) [
        | inl here ↦ (let place : from + (k - from) ≡ k = omega arith in
            spread_in n low from (chunk from (to - from) xs) high ends k past (omega (arith, wide))
            ∙ chunk_at from (to - from) xs (k - from) (omega arith) ∙ ap (λ i. get_or xs i 0) place)
        | inr behind ↦ spread_high n low from (chunk from (to - from) xs) high ends k (omega (arith, wide))
            ∙ sym (is.behind k behind)
      ]
    ])
  where
    wide : length (chunk from (to - from) xs) ≡ to - from
    wide = length-chunk from (to - from) xs (omega (arith, long))

    ends : from + length (chunk from (to - from) xs) ≤ words_for n
    ends = omega (arith, wide)

-- two lists with one window, put together
module _ (f : ℕ → ℕ → ℕ) (g : Bool → Bool → Bool) (is : IsBitwise f g) (n : ℕ) (p q h i : Bool)
    (first : ℕ) (a b : List ℕ)
    (long : length a ≡ length b) (ends : first + length a ≤ words_for n) where
  others : first + length b ≤ words_for n
  others = omega arith

  zipped : first + length (zip2 f a b) ≤ words_for n
  zipped = omega (arith, length-zip2 f a b long)

  pub zip_spread : spread n (g p q) first (zip2 f a b) (g h i)
      ≡ zip2 f (spread n p first a h) (spread n q first b i)
  zip_spread = same_number_lists (spread n (g p q) first (zip2 f a b) (g h i))
      (zip2 f (spread n p first a h) (spread n q first b i))
      (length-spread n (g p q) first (zip2 f a b) (g h i) zipped
      ∙ sym (length-zip2 f (spread n p first a h) (spread n q first b i) (whole_a ∙ sym whole_b) ∙ whole_a))
      (λ k below. (let fits : k < words_for n =
      omega (arith, length-spread n (g p q) first (zip2 f a b) (g h i) zipped) in
      elim (cases_lt k first) as (λ _. get_or (spread n (g p q) first (zip2 f a b) (g h i)) k 0
      ≡ get_or (zip2 f (spread n p first a h) (spread n q first b i)) k 0) [
        | inl here ↦ spread_low n (g p q) first (zip2 f a b) (g h i) zipped k here ∙ sym (flanks_are f g is n p q k)
            ∙ sym (each k fits ∙ ap₂ f (spread_low n p first a h ends k here) (spread_low n q first b i others k here))
        | inr past ↦ elim (cases_lt k (first + length a)) [
          | inl here ↦ spread_in n (g p q) first (zip2 f a b) (g h i) zipped k past
              (omega (arith, length-zip2 f a b long))
              ∙ get_or-zip2 f a b (k - first) 0 0 0 (omega arith) (omega arith)
              ∙ sym (each k fits ∙ ap₂ f (spread_in n p first a h ends k past here)
              (spread_in n q first b i others k past (omega arith)))
          | inr behind ↦ spread_high n (g p q) first (zip2 f a b) (g h i) zipped k
              (omega (arith, length-zip2 f a b long))
              ∙ sym (flanks_are f g is n h i k)
              ∙ sym (each k fits ∙ ap₂ f (spread_high n p first a h ends k behind)
              (spread_high n q first b i others k (omega arith)))
        ]
      ]))
    where
      whole_a : length (spread n p first a h) ≡ words_for n
      whole_a = length-spread n p first a h ends

      whole_b : length (spread n q first b i) ≡ words_for n
      whole_b = length-spread n q first b i others

      each : (k : ℕ) → k < words_for n → get_or (zip2 f (spread n p first a h) (spread n q first b i)) k 0
          ≡ f (get_or (spread n p first a h) k 0) (get_or (spread n q first b i) k 0)
      each k low = get_or-zip2 f (spread n p first a h) (spread n q first b i) k 0 0 0 (omega (arith, whole_a))
          (omega (arith, whole_b))

-- one more word of a part
pub chunk_more : (from m : ℕ) (xs : List ℕ) (w : ℕ) → from + m < length xs → w ≡ get_or xs (from + m) 0
    → chunk from m xs ++ w ∷ [] ≡ chunk from (m + 1) xs
chunk_more from m xs w room is =
    ap (λ x. take m (drop from xs) ++ x ∷ []) (is ∙ sym (get_or-drop from xs m 0))
    ∙ sym (take_more (drop from xs) m 0 (omega (arith, length-drop from xs)))

-- ends that reach the universe's may be said to be either way
pub ends_either : (n : ℕ) (p q : Bool) (first : ℕ) (ws : List ℕ) (h i : Bool) → first + length ws ≤ words_for n
    → (0 < first → p ≡ q) → (first + length ws < words_for n → h ≡ i)
    → spread n p first ws h ≡ spread n q first ws i
ends_either n p q first ws h i ends low high = same_number_lists (spread n p first ws h) (spread n q first ws i)
    (length-spread n p first ws h ends ∙ sym (length-spread n q first ws i ends)) (λ k below.
    (let fits : k < words_for n = omega (arith, length-spread n p first ws h ends) in
    elim (cases_lt k first) as (λ _. get_or (spread n p first ws h) k 0 ≡ get_or (spread n q first ws i) k 0) [
      | inl here ↦ spread_low n p first ws h ends k here ∙ ap (λ b. flank_word n b k) (low (omega arith))
          ∙ sym (spread_low n q first ws i ends k here)
      | inr past ↦ elim (cases_lt k (first + length ws)) [
        | inl here ↦ spread_in n p first ws h ends k past here ∙ sym (spread_in n q first ws i ends k past here)
        | inr behind ↦ spread_high n p first ws h ends k behind ∙ ap (λ b. flank_word n b k) (high (omega arith))
            ∙ sym (spread_high n q first ws i ends k behind)
      ]
    ]))

pub nothing_kept : (n : ℕ) (b : Bool) → spread n b 0 [] b ≡ flank n b
unfolding spread
nothing_kept n b = refl

pub all_kept : (n : ℕ) (ws : List ℕ) → length ws ≡ words_for n → spread n false 0 ws false ≡ ws
unfolding spread
all_kept n ws long = ap (λ l. ws ++ l) (drop_of_length-le (flank n false) (omega (arith, length-flank n false)))
    ∙ append-nil ws

-- the bits past the universe cut off, which the universe's last word alone has
module _ (n first : ℕ) (a : List ℕ) (ends : first + length a ≤ words_for n)
    (fits : (k : ℕ) → get_or a k 0 < 2 ^ 64) where
  kept_long : length (chunk first (length a) (flank n true)) ≡ length a
  kept_long = length-chunk first (length a) (flank n true) (omega (arith, length-flank n true))

  abbrev pub kept : List ℕ
  kept = zip2 bit_and a (chunk first (length a) (flank n true))

  kept_at : (j : ℕ) → j < length a → get_or kept j 0 ≡ bit_and (get_or a j 0) (full_word n (first + j))
  kept_at j low = get_or-zip2 bit_and a (chunk first (length a) (flank n true)) j 0 0 0 low (omega (arith, kept_long))
      ∙ ap (bit_and (get_or a j 0)) (chunk_at first (length a) (flank n true) j low ∙ flank_at n true (first + j))

  whole_word : (j : ℕ) → j < length a → first + j < (n - 1) / 64 → get_or a j 0 ≡ get_or kept j 0
  whole_word j low under = sym (kept_at j low ∙ not_cut n (first + j) (get_or a j 0) (fits j) (omega arith))

  pub none_cut : ((j : ℕ) → j < length a → first + j < (n - 1) / 64) → a ≡ kept
  none_cut under = same_number_lists a kept (sym (length-zip2 bit_and a (chunk first (length a) (flank n true))
      (sym kept_long))) (λ j low. whole_word j low (under j low))

  pub last_cut : (place v : ℕ) → length a ≡ place + 1 → first + place ≡ (n - 1) / 64
      → v ≡ bit_and (get_or a place 0) (full_word n (first + place)) → set a place v ≡ kept
  last_cut place v long here v_is = same_number_lists (set a place v) kept
      (length-set a place v ∙ sym (length-zip2 bit_and a (chunk first (length a) (flank n true)) (sym kept_long)))
      (λ j low. (let small : j < length a = omega (arith, length-set a place v) in
      elim (cases_eq j place) as (λ _. get_or (set a place v) j 0 ≡ get_or kept j 0) [
        | inl e ↦ ap (λ i. get_or (set a place v) i 0) e ∙ get_or-set_same a place v 0 (omega arith) ∙ v_is
            ∙ sym (ap (λ i. get_or kept i 0) e ∙ kept_at place (omega arith))
        | inr o ↦ get_or-set_other a place j v 0 o ∙ whole_word j small (omega arith)
      ]))

-- a window turned
module _ (n : ℕ) (p : Bool) (first : ℕ) (a : List ℕ) (h : Bool) (ends : first + length a ≤ words_for n) where
  abbrev pub cut : List ℕ
  cut = zip2 bit_and (map (bit_not w64) a) (chunk first (length a) (flank n true))

  full_long : length (chunk first (length a) (flank n true)) ≡ length a
  full_long = length-chunk first (length a) (flank n true) (omega (arith, length-flank n true))

  cut_long : length cut ≡ length a
  cut_long = length-zip2 bit_and (map (bit_not w64) a) (chunk first (length a) (flank n true))
      (length-map a (bit_not w64) ∙ sym full_long) ∙ length-map a (bit_not w64)

  pub cut_ends : first + length cut ≤ words_for n
  cut_ends = omega (arith, cut_long)

  abbrev whole : List ℕ
  whole = zip2 bit_and (map (bit_not w64) (spread n p first a h)) (flank n true)

  long : length (map (bit_not w64) (spread n p first a h)) ≡ words_for n
  long = length-map (spread n p first a h) (bit_not w64) ∙ length-spread n p first a h ends

  each : (k : ℕ) → k < words_for n → get_or whole k 0 ≡ turned_word n k (get_or (spread n p first a h) k 0)
  each k low = get_or-zip2 bit_and (map (bit_not w64) (spread n p first a h)) (flank n true) k 0 0 0
      (omega (arith, long)) (omega (arith, length-flank n true))
      ∙ ap₂ bit_and (get_or-map_under (spread n p first a h) k (omega (arith, length-spread n p first a h ends)))
      (flank_at n true k)

  cut_at : (j : ℕ) → j < length a → get_or cut j 0 ≡ turned_word n (first + j) (get_or a j 0)
  cut_at j low = get_or-zip2 bit_and (map (bit_not w64) a) (chunk first (length a) (flank n true)) j 0 0 0
      (omega (arith, length-map a (bit_not w64))) (omega (arith, full_long))
      ∙ ap₂ bit_and (get_or-map_under a j low)
      (chunk_at first (length a) (flank n true) j low ∙ flank_at n true (first + j))

  pub turn_spread : spread n (not p) first cut (not h) ≡ whole
  turn_spread = same_number_lists (spread n (not p) first cut (not h)) whole
      (length-spread n (not p) first cut (not h) cut_ends
      ∙ sym (length-zip2 bit_and (map (bit_not w64) (spread n p first a h)) (flank n true)
      (long ∙ sym (length-flank n true)) ∙ long)) (λ k below.
      (let fits : k < words_for n = omega (arith, length-spread n (not p) first cut (not h) cut_ends) in
      elim (cases_lt k first) as (λ _. get_or (spread n (not p) first cut (not h)) k 0 ≡ get_or whole k 0) [
        | inl here ↦ spread_low n (not p) first cut (not h) cut_ends k here ∙ sym (turned_flank n p k)
            ∙ sym (each k fits ∙ ap (turned_word n k) (spread_low n p first a h ends k here))
        | inr past ↦ elim (cases_lt k (first + length a)) [
          | inl here ↦ (let place : first + (k - first) ≡ k = omega arith in
              spread_in n (not p) first cut (not h) cut_ends k past (omega (arith, cut_long))
              ∙ cut_at (k - first) (omega arith) ∙ ap (λ i. turned_word n i (get_or a (k - first) 0)) place
              ∙ sym (each k fits ∙ ap (turned_word n k) (spread_in n p first a h ends k past here)))
          | inr behind ↦ spread_high n (not p) first cut (not h) cut_ends k (omega (arith, cut_long))
              ∙ sym (turned_flank n h k)
              ∙ sym (each k fits ∙ ap (turned_word n k) (spread_high n p first a h ends k behind))
        ]
      ]))
