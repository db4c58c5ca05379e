-- The parts of a file that aren't empty are no more than its lines.
use Rattle.std.proofs.Common.{◌≡◌, ℕ, suc, ◌+◌, ◌-◌, ◌≤◌, ◌==◌, Bool, true, false, not, ◌&&◌, cond, List, [], ◌∷◌}
use Rattle.std.proofs.Common.{length, slice_index, refl, sym, ap, ap₂, ◌∙◌, arith}
use Rattle.std.proofs.lemmas.Bool.{eqb-true}
use Rattle.std.specs.List.{slice_split, onto_first, count_by}
use Rattle.std.proofs.lemmas.List.Sums.{sum_by-cons}
use Rattle.index_reader.specs.Files.{ends_open, line_count}
use Rattle.trees.specs.Trees.{is_line_end}

-- how many parts have a byte
abbrev pub full : List (List ℕ) → ℕ
full [] = 0
full ([] ∷ parts) = full parts
full ((b ∷ part) ∷ parts) = suc (full parts)

abbrev full_later : List (List ℕ) → ℕ
full_later [] = 0
full_later (part ∷ parts) = full parts

full-later : (parts : List (List ℕ)) → full parts ≤ full_later parts + 1
full-later [] = omega arith
full-later ([] ∷ parts) = omega arith
full-later ((b ∷ part) ∷ parts) = omega arith

later-onto : (b : ℕ) (parts : List (List ℕ)) → full_later (onto_first b parts) ≡ full_later parts
later-onto b [] = refl
later-onto b (part ∷ parts) = refl

-- the lines with one more byte in front
count-cons : (b : ℕ) (bytes : List ℕ)
    → count_by is_line_end (b ∷ bytes) ≡ cond (is_line_end b) 1 0 + count_by is_line_end bytes
count-cons b bytes = sum_by-cons (λ y. cond (is_line_end y) 1 0) b bytes

longer : (n : ℕ) → (suc n == 0) ≡ false
longer n = by (suc n == 0) refl
  where
    by : (t : Bool) → (suc n == 0) ≡ t → t ≡ false
    by true e = absurd (let k = eqb-true (suc n) 0 e in omega (arith, k))
    by false e = refl

open-cons : (b c : ℕ) (bytes : List ℕ) → ends_open (b ∷ c ∷ bytes) ≡ ends_open (c ∷ bytes)
open-cons b c bytes =
    let more : length (b ∷ c ∷ bytes) - 1 ≡ suc (length (c ∷ bytes) - 1) = omega arith in
    ap₂ (λ t n. not t && not (is_line_end (slice_index (b ∷ c ∷ bytes) n))) (longer (length (c ∷ bytes))) more
    ∙ sym (ap (λ t. not t
    && not (is_line_end (slice_index (c ∷ bytes) (length (c ∷ bytes) - 1)))) (longer (length bytes)))

later-few : (b : ℕ) (bytes : List ℕ) → full_later (slice_split is_line_end (b ∷ bytes)) + 1 ≤ line_count (b ∷ bytes)
later-few b [] = by (is_line_end b) refl
  where
    by : (t : Bool) → is_line_end b ≡ t → full_later (cond t ([] ∷ [] ∷ []) ((b ∷ []) ∷ [])) + 1 ≤ line_count (b ∷ [])
    by true e = let k = count-cons b [] in rw (k, e) (omega arith)
    by false e = let k = count-cons b [] in rw (k, e) (omega arith)
later-few b (c ∷ bytes) = by (is_line_end b) refl (later-few c bytes)
  where
    parts : List (List ℕ)
    parts = slice_split is_line_end (c ∷ bytes)

    by : (t : Bool) → is_line_end b ≡ t → full_later parts + 1 ≤ line_count (c ∷ bytes)
        → full_later (cond t ([] ∷ parts) (onto_first b parts)) + 1 ≤ line_count (b ∷ c ∷ bytes)
    by true e few = let k = count-cons b (c ∷ bytes) in let f =
        full-later parts in rw (k, e, open-cons b c bytes) (omega (arith, few, f))
    by false e few = let k =
        count-cons b (c ∷ bytes) in rw (k, e, open-cons b c bytes, later-onto b parts) (omega (arith, few))

-- no more than the lines
pub full-few : (bytes : List ℕ) → full (slice_split is_line_end bytes) ≤ line_count bytes
full-few [] = omega arith
full-few (b ∷ bytes) =
    let few = later-few b bytes in
    let f = full-later (slice_split is_line_end (b ∷ bytes)) in
    omega (arith, few, f)

-- and these no more than the bytes
pub lines_few : (bytes : List ℕ) → line_count bytes ≤ length bytes
lines_few [] = omega arith
lines_few (b ∷ []) = by (is_line_end b) refl
  where
    by : (t : Bool) → is_line_end b ≡ t → line_count (b ∷ []) ≤ length (b ∷ [])
    by true e = let k = count-cons b [] in rw (k, e) (omega arith)
    by false e = let k = count-cons b [] in rw (k, e) (omega arith)
lines_few (b ∷ c ∷ bytes) = by (is_line_end b) refl (lines_few (c ∷ bytes))
  where
    by : (t : Bool) → is_line_end b ≡ t → line_count (c ∷ bytes) ≤ length (c ∷ bytes)
        → line_count (b ∷ c ∷ bytes) ≤ length (b ∷ c ∷ bytes)
    by true e few = let k = count-cons b (c ∷ bytes) in rw (k, e, open-cons b c bytes) (omega (arith, few))
    by false e few = let k = count-cons b (c ∷ bytes) in rw (k, e, open-cons b c bytes) (omega (arith, few))
