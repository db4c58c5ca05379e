-- The set of the numbers from one on and below another, by its tests.
use Rattle.std.proofs.Common.{◌≡◌, ℕ, ◌+◌, ◌-◌, ◌<◌, ◌≤◌, Bool, true, false, not, ◌&&◌, eqb}
use Rattle.std.proofs.Common.{◌++◌, map, replicate, ap, ap₂, sym, ◌∙◌, arith, eq-eqb, inl, inr}
use Rattle.std.proofs.Math.Dec.{ltb}
use Rattle.std.proofs.lemmas.Bool.{cases_eq, cases_lt, le-ltb, lt-ltb, ne_eqb}
use Rattle.std.proofs.lemmas.List.{append-nil}
use Rattle.std.proofs.lemmas.List.Elements.{filter-append}
use Rattle.std.proofs.Math.Bool.{and-false}
use Rattle.std.specs.List.{filter, range_with_len}
use Rattle.version_sets.specs.Sets.{between, none, only}
use Rattle.version_sets.specs.inner.Listed.{list_where, set_where}
use Rattle.version_sets.proofs.Listing.{const_from, filter_agree_from, filter_every_from, filter_none_from}
use Rattle.version_sets.proofs.Listing.{map_agree_from, none_where, only_where, range_append}
use Rattle.version_sets.proofs.Listing.{range_split, set_agree}

-- whether a number lies from one on and below another
abbrev pub in_range : ℕ → ℕ → ℕ → Bool
in_range from to i = ltb i to && not (ltb i from)

pub in_range_below : (from to i : ℕ) → i < from → in_range from to i ≡ false
in_range_below from to i low = ap (λ b. ltb i to && not b) (lt-ltb i from low) ∙ and-false (ltb i to)

pub in_range_inside : (from to i : ℕ) → from ≤ i → i < to → in_range from to i ≡ true
in_range_inside from to i low high = ap₂ (λ b c. b && not c) (lt-ltb i to high) (le-ltb i from low)

pub in_range_past : (from to i : ℕ) → to ≤ i → in_range from to i ≡ false
in_range_past from to i high = ap (λ b. b && not (ltb i from)) (le-ltb i to high)

-- a universe in three parts
module _ (from middle after : ℕ) where
  abbrev whole : ℕ
  whole = from + (middle + after)

  abbrev in_middle : ℕ → Bool
  in_middle = in_range from (0 + from + middle)

  below_it : (i : ℕ) → 0 ≤ i → i < 0 + from → in_middle i ≡ false
  below_it i low high = in_range_below from (0 + from + middle) i (omega arith)

  inside_it : (i : ℕ) → 0 + from ≤ i → i < 0 + from + middle → in_middle i ≡ true
  inside_it i low high = in_range_inside from (0 + from + middle) i (omega arith) high

  past_it : (i : ℕ) → 0 + from + middle ≤ i → i < 0 + from + middle + after → in_middle i ≡ false
  past_it i low high = in_range_past from (0 + from + middle) i low

  parts_where : replicate from false ++ (replicate middle true ++ replicate after false) ≡ set_where whole in_middle
  parts_where =
      ap₂ (λ xs ys. xs ++ ys) (const_from false 0 from ∙ sym (map_agree_from in_middle (λ _. false) 0 from below_it))
      (ap₂ (λ xs ys. xs ++ ys) (const_from true (0 + from) middle
      ∙ sym (map_agree_from in_middle (λ _. true) (0 + from) middle inside_it))
      (const_from false (0 + from + middle) after
      ∙ sym (map_agree_from in_middle (λ _. false) (0 + from + middle) after past_it)))
      ∙ sym (range_split in_middle 0 from (middle + after) ∙ ap (λ l. map in_middle (range_with_len 0 from) ++ l)
      (range_split in_middle (0 + from) middle after))

  parts_listed : list_where whole in_middle ≡ range_with_len (0 + from) middle
  parts_listed =
      ap (filter in_middle) (range_append 0 from (middle + after))
      ∙ filter-append in_middle (range_with_len 0 from) (range_with_len (0 + from) (middle + after))
      ∙ ap₂ (λ xs ys. xs ++ ys) (filter_agree_from in_middle (λ _. false) 0 from below_it ∙ filter_none_from 0 from)
      (ap (filter in_middle) (range_append (0 + from) middle after)
      ∙ filter-append in_middle (range_with_len (0 + from) middle) (range_with_len (0 + from + middle) after)
      ∙ ap₂ (λ xs ys. xs ++ ys) (filter_agree_from in_middle (λ _. true) (0 + from) middle inside_it
      ∙ filter_every_from (0 + from) middle)
      (filter_agree_from in_middle (λ _. false) (0 + from + middle) after past_it
      ∙ filter_none_from (0 + from + middle) after))
      ∙ append-nil (range_with_len (0 + from) middle)

module _ (n from to : ℕ) (rising : from ≤ to) (within : to ≤ n) where
  whole_is : from + ((to - from) + (n - to)) ≡ n
  whole_is = omega arith

  end_is : 0 + from + (to - from) ≡ to
  end_is = omega arith

  start_is : 0 + from ≡ from
  start_is = omega arith

  pub between_where : between n from to ≡ set_where n (in_range from to)
  between_where =
      parts_where from (to - from) (n - to) ∙ ap₂ (λ m t. set_where m (in_range from t)) whole_is end_is

  pub list_between : list_where n (in_range from to) ≡ range_with_len from (to - from)
  list_between = sym (ap₂ (λ m t. list_where m (in_range from t)) whole_is end_is)
      ∙ parts_listed from (to - from) (n - to) ∙ ap (λ a. range_with_len a (to - from)) start_is

-- no number and one number
pub between_none : (n m : ℕ) → m ≤ n → between n m m ≡ none n
between_none n m within = between_where n m m (omega arith) within ∙ set_agree (in_range m m) (λ _. false) n (λ i low.
    elim (cases_lt i m) [
      | inl below ↦ in_range_below m m i below
      | inr past ↦ in_range_past m m i past
    ]) ∙ sym (none_where n)

pub between_one : (n m : ℕ) → m < n → between n m (m + 1) ≡ only n m
between_one n m below = between_where n m (m + 1) (omega arith) (omega arith)
    ∙ set_agree (in_range m (m + 1)) (λ i. eqb m i) n (λ i low. one_range i) ∙ sym (only_where n m)
  where
    one_range : (i : ℕ) → in_range m (m + 1) i ≡ eqb m i
    one_range i = elim (cases_eq m i) [
      | inl e ↦ in_range_inside m (m + 1) i (omega arith) (omega arith) ∙ sym (eq-eqb m i e)
      | inr o ↦ elim (cases_lt i m) [
        | inl before ↦ in_range_below m (m + 1) i before ∙ sym (ne_eqb m i o)
        | inr past ↦ in_range_past m (m + 1) i (omega arith) ∙ sym (ne_eqb m i o)
      ]
    ]
