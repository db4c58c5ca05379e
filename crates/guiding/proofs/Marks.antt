-- Which pairs were asked for once one more is marked, and vertices have come that weren't.
use Rattle.std.proofs.Common.{◌≡◌, ◌≢◌, ℕ, zero, suc, ◌<◌, ◌≤◌, true, false, List, [], ◌∷◌, ◌++◌, length}
use Rattle.std.proofs.Common.{map, get_or, set, refl, sym, ap, ap₂, ◌∙◌, subst, inl, inr, ◌⊎◌, arith}
use Rattle.std.proofs.lemmas.Bool.{cases_eq, cases_lt, false≢true, or_left, or_right, or_cases}
use Rattle.std.proofs.lemmas.List.{get_or-append_right, get_or-set_other, get_or-set_same, get_or_append_left}
use Rattle.std.proofs.lemmas.List.{length-append, length-replicate}
use Rattle.version_sets.proofs.Laws.{length-join, length-only}
use Rattle.version_sets.specs.Sets.{Members, has, join, none, only}
use Rattle.propagation.specs.Trails.{set_of}
use Rattle.guiding.specs.inner.Guides.{marked}
use Rattle.guiding.proofs.Arrivals.{map_append}

join_left : (x y : Members) (i : ℕ) → length x ≡ length y → has x i ≡ true → has (join x y) i ≡ true
join_left [] y i e h = absurd (false≢true h)
join_left (b ∷ x) [] i e h = absurd (omega (arith, e))
join_left (b ∷ x) (c ∷ y) zero e h = or_left b c h
join_left (b ∷ x) (c ∷ y) (suc i) e h = join_left x y i (omega (arith, e)) h

join_right : (x y : Members) (i : ℕ) → length x ≡ length y → has y i ≡ true → has (join x y) i ≡ true
join_right [] [] i e h = absurd (false≢true h)
join_right [] (c ∷ y) i e h = absurd (omega (arith, e))
join_right (b ∷ x) [] i e h = absurd (omega (arith, e))
join_right (b ∷ x) (c ∷ y) zero e h = or_right b c h
join_right (b ∷ x) (c ∷ y) (suc i) e h = join_right x y i (omega (arith, e)) h

join_either : (x y : Members) (i : ℕ) → has (join x y) i ≡ true → (has x i ≡ true) ⊎ (has y i ≡ true)
join_either [] y i h = absurd (false≢true h)
join_either (b ∷ x) [] i h = absurd (false≢true h)
join_either (b ∷ x) (c ∷ y) zero h = or_cases b c h
join_either (b ∷ x) (c ∷ y) (suc i) h = join_either x y i h

has_none : (n i : ℕ) → has (none n) i ≡ false
has_none zero i = refl
has_none (suc n) zero = refl
has_none (suc n) (suc i) = has_none n i

only_has : (n i : ℕ) → i < n → has (only n i) i ≡ true
only_has n i lt = get_or-set_same (none n) i true false (omega (arith, lt, length-replicate n false))

only_is : (n i j : ℕ) → has (only n i) j ≡ true → j ≡ i
only_is n i j h = elim (cases_eq j i) [
  | inl e ↦ e
  | inr ne ↦ absurd (false≢true (sym (get_or-set_other (none n) i j true false ne ∙ has_none n j) ∙ h))
]

pub past_none : (ns : List ℕ) (u : ℕ) (j : ℕ) → has (set_of (map none ns) u) j ≡ false
past_none [] zero j = refl
past_none [] (suc u) j = refl
past_none (n ∷ ns) zero j = has_none n j
past_none (n ∷ ns) (suc u) j = past_none ns u j

pub lengths_none : (ns : List ℕ) → map length (map none ns) ≡ ns
lengths_none [] = refl
lengths_none (n ∷ ns) = ap₂ (λ m l. m ∷ l) (length-replicate n false) (lengths_none ns)

lengths_set : (xs : List Members) (v : ℕ) (x : Members) → length x ≡ length (set_of xs v)
    → map length (set xs v x) ≡ map length xs
lengths_set [] v x e = refl
lengths_set (y ∷ xs) zero x e = ap (λ n. n ∷ map length xs) e
lengths_set (y ∷ xs) (suc v) x e = ap (λ l. length y ∷ l) (lengths_set xs v x e)

pub lengths_at : (l : List Members) (k : ℕ) → get_or (map length l) k 0 ≡ length (set_of l k)
lengths_at [] zero = refl
lengths_at [] (suc k) = refl
lengths_at (s ∷ l) zero = refl
lengths_at (s ∷ l) (suc k) = lengths_at l k

pub mark_lengths : (asked : List Members) (v i : ℕ) → map length (marked asked v i) ≡ map length asked
mark_lengths asked v i = lengths_set asked v _
    (length-join (set_of asked v) (only (length (set_of asked v)) i) (sym (length-only (length (set_of asked v)) i)))

-- ---- vertices that come, none of whose states was asked for

module _ (asked : List Members) (came : List ℕ) where
  pub wide_lengths : map length (asked ++ map none came) ≡ map length asked ++ came
  wide_lengths = map_append length asked (map none came) ∙ ap (λ l. map length asked ++ l) (lengths_none came)

  pub wide_has : (u j : ℕ) → has (set_of asked u) j ≡ true → has (set_of (asked ++ map none came) u) j ≡ true
  wide_has u j h = elim (cases_lt u (length asked)) [
    | inl less ↦ subst (λ s. has s j ≡ true) (sym (get_or_append_left asked (map none came) [] u less)) h
    | inr ge ↦ absurd (false≢true (sym (ap (λ s. has s j) (past asked u ge)) ∙ h))
  ]
    where
      past : (xs : List Members) (k : ℕ) → length xs ≤ k → set_of xs k ≡ []
      past [] zero le = refl
      past [] (suc k) le = refl
      past (x ∷ xs) zero le = absurd (omega (arith, le))
      past (x ∷ xs) (suc k) le = past xs k (omega (arith, le))

  pub wide_either : (u j : ℕ) → has (set_of (asked ++ map none came) u) j ≡ true
      → (u < length asked) × (has (set_of asked u) j ≡ true)
  wide_either u j k = elim (cases_lt u (length asked)) [
    | inl less ↦ (less, subst (λ s. has s j ≡ true) (get_or_append_left asked (map none came) [] u less) k)
    | inr ge ↦ absurd (false≢true (sym (ap (λ s. has s j)
        (get_or-append_right asked (map none came) (length asked) u [] refl ge) ∙ past_none came _ j) ∙ k))
  ]

-- ---- and one is marked

module _ (asked : List Members) (came : List ℕ) (v i : ℕ) (low : v < length asked)
    (lt : i < length (set_of asked v)) where
  wide : List Members
  wide = asked ++ map none came

  here : set_of wide v ≡ set_of asked v
  unfolding wide
  here = get_or_append_left asked (map none came) [] v low

  fits : length (set_of wide v) ≡ length (only (length (set_of wide v)) i)
  fits = sym (length-only (length (set_of wide v)) i)

  within : v < length wide
  unfolding wide
  within = omega (arith, low, length-append asked (map none came))

  at_it : set_of (marked (asked ++ map none came) v i) v ≡ join (set_of wide v) (only (length (set_of wide v)) i)
  unfolding wide
  at_it = get_or-set_same (asked ++ map none came) v _ [] within

  at_other : (u : ℕ) → u ≢ v → set_of (marked (asked ++ map none came) v i) u ≡ set_of (asked ++ map none came) u
  at_other u ne = get_or-set_other (asked ++ map none came) v u _ [] ne

  -- the lengths of the sets
  pub marked_lengths : map length (marked (asked ++ map none came) v i) ≡ map length asked ++ came
  unfolding wide
  marked_lengths =
      lengths_set (asked ++ map none came) v _ (length-join (set_of wide v) (only (length (set_of wide v)) i) fits)
      ∙ wide_lengths asked came

  -- what was asked for is so afterwards
  pub marked_more : (u j : ℕ) → has (set_of asked u) j ≡ true
      → has (set_of (marked (asked ++ map none came) v i) u) j ≡ true
  unfolding wide
  marked_more u j h = elim (cases_eq u v) [
    | inl e ↦ subst (λ w. has (set_of (marked (asked ++ map none came) v i) w) j ≡ true) (sym e)
        (subst (λ s. has s j ≡ true) (sym at_it) (join_left (set_of wide v) (only (length (set_of wide v)) i) j fits
        (subst (λ w. has (set_of (asked ++ map none came) w) j ≡ true) e (wide_has asked came u j h))))
    | inr ne ↦ subst (λ s. has s j ≡ true) (sym (at_other u ne)) (wide_has asked came u j h)
  ]

  pub marked_now : has (set_of (marked (asked ++ map none came) v i) v) i ≡ true
  unfolding wide
  marked_now =
      subst (λ s. has s i ≡ true) (sym at_it) (join_right (set_of wide v) (only (length (set_of wide v)) i) i fits
      (only_has (length (set_of wide v)) i (subst (λ (s : Members). i < length s) (sym here) lt)))

  -- what is asked for afterwards is the pair, or was so
  pub marked_either : (u j : ℕ) → has (set_of (marked (asked ++ map none came) v i) u) j ≡ true
      → ((u ≡ v) × (j ≡ i)) ⊎ ((u < length asked) × (has (set_of asked u) j ≡ true))
  unfolding wide
  marked_either u j h = elim (cases_eq u v) [
    | inl e ↦ elim (join_either (set_of wide v) (only (length (set_of wide v)) i) j (subst (λ s. has s j ≡ true) at_it
        (subst (λ w. has (set_of (marked (asked ++ map none came) v i) w) j ≡ true) e h))) [
          | inl was ↦ inr (
            subst (λ w. w < length asked) (sym e) low,
            subst (λ w. has (set_of asked w) j ≡ true) (sym e) (subst (λ s. has s j ≡ true) here was),
          )
          | inr now ↦ inl (e, only_is (length (set_of wide v)) i j now)
        ]
    | inr ne ↦ inr (wide_either asked came u j (subst (λ s. has s j ≡ true) (at_other u ne) h))
  ]
