-- Laws of sets that a trail needs: what is left after some states are taken away.
use Rattle.std.proofs.Common.{◌≡◌, ℕ, zero, suc, ◌<◌, ◌≤◌, true, false, [], ◌∷◌, List, length, set, refl, sym, ◌∙◌}
use Rattle.std.proofs.Common.{arith, inl, inr}
use Rattle.std.proofs.lemmas.Bool.{cases_Bool, false≢true, true≢false}
use Rattle.version_sets.proofs.Within.{has_some}
use Rattle.version_sets.specs.Sets.{Members, every, has, inside, is_full, meet, meets, none, only, rest, size}
use Rattle.propagation.specs.Trails.{set_of, total}

pub inside_same : (s : Members) → inside s s ≡ true
inside_same [] = refl
inside_same (true ∷ s) = inside_same s
inside_same (false ∷ s) = inside_same s

pub inside_none : (s x : Members) → inside s [] ≡ true → inside s x ≡ true
inside_none [] x h = refl
inside_none (true ∷ s) x h = absurd (false≢true h)
inside_none (false ∷ s) [] h = h
inside_none (false ∷ s) (x ∷ xs) h = inside_none s xs h

pub inside_through : (a b c : Members) → inside a b ≡ true → inside b c ≡ true → inside a c ≡ true
inside_through [] b c h k = refl
inside_through (a ∷ bs) [] c h k = inside_none (a ∷ bs) c h
inside_through (true ∷ as_) (true ∷ bs) [] h k = absurd (false≢true k)
inside_through (true ∷ as_) (true ∷ bs) (true ∷ cs) h k = inside_through as_ bs cs h k
inside_through (true ∷ as_) (true ∷ bs) (false ∷ cs) h k = absurd (false≢true k)
inside_through (true ∷ as_) (false ∷ bs) c h k = absurd (false≢true h)
inside_through (false ∷ as_) (true ∷ bs) [] h k = absurd (false≢true k)
inside_through (false ∷ as_) (false ∷ bs) [] h k = inside_through as_ bs [] h k
inside_through (false ∷ as_) (true ∷ bs) (true ∷ cs) h k = inside_through as_ bs cs h k
inside_through (false ∷ as_) (true ∷ bs) (false ∷ cs) h k = absurd (false≢true k)
inside_through (false ∷ as_) (false ∷ bs) (c ∷ cs) h k = inside_through as_ bs cs h k

-- what a part has of a third set, the whole has; what a part has outside of it, the whole has
pub outside_through : (a b x : Members) → inside a b ≡ true → inside a x ≡ false → inside b x ≡ false
outside_through a b x h k = elim (cases_Bool (inside b x)) [
  | inl t ↦ absurd (true≢false (sym (inside_through a b x h t) ∙ k))
  | inr f ↦ f
]

pub meets_through : (a b x : Members) → inside a b ≡ true → meets a x ≡ true → meets b x ≡ true
meets_through [] b x h m = absurd (false≢true m)
meets_through (a ∷ as_) b [] h m = absurd (false≢true m)
meets_through (true ∷ as_) [] (x ∷ xs) h m = absurd (false≢true h)
meets_through (false ∷ as_) [] (x ∷ xs) h m = absurd (false≢true (meets_through as_ [] xs h m))
meets_through (true ∷ as_) (true ∷ bs) (true ∷ xs) h m = refl
meets_through (true ∷ as_) (true ∷ bs) (false ∷ xs) h m = meets_through as_ bs xs h m
meets_through (true ∷ as_) (false ∷ bs) (x ∷ xs) h m = absurd (false≢true h)
meets_through (false ∷ as_) (true ∷ bs) (true ∷ xs) h m = refl
meets_through (false ∷ as_) (true ∷ bs) (false ∷ xs) h m = meets_through as_ bs xs h m
meets_through (false ∷ as_) (false ∷ bs) (x ∷ xs) h m = meets_through as_ bs xs h m

-- the set of one number
pub inside_empty : (n : ℕ) (s : Members) → inside (none n) s ≡ true
inside_empty zero s = refl
inside_empty (suc n) [] = inside_empty n []
inside_empty (suc n) (b ∷ s) = inside_empty n s

pub inside_only : (s : Members) (i : ℕ) → has s i ≡ true → inside (only (length s) i) s ≡ true
inside_only [] i h = refl
inside_only (true ∷ s) zero h = inside_empty (length s) s
inside_only (false ∷ s) zero h = absurd (false≢true h)
inside_only (b ∷ s) (suc i) h = inside_only s i h

size_none : (n : ℕ) → size (none n) ≡ 0
size_none zero = refl
size_none (suc n) = size_none n

pub size_only : (s : Members) (i : ℕ) → has s i ≡ true → size (only (length s) i) ≡ 1
size_only [] i h = absurd (false≢true h)
size_only (b ∷ s) zero h = omega (arith, size_none (length s))
size_only (b ∷ s) (suc i) h = size_only s i h

-- the full set
pub size_every : (n : ℕ) → size (every n) ≡ n
size_every zero = refl
size_every (suc n) = omega (arith, size_every n)

pub full_inside : (x : Members) → inside (every (length x)) x ≡ true → is_full x ≡ true
full_inside [] h = refl
full_inside (true ∷ x) h = full_inside x h
full_inside (false ∷ x) h = absurd (false≢true h)

pub not_full_long : (x : Members) → is_full x ≡ false → 0 < length x
not_full_long [] h = absurd (false≢true (sym h))
not_full_long (b ∷ x) h = omega arith

-- a set without some of its states
pub inside_left : (s x : Members) → length x ≡ length s → inside (meet s (rest x)) s ≡ true
inside_left [] x e = refl
inside_left (b ∷ s) [] e = absurd (omega (arith, e))
inside_left (true ∷ s) (true ∷ x) e = inside_left s x (omega (arith, e))
inside_left (true ∷ s) (false ∷ x) e = inside_left s x (omega (arith, e))
inside_left (false ∷ s) (b ∷ x) e = inside_left s x (omega (arith, e))

size_left_le : (s x : Members) → size (meet s (rest x)) ≤ size s
size_left_le [] x = omega arith
size_left_le (true ∷ s) [] = omega arith
size_left_le (false ∷ s) [] = omega arith
size_left_le (true ∷ s) (true ∷ x) = omega (arith, size_left_le s x)
size_left_le (true ∷ s) (false ∷ x) = omega (arith, size_left_le s x)
size_left_le (false ∷ s) (b ∷ x) = size_left_le s x

pub size_left : (s x : Members) → meets s x ≡ true → size (meet s (rest x)) < size s
size_left [] x h = absurd (false≢true h)
size_left (b ∷ s) [] h = absurd (false≢true h)
size_left (true ∷ s) (true ∷ x) h = omega (arith, size_left_le s x)
size_left (true ∷ s) (false ∷ x) h = omega (arith, size_left s x h)
size_left (false ∷ s) (b ∷ x) h = size_left s x h

pub left_apart : (s x : Members) → meets (meet s (rest x)) x ≡ false
left_apart [] x = refl
left_apart (b ∷ s) [] = refl
left_apart (true ∷ s) (true ∷ x) = left_apart s x
left_apart (true ∷ s) (false ∷ x) = left_apart s x
left_apart (false ∷ s) (b ∷ x) = left_apart s x

pub some_left : (s x : Members) → length x ≡ length s → inside s x ≡ false → 0 < size (meet s (rest x))
some_left [] x e h = absurd (false≢true (sym h))
some_left (b ∷ s) [] e h = absurd (omega (arith, e))
some_left (true ∷ s) (true ∷ x) e h = some_left s x (omega (arith, e)) h
some_left (true ∷ s) (false ∷ x) e h = omega arith
some_left (false ∷ s) (b ∷ x) e h = some_left s x (omega (arith, e)) h

pub length-rest : (x : Members) → length (rest x) ≡ length x
length-rest [] = refl
length-rest (b ∷ x) = omega (arith, length-rest x)

-- how many numbers a set has, by a set around it, and by a number that it has
pub inside_size : (s x : Members) → inside s x ≡ true → size s ≤ size x
inside_size [] x h = omega arith
inside_size (true ∷ s) [] h = absurd (false≢true h)
inside_size (false ∷ s) [] h = inside_size s [] h
inside_size (true ∷ s) (true ∷ x) h = omega (arith, inside_size s x h)
inside_size (true ∷ s) (false ∷ x) h = absurd (false≢true h)
inside_size (false ∷ s) (true ∷ x) h = omega (arith, inside_size s x h)
inside_size (false ∷ s) (false ∷ x) h = inside_size s x h

-- a set that is not empty, inside a set of one number, has that number
pub only_inside : (s x : Members) (i : ℕ) → inside s x ≡ true → size x ≡ 1 → has x i ≡ true
    → 0 < size s → has s i ≡ true
only_inside [] x i h one there some = absurd (omega (arith, some))
only_inside (b ∷ s) [] i h one there some = absurd (false≢true there)
only_inside (true ∷ s) (true ∷ x) zero h one there some = refl
only_inside (false ∷ s) (true ∷ x) zero h one there some = absurd (omega (arith, one, some, inside_size s x h))
only_inside (b ∷ s) (false ∷ x) zero h one there some = absurd (false≢true there)
only_inside (b ∷ s) (true ∷ x) (suc i) h one there some = absurd (omega (arith, one, has_some x i there))
only_inside (true ∷ s) (false ∷ x) (suc i) h one there some = absurd (false≢true h)
only_inside (false ∷ s) (false ∷ x) (suc i) h one there some = only_inside s x i h one there some

-- a set of one number lies inside each set that has the number
none_inside : (s x : Members) → size s ≡ 0 → inside s x ≡ true
none_inside [] x e = refl
none_inside (true ∷ s) x e = absurd (omega (arith, e))
none_inside (false ∷ s) [] e = none_inside s [] e
none_inside (false ∷ s) (y ∷ x) e = none_inside s x e

pub one_inside : (s x : Members) (i : ℕ) → size s ≡ 1 → has s i ≡ true → has x i ≡ true → inside s x ≡ true
one_inside [] x i e h k = refl
one_inside (b ∷ s) [] i e h k = absurd (false≢true k)
one_inside (true ∷ s) (true ∷ x) zero e h k = none_inside s x (omega (arith, e))
one_inside (true ∷ s) (false ∷ x) zero e h k = absurd (false≢true k)
one_inside (false ∷ s) (y ∷ x) zero e h k = absurd (false≢true h)
one_inside (true ∷ s) (y ∷ x) (suc i) e h k = absurd (omega (arith, e, has_some s i h))
one_inside (false ∷ s) (y ∷ x) (suc i) e h k = one_inside s x i e h k

-- what a part of both has some of, both have
pub meets_of : (s b x : Members) → 0 < size s → inside s b ≡ true → inside s x ≡ true → meets b x ≡ true
meets_of [] b x some hb hx = absurd (omega (arith, some))
meets_of (true ∷ s) [] x some hb hx = absurd (false≢true hb)
meets_of (true ∷ s) (true ∷ b) [] some hb hx = absurd (false≢true hx)
meets_of (true ∷ s) (true ∷ b) (true ∷ x) some hb hx = refl
meets_of (true ∷ s) (true ∷ b) (false ∷ x) some hb hx = absurd (false≢true hx)
meets_of (true ∷ s) (false ∷ b) x some hb hx = absurd (false≢true hb)
meets_of (false ∷ s) [] x some hb hx = absurd (omega (arith, some, inside_size s [] hb))
meets_of (false ∷ s) (b ∷ bs) [] some hb hx = absurd (omega (arith, some, inside_size s [] hx))
meets_of (false ∷ s) (true ∷ b) (true ∷ x) some hb hx = refl
meets_of (false ∷ s) (true ∷ b) (false ∷ x) some hb hx = meets_of s b x some hb hx
meets_of (false ∷ s) (false ∷ b) (x ∷ xs) some hb hx = meets_of s b xs some hb hx

-- the sum of all sets, with one of them smaller
pub total_set : (sets : List Members) (v : ℕ) (x : Members) → size x < size (set_of sets v)
    → total (set sets v x) < total sets
total_set [] v x lt = absurd (omega (arith, lt))
total_set (s ∷ sets) zero x lt = omega (arith, lt)
total_set (s ∷ sets) (suc v) x lt = omega (arith, total_set sets v x lt)
