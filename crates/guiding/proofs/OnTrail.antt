-- Vertices and states at numbers, as vertices get numbers and come onto the trail.
use Rattle.std.proofs.Common.{◌≡◌, ◌≢◌, ℕ, zero, suc, ◌+◌, ◌<◌, ◌≤◌, true, List, [], ◌∷◌, ◌++◌, length, map, take, drop}
use Rattle.std.proofs.Common.{get_or, append_assoc, Option, Some, None, slice_get, refl, sym, ap, ◌∙◌, subst, arith}
use Rattle.std.specs.List.{AllPairs, AllByRecursion}
use Rattle.std.proofs.lemmas.Bool.{false≢true}
use Rattle.std.proofs.lemmas.List.{length-map}
use Rattle.std.proofs.lemmas.Option.{none-some}
use Rattle.version_sets.specs.Sets.{Members, has}
use Rattle.model.specs.Content.{Problem}
use Rattle.model.specs.Vertices.{Vertex, space}
use Rattle.model.specs.Axioms.{IsVertex}
use Rattle.model.proofs.Places.{got_in}
use Rattle.model.proofs.Members.{each_at}
use Rattle.numbering.specs.Numberings.{IsGrown, IsNumbering, Numbering, number_in}
use Rattle.numbering.proofs.Needing.{still_at}
use Rattle.numbering.proofs.Places.{number_at, number_of}
use Rattle.propagation.specs.Trails.{set_of}
use Rattle.propagation.specs.inner.Widening.{sum_of}
use Rattle.guiding.specs.inner.Guides.{asked_at, asked_if, on_trail}
use Rattle.guiding.specs.inner.Remaining.{late_of, spaces_of}
use Rattle.guiding.proofs.Arrivals.{map_append}
use Rattle.guiding.proofs.Remaining.{late_grown}

take_drop : {A : Type 0} (k : ℕ) (xs : List A) → take k xs ++ drop k xs ≡ xs
take_drop zero xs = refl
take_drop (suc k) [] = refl
take_drop (suc k) (x ∷ xs) = ap (λ l. x ∷ l) (take_drop k xs)

take_most : {A : Type 0} (k : ℕ) (xs : List A) → length xs ≤ k → take k xs ≡ xs
take_most zero [] le = refl
take_most zero (x ∷ xs) le = absurd (omega (arith, le))
take_most (suc k) [] le = refl
take_most (suc k) (x ∷ xs) le = ap (λ l. x ∷ l) (take_most k xs (omega (arith, le)))

taken_at : {A : Type 0} (k : ℕ) (xs : List A) (n : ℕ) (x : A) → slice_get (take k xs) n ≡ Some x
    → slice_get xs n ≡ Some x
taken_at zero xs n x e = absurd (none-some x e)
taken_at (suc k) [] n x e = e
taken_at (suc k) (y ∷ xs) zero x e = e
taken_at (suc k) (y ∷ xs) (suc n) x e = taken_at k xs n x e

first_is : {A : Type 0} (x y : A) (xs ys : List A) → x ∷ xs ≡ y ∷ ys → x ≡ y
first_is x y xs ys e = ap (λ l. get_or l 0 x) e

rest_is : {A : Type 0} (x y : A) (xs ys : List A) → x ∷ xs ≡ y ∷ ys → xs ≡ ys
rest_is x y xs ys e = ap (drop 1) e

front_off : {A : Type 0} (a b c d : List A) → a ≡ c → a ++ b ≡ c ++ d → b ≡ d
front_off [] b c d same e = subst (λ l. b ≡ l ++ d) (sym same) e
front_off (x ∷ a) b [] d same e = absurd (let n : suc (length a) ≡ 0 = ap length same in omega (arith, n))
front_off (x ∷ a) b (y ∷ c) d same e = front_off a b c d (rest_is x y a c same) (rest_is x y (a ++ b) (c ++ d) e)

short : {A : Type 0} (k : ℕ) (xs : List A) → length (take k xs) ≤ length xs
short zero xs = omega arith
short (suc k) [] = omega arith
short (suc k) (x ∷ xs) = let r = short k xs in omega (arith, r)

module _ (q : Problem) where
  -- the trail has no more vertices than have numbers
  pub on_trail_most : (vs : Numbering) (asked : List Members) → map length asked ≡ spaces_of q (on_trail vs asked)
      → length asked ≤ length vs
  on_trail_most vs asked e = omega (
    arith,
    ap length e,
    length-map asked length,
    length-map (on_trail vs asked) (λ w. length (space q w)),
    short (length asked) vs,
  )

  space_at : (vs : Numbering) (asked : List Members) (n : ℕ) → map length asked ≡ spaces_of q vs → n < length asked
      → (w : Vertex) × (slice_get vs n ≡ Some w) × (length (set_of asked n) ≡ length (space q w))
  space_at vs [] n e lt = absurd (omega (arith, lt))
  space_at [] (s ∷ asked) n e lt =
      absurd (let k : suc (length (map length asked)) ≡ 0 = ap length e in omega (arith, k))
  space_at (w ∷ vs) (s ∷ asked) zero e lt = (w, refl, first_is _ _ _ _ e)
  space_at (w ∷ vs) (s ∷ asked) (suc n) e lt = space_at vs asked n (rest_is _ _ _ _ e) (omega (arith, lt))

  -- a vertex that the trail has, and how many states it has
  pub on_trail_at : (vs : Numbering) (asked : List Members) (n : ℕ) → map length asked ≡ spaces_of q (on_trail vs asked)
      → n < length asked → (w : Vertex) × (slice_get vs n ≡ Some w) × (length (set_of asked n) ≡ length (space q w))
  on_trail_at vs asked n e lt = let r =
      space_at (on_trail vs asked) asked n e lt in (r.0, taken_at (length asked) vs n r.0 r.1, r.2)

  pub there_at : (vs : Numbering) (n : ℕ) (w : Vertex) → IsNumbering q vs → slice_get vs n ≡ Some w → IsVertex q w
  there_at vs n w ok e = each_at (λ v. IsVertex q v) vs w ok.there (got_in vs n w e)

  all_last : (xs ys : List Vertex) → AllByRecursion (λ v. IsVertex q v) (xs ++ ys)
      → AllByRecursion (λ v. IsVertex q v) ys
  all_last [] ys h = h
  all_last (x ∷ xs) ys h = all_last xs ys h.1

  -- where all that have numbers come onto the trail, what was late comes
  pub late_comes : (old new : Numbering) (asked more : List Members) (came : List ℕ) → IsGrown old new
      → IsNumbering q new → map length asked ≡ spaces_of q (on_trail old asked)
      → map length more ≡ spaces_of q (on_trail new more) → length new ≤ length more
      → map length more ≡ map length asked ++ came
      → sum_of came + late_of q (on_trail new more) ≡ late_of q (on_trail old asked)
  late_comes old new asked more came grown ok was now whole lengths =
      let rest : List Vertex = drop (length asked) old ++ grown.0 in
      let all : on_trail new more ≡ new = take_most (length more) new whole in
      let parts : new ≡ on_trail old asked ++ rest =
      grown.1 ∙ ap (λ l. l ++ grown.0) (sym (take_drop (length asked) old))
      ∙ append_assoc (on_trail old asked) (drop (length asked) old) grown.0 in
      let spaced : map length asked ++ came ≡ spaces_of q (on_trail old asked) ++ spaces_of q rest = sym lengths ∙ now
      ∙ ap (spaces_of q) (all ∙ parts) ∙ map_append (λ v. length (space q v)) (on_trail old asked) rest in
      let same : came ≡ spaces_of q rest =
      front_off (map length asked) came (spaces_of q (on_trail old asked)) (spaces_of q rest) was spaced in
      let sum : sum_of (spaces_of q rest) + late_of q (on_trail old asked ++ rest) ≡ late_of q (on_trail old asked) =
      late_grown q (on_trail old asked) rest (subst (AllPairs (λ v w. v ≢ w)) parts ok.once)
      (all_last (on_trail old asked) rest (subst (AllByRecursion (λ v. IsVertex q v)) parts ok.there)) in
      ap (λ l. sum_of l + late_of q (on_trail new more)) same
      ∙ ap (λ l. sum_of (spaces_of q rest) + late_of q l) (all ∙ parts) ∙ sum

  -- a number stays
  number_stays : (old new : Numbering) (v : Vertex) (n : ℕ) → IsGrown old new → IsNumbering q new
      → number_in old v ≡ Some n → number_in new v ≡ Some n
  number_stays old new v n grown ok e = number_of new v n ok.once (still_at old new n v grown (number_at old v n e))

  pub asked_stays : (old new : Numbering) (asked more : List Members) → IsGrown old new → IsNumbering q new
      → ((n i : ℕ) → has (set_of asked n) i ≡ true → has (set_of more n) i ≡ true)
      → (v : Vertex) (i : ℕ) → asked_at old asked v i ≡ true → asked_at new more v i ≡ true
  asked_stays old new asked more grown ok stays v i h = by (number_in old v) refl h
    where
      by : (o : Option ℕ) → number_in old v ≡ o → asked_if asked i o ≡ true → asked_at new more v i ≡ true
      by None e h = absurd (false≢true h)
      by (Some n) e h = ap (asked_if more i) (number_stays old new v n grown ok e) ∙ stays n i h

  pub asked_is : (vs : Numbering) (asked : List Members) (v : Vertex) (n i : ℕ) → IsNumbering q vs
      → slice_get vs n ≡ Some v → asked_at vs asked v i ≡ has (set_of asked n) i
  asked_is vs asked v n i ok e = ap (asked_if asked i) (number_of vs v n ok.once e)
