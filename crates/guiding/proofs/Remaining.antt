-- What is left of a problem's vertices, as some of them get numbers, and of their pairs, as some are asked for.
use Rattle.std.proofs.Common.{◌≡◌, ◌≢◌, ℕ, zero, suc, ◌+◌, ◌<◌, ◌≤◌, List, [], ◌∷◌, ◌++◌, length, Bool, true, false}
use Rattle.std.proofs.Common.{if◌then◌else◌, ◌||◌, Contains, refl, sym, ap, ap₂, ◌∙◌, subst, inl, inr, ◌⊎◌, arith}
use Rattle.std.proofs.Common.{true≢false, append_assoc}
use Rattle.std.specs.List.{list_any, AllPairs, AllByRecursion}
use Rattle.std.proofs.lemmas.Bool.{cases_eq}
use Rattle.std.proofs.lemmas.List.{append-nil}
use Rattle.model.specs.Content.{Problem}
use Rattle.model.specs.Vertices.{Vertex, same_vertex, space}
use Rattle.model.specs.Axioms.{IsVertex}
use Rattle.model.proofs.Lists.{in_none, in_cons, in_first, in_rest, pairs_first, pairs_rest}
use Rattle.model.proofs.Same.{vertex-same, vertex-refl, vertex-other}
use Rattle.propagation.specs.inner.Widening.{sum_of}
use Rattle.guiding.specs.inner.Everything.{vertices}
use Rattle.guiding.specs.inner.Remaining.{late_in, late_of, open_below, open_in, open_of, spaces_of}
use Rattle.guiding.proofs.Everything.{all_listed, listed_apart}

-- ---- vertices get numbers

any_last : (vs : List Vertex) (v w : Vertex)
    → list_any (same_vertex w) (vs ++ v ∷ []) ≡ (list_any (same_vertex w) vs || same_vertex w v)
any_last [] v w = by (same_vertex w v)
  where
    by : (b : Bool) → (b || false) ≡ (false || b)
    by true = refl
    by false = refl
any_last (x ∷ vs) v w = by (same_vertex w x) (any_last vs v w)
  where
    by : (b : Bool) → list_any (same_vertex w) (vs ++ v ∷ []) ≡ (list_any (same_vertex w) vs || same_vertex w v)
        → (b || list_any (same_vertex w) (vs ++ v ∷ [])) ≡ ((b || list_any (same_vertex w) vs) || same_vertex w v)
    by true e = refl
    by false e = e

-- nothing is added to a test by one that fails
unless : (a b : Bool) → b ≡ false → (a || b) ≡ a
unless true b e = refl
unless false b e = e

apart_or : (w v : Vertex) → (w ≡ v) ⊎ (w ≢ v)
apart_or w v = at (same_vertex w v) refl
  where
    at : (b : Bool) → same_vertex w v ≡ b → (w ≡ v) ⊎ (w ≢ v)
    at true e = inl (vertex-same w v e)
    at false e = inr (λ s. true≢false (sym (subst (λ x. same_vertex w x ≡ true) s (vertex-refl w)) ∙ e))

in_append : {X : Type 0} (xs : List X) (y : X) (ys : List X) → Contains (xs ++ y ∷ ys) y
in_append [] y ys = in_first y ys
in_append (x ∷ xs) y ys = in_rest x y (xs ++ y ∷ ys) (in_append xs y ys)

module _ (q : Problem) where
  -- one that isn't among the others changes nothing of them
  late_other : (vs : List Vertex) (v : Vertex) (all : List Vertex) → (Contains all v → ⊥)
      → late_in q vs all ≡ late_in q (vs ++ v ∷ []) all
  late_other vs v [] gone = refl
  late_other vs v (w ∷ all) gone =
      let other : same_vertex w v ≡ false =
      vertex-other w v (λ e. gone (subst (Contains (w ∷ all)) e (in_first w all))) in
      ap₂ (λ (b : Bool) n. (if b then 0 else length (space q w)) + n)
      (sym (any_last vs v w ∙ unless (list_any (same_vertex w) vs) (same_vertex w v) other))
      (late_other vs v all (λ c. gone (in_rest w v all c)))

  late_first : (vs : List Vertex) (v w : Vertex) (all : List Vertex) → AllPairs (λ v w. v ≢ w) (w ∷ all)
      → list_any (same_vertex v) vs ≡ false → w ≡ v
      → late_in q vs (w ∷ all) ≡ length (space q v) + late_in q (vs ++ v ∷ []) (w ∷ all)
  late_first vs v w all apart new e =
      let was : list_any (same_vertex w) vs ≡ false = subst (λ x. list_any (same_vertex x) vs ≡ false) (sym e) new in
      let now : list_any (same_vertex w) (vs ++ v ∷ []) ≡ true = any_last vs v w ∙ ap (λ b. b || same_vertex w v) was
      ∙ subst (λ x. same_vertex w x ≡ true) e (vertex-refl w) in
      let before : (if list_any (same_vertex w) vs then 0 else length (space q w)) ≡ length (space q v) =
      ap (λ (b : Bool). if b then 0 else length (space q w)) was ∙ ap (λ x. length (space q x)) e in
      let after : (if list_any (same_vertex w) (vs ++ v ∷ []) then 0 else length (space q w)) ≡ 0 =
      ap (λ (b : Bool). if b then 0 else length (space q w)) now in
      let rest = late_other vs v all (λ d. pairs_first (λ v w. v ≢ w) w v all apart d e) in
      omega (arith, before, after, rest)

  late_rest : (vs : List Vertex) (v w : Vertex) (all : List Vertex) → w ≢ v
      → late_in q vs all ≡ length (space q v) + late_in q (vs ++ v ∷ []) all
      → late_in q vs (w ∷ all) ≡ length (space q v) + late_in q (vs ++ v ∷ []) (w ∷ all)
  late_rest vs v w all ne rest =
      let same : list_any (same_vertex w) (vs ++ v ∷ []) ≡ list_any (same_vertex w) vs =
      any_last vs v w ∙ unless (list_any (same_vertex w) vs) (same_vertex w v) (vertex-other w v ne) in
      let n : ℕ = if list_any (same_vertex w) vs then 0 else length (space q w) in
      let moved : n + (length (space q v) + late_in q (vs ++ v ∷ []) all)
      ≡ length (space q v) + (n + late_in q (vs ++ v ∷ []) all) = omega arith in
      ap (λ m. n + m) rest ∙ moved ∙ sym (ap (λ (b : Bool). length (space q v)
      + ((if b then 0 else length (space q w)) + late_in q (vs ++ v ∷ []) all)) same)

  late_one : (vs : List Vertex) (v : Vertex) (all : List Vertex) → AllPairs (λ v w. v ≢ w) all → Contains all v
      → list_any (same_vertex v) vs ≡ false
      → late_in q vs all ≡ length (space q v) + late_in q (vs ++ v ∷ []) all
  late_one vs v [] apart c new = absurd (in_none v c)
  late_one vs v (w ∷ all) apart c new = elim (apart_or w v) [
    | inl e ↦ late_first vs v w all apart new e
    | inr ne ↦ elim (in_cons w v all c) [
      | inl e ↦ absurd (ne e)
      | inr d ↦ late_rest vs v w all ne (late_one vs v all (pairs_rest (λ v w. v ≢ w) w all apart) d new)
    ]
  ]

  not_before : (vs : List Vertex) (v : Vertex) (more : List Vertex) → AllPairs (λ v w. v ≢ w) (vs ++ v ∷ more)
      → list_any (same_vertex v) vs ≡ false
  not_before [] v more apart = refl
  not_before (w ∷ vs) v more apart = ap (λ b. b || list_any (same_vertex v) vs)
      (vertex-other v w (λ e. pairs_first (λ v w. v ≢ w) w v (vs ++ v ∷ more) apart (in_append vs v more) (sym e)))
      ∙ not_before vs v more (pairs_rest (λ v w. v ≢ w) w (vs ++ v ∷ more) apart)

  -- where vertices get numbers, their states are no longer late
  pub late_grown : (vs more : List Vertex) → AllPairs (λ v w. v ≢ w) (vs ++ more)
      → AllByRecursion (λ v. IsVertex q v) more → sum_of (spaces_of q more) + late_of q (vs ++ more) ≡ late_of q vs
  late_grown vs [] apart are = let e : late_of q (vs ++ []) ≡ late_of q vs =
      ap (late_of q) (append-nil vs) in omega (arith, e)
  late_grown vs (v ∷ more) apart are =
      let one = late_one vs v (vertices q) (listed_apart q) (all_listed q v are.0) (not_before vs v more apart) in
      let same : (vs ++ v ∷ []) ++ more ≡ vs ++ v ∷ more = append_assoc vs (v ∷ []) more in
      let rest : sum_of (spaces_of q more) + late_of q (vs ++ v ∷ more) ≡ late_of q (vs ++ v ∷ []) =
      subst (λ ws. sum_of (spaces_of q more) + late_of q ws ≡ late_of q (vs ++ v ∷ [])) same
      (late_grown (vs ++ v ∷ []) more (subst (AllPairs (λ v w. v ≢ w)) (sym same) apart) are.1) in
      omega (arith, one, rest)

  -- ---- pairs are asked for

  abbrev AreMore : (Vertex → ℕ → Bool) → (Vertex → ℕ → Bool) → Type 0
  AreMore asked more = (v : Vertex) (s : ℕ) → asked v s ≡ true → more v s ≡ true

  abbrev one : Bool → ℕ
  one b = if b then 0 else 1

  one_le : (a b : Bool) → (a ≡ true → b ≡ true) → one b ≤ one a
  one_le true b h = subst (λ c. one c ≤ 0) (sym (h refl)) (omega arith)
  one_le false true h = omega arith
  one_le false false h = omega arith

  below_le : (n : ℕ) (asked more : ℕ → Bool) → ((s : ℕ) → asked s ≡ true → more s ≡ true)
      → open_below n more ≤ open_below n asked
  below_le zero asked more h = omega arith
  below_le (suc n) asked more h = let a = below_le n asked more h in let b =
      one_le (asked n) (more n) (h n) in omega (arith, a, b)

  below_lt : (n : ℕ) (asked more : ℕ → Bool) (s : ℕ) → ((s : ℕ) → asked s ≡ true → more s ≡ true) → s < n
      → asked s ≡ false → more s ≡ true → open_below n more < open_below n asked
  below_lt zero asked more s h lt was is = absurd (omega (arith, lt))
  below_lt (suc n) asked more s h lt was is = elim (cases_eq s n) [
    | inl e ↦
        let a = below_le n asked more h in
        let x : one (asked n) ≡ 1 = ap one (subst (λ k. asked k ≡ false) e was) in
        let y : one (more n) ≡ 0 = ap one (subst (λ k. more k ≡ true) e is) in
        omega (arith, a, x, y)
    | inr ne ↦ let a = below_lt n asked more s h (omega (arith, lt, ne)) was is in let b =
        one_le (asked n) (more n) (h n) in omega (arith, a, b)
  ]

  in_le : (asked more : Vertex → ℕ → Bool) (all : List Vertex) → AreMore asked more
      → open_in q more all ≤ open_in q asked all
  in_le asked more [] h = omega arith
  in_le asked more (v ∷ all) h = let a = below_le (length (space q v)) (asked v) (more v) (h v) in let b =
      in_le asked more all h in omega (arith, a, b)

  in_lt : (asked more : Vertex → ℕ → Bool) (all : List Vertex) (v : Vertex) (s : ℕ) → AreMore asked more
      → Contains all v → s < length (space q v) → asked v s ≡ false → more v s ≡ true
      → open_in q more all < open_in q asked all
  in_lt asked more [] v s h c lt was is = absurd (in_none v c)
  in_lt asked more (w ∷ all) v s h c lt was is = elim (in_cons w v all c) [
    | inl e ↦
        let a =
        below_lt (length (space q w)) (asked w) (more w) s (h w) (subst (λ x. s < length (space q x)) (sym e) lt)
        (subst (λ x. asked x s ≡ false) (sym e) was) (subst (λ x. more x s ≡ true) (sym e) is) in
        let b = in_le asked more all h in omega (arith, a, b)
    | inr d ↦ let a = below_le (length (space q w)) (asked w) (more w) (h w) in let b =
        in_lt asked more all v s h d lt was is in omega (arith, a, b)
  ]

  -- the more are asked for, the fewer are left
  pub open_le : (asked more : Vertex → ℕ → Bool) → AreMore asked more → open_of q more ≤ open_of q asked
  open_le asked more h = in_le asked more (vertices q) h

  pub open_lt : (asked more : Vertex → ℕ → Bool) (v : Vertex) (s : ℕ) → AreMore asked more → IsVertex q v
      → s < length (space q v) → asked v s ≡ false → more v s ≡ true → open_of q more < open_of q asked
  open_lt asked more v s h is lt was now = in_lt asked more (vertices q) v s h (all_listed q v is) lt was now
