-- Looking at the steps from the last one down finds the needed ones.
use Rattle.std.proofs.Common.{◌≡◌, ℕ, zero, suc, ◌+◌, ◌<◌, ◌==◌, ◌||◌, Bool, true, false, cond, List, [], ◌∷◌, ◌++◌}
use Rattle.std.proofs.Common.{length, get_or, set, Option, Some, None, option_and_then, slice_get, refl, sym, ap, ◌∙◌}
use Rattle.std.proofs.Common.{subst, arith, replicate, reverse}
use Rattle.std.specs.List.{list_any}
use Rattle.std.proofs.lemmas.Bool.{eqb-true, eq-eqb}
use Rattle.std.proofs.lemmas.Bool.Decides.{nat_tests}
use Rattle.std.proofs.lemmas.List.{get_or-set_same, get_or-set_other, length-set, reverse-append}
use Rattle.model.specs.Derivation.{Step, given, combine}
use Rattle.derivations.specs.inner.References.{references_of, references_at}
use Rattle.explainer.specs.Explanations.{refers_to, refers_at, needed_from}
use Rattle.explainer.specs.inner.Marks.{with_two, is_needed}

-- the numbers found, lowest first, once so many steps are left to look at
abbrev pub sweep : List Step → ℕ → List Bool → List ℕ → List ℕ
sweep steps zero marks found = found
sweep steps (suc n) marks found = cond (is_needed marks n)
    (sweep steps n (with_two (references_at steps n) marks) (n ∷ found)) (sweep steps n marks found)

module _ (steps : List Step) where
  -- a step is marked where one that was found combines it
  pub record AreMarks (found : List ℕ) (marks : List Bool) : Type 0 where
    pub all : length marks ≡ length steps
    pub each : (m : ℕ) → m < length steps → get_or marks m false ≡ list_any (λ j. refers_at (slice_get steps j) m) found

  set-one : (marks : List Bool) (a m : ℕ) → m < length marks
      → get_or (set marks a true) m false ≡ ((a == m) || get_or marks m false)
  set-one marks a m lt = by (a == m) refl
    where
      by : (b : Bool) → (a == m) ≡ b → get_or (set marks a true) m false ≡ (b || get_or marks m false)
      by true is = let same : a ≡ m = eqb-true a m is in rw same (get_or-set_same marks m true false lt)
      by false is = get_or-set_other marks a m true false (λ e. let yes : (a == m) ≡ true = eq-eqb a m (sym e) in cc)

  or-swap : (a b c : Bool) → (b || (a || c)) ≡ ((a || b) || c)
  or-swap true true c = refl
  or-swap true false c = refl
  or-swap false true c = refl
  or-swap false false c = refl

  marked : (s : Step) (marks : List Bool) (m : ℕ) → m < length marks
      → get_or (with_two (references_of s) marks) m false ≡ (refers_to s m || get_or marks m false)
  marked (given k ts) marks m lt = refl
  marked (combine a b v ts) marks m lt =
      let longer : m < length (set marks a true) = let same = length-set marks a true in omega arith in
      set-one (set marks a true) b m longer ∙ ap (λ c. (b == m) || c) (set-one marks a m lt)
      ∙ or-swap (a == m) (b == m) (get_or marks m false)

  marked-length : (s : Step) (marks : List Bool) → length (with_two (references_of s) marks) ≡ length marks
  marked-length (given k ts) marks = refl
  marked-length (combine a b v ts) marks = length-set (set marks a true) b true ∙ length-set marks a true

  more : (o : Option Step) (n : ℕ) → slice_get steps n ≡ o → (found : List ℕ) (marks : List Bool) → AreMarks found marks
      → AreMarks (n ∷ found) (with_two (option_and_then references_of o) marks)
  more None n is found marks h = record { all = h.all; each = λ m lt. rw is (h.each m lt) }
  more (Some s) n is found marks h =
      record {
        all = marked-length s marks ∙ h.all;
        each = λ m lt.
            rw is (marked s marks m (let same = h.all in omega arith) ∙ ap (λ c. refers_to s m || c) (h.each m lt));
      }

  -- one more number before those that are found
  pub next : (n k : ℕ) (marks : List Bool) → n + suc k ≡ length steps → AreMarks (needed_from steps (n + 1) k) marks
      → needed_from steps n (suc k)
      ≡ cond (is_needed marks n) (n ∷ needed_from steps (n + 1) k) (needed_from steps (n + 1) k)
  unfolding needed_from
  next n zero marks whole h =
      let last : (n + 1 == length marks) ≡ true = eq-eqb _ _ (let same = h.all in omega arith) in
      rw last refl
  next n (suc k) marks whole h =
      let earlier : (n + 1 == length marks) ≡ false = let same = h.all in grind (arith, nat_tests) in
      let here = h.each n (omega arith) in
      rw (earlier, here) refl

  pub swept : (n k : ℕ) (marks : List Bool) → n + k ≡ length steps → AreMarks (needed_from steps n k) marks
      → sweep steps n marks (needed_from steps n k) ≡ needed_from steps 0 (length steps)
  swept zero k marks whole h = let all : k ≡ length steps = omega arith in rw all refl
  swept (suc n) k marks whole h = by (λ marks h. swept n (suc k) marks (omega arith) h) (is_needed marks n) refl
    where
      from : needed_from steps (suc n) k ≡ needed_from steps (n + 1) k
      from = ap (λ m. needed_from steps m k) (omega arith)

      marks-here : AreMarks (needed_from steps (n + 1) k) marks
      marks-here = subst (λ f. AreMarks f marks) from h

      step : needed_from steps n (suc k)
          ≡ cond (is_needed marks n) (n ∷ needed_from steps (n + 1) k) (needed_from steps (n + 1) k)
      step = next n k marks (omega arith) marks-here

      by : ((marks : List Bool) → AreMarks (needed_from steps n (suc k)) marks → sweep steps n marks
          (needed_from steps n (suc k)) ≡ needed_from steps 0 (length steps)) → (b : Bool) → is_needed marks n ≡ b
          → cond b (sweep steps n (with_two (references_at steps n) marks) (n ∷ needed_from steps (suc n) k))
          (sweep steps n marks (needed_from steps (suc n) k)) ≡ needed_from steps 0 (length steps)
      by rest true is =
          let now : needed_from steps n (suc k) ≡ n ∷ needed_from steps (suc n) k = step ∙ rw (is, from) refl in
          ap (λ f. sweep steps n (with_two (references_at steps n) marks) f) (sym now)
          ∙ rest (with_two (references_at steps n) marks)
          (subst (λ f. AreMarks f (with_two (references_at steps n) marks)) (sym now)
          (more (slice_get steps n) n refl (needed_from steps (suc n) k) marks h))
      by rest false is =
          let now : needed_from steps n (suc k) ≡ needed_from steps (suc n) k = step ∙ rw (is, from) refl in
          ap (λ f. sweep steps n marks f) (sym now) ∙ rest marks (subst (λ f. AreMarks f marks) (sym now) h)

-- ---- the loop

unmarked : (n m : ℕ) → get_or (replicate n false) m false ≡ false
unmarked zero m = refl
unmarked (suc n) zero = refl
unmarked (suc n) (suc m) = unmarked n m

pub as-long : (n : ℕ) → length (replicate n false) ≡ n
as-long zero = refl
as-long (suc n) = ap suc (as-long n)

pub begun : (steps : List Step) (n : ℕ) (marks : List Bool) (found : List ℕ) → n ≡ length steps
    → marks ≡ replicate n false → found ≡ [] → sweep steps n marks found ≡ needed_from steps 0 (length steps)
unfolding needed_from
begun steps n marks found whole empty none =
    rw none (swept steps n 0 marks (omega (arith, whole)) (record {
      all = ap length empty ∙ as-long n ∙ whole;
      each =
          λ m lt. ap (λ ms. get_or ms m false) empty ∙ unmarked n m;
    }))

pub went-on : (steps : List Step) (l left : ℕ) (marks marks' : List Bool) (found found' all : List ℕ) → left ≡ suc l
    → marks' ≡ cond (is_needed marks l) (with_two (references_at steps l) marks) marks
    → found' ≡ cond (is_needed marks l) (l ∷ found) found
    → sweep steps left marks found ≡ all → sweep steps l marks' found' ≡ all
went-on steps l left marks marks' found found' all next m f told =
    by (is_needed marks l) refl m f (subst (λ n. sweep steps n marks found ≡ all) next told)
  where
    by : (b : Bool) → is_needed marks l ≡ b → marks' ≡ cond b (with_two (references_at steps l) marks) marks
        → found' ≡ cond b (l ∷ found) found
        → cond (is_needed marks l) (sweep steps l (with_two (references_at steps l) marks) (l ∷ found))
        (sweep steps l marks found) ≡ all → sweep steps l marks' found' ≡ all
    by true is m f told = rw (m, f) (rw is at told)
    by false is m f told = rw (m, f) (rw is at told)

pub last-first : (b : Bool) (l : ℕ) (old new : List ℕ) → new ≡ cond b (old ++ l ∷ []) old
    → reverse new ≡ cond b (l ∷ reverse old) (reverse old)
last-first true l old new h = ap reverse h ∙ reverse-append old (l ∷ [])
last-first false l old new h = ap reverse h

pub kept-length : (b : Bool) (o : Option (ℕ × ℕ)) (marks : List Bool)
    → length (cond b (with_two o marks) marks) ≡ length marks
kept-length true None marks = refl
kept-length true (Some p) marks = length-set (set marks p.0 true) p.1 true ∙ length-set marks p.0 true
kept-length false o marks = refl
