-- Levels, along a trail's places.
use Rattle.std.proofs.Common.{◌≡◌, ℕ, zero, suc, ◌+◌, ◌-◌, ◌<◌, ◌≤◌, List, [], ◌∷◌, ◌++◌, length, Option, Some, None}
use Rattle.std.proofs.Common.{refl, sym, ap, ◌∙◌, subst, arith, inl, inr}
use Rattle.std.proofs.lemmas.Bool.{cases_lt, le-leb, lt-leb}
use Rattle.propagation.specs.Trails.{Above, StepView, past, step_at}
use Rattle.propagation.specs.Promises.{Levels, NextLevel}

pub next_low : (low level : ℕ) (o : Option ℕ) → NextLevel low level o → low ≤ level
next_low low level None n = omega (arith, n)
next_low low level (Some c) n = omega (arith, n)

next_high : (low level : ℕ) (o : Option ℕ) → NextLevel low level o → level ≤ suc low
next_high low level None n = omega (arith, n)
next_high low level (Some c) n = omega (arith, n)

pub levels_le : (low high : ℕ) (ss : List StepView) → Levels low ss high → low ≤ high
levels_le low high [] l = omega (arith, l)
levels_le low high (s ∷ ss) l = omega (arith, levels_le s.level high ss l.1, next_low low s.level s.forced_by l.0)

-- no more levels than places
pub levels_few : (low high : ℕ) (ss : List StepView) → Levels low ss high → high ≤ low + length ss
levels_few low high [] l = omega (arith, l)
levels_few low high (s ∷ ss) l = omega (arith, levels_few s.level high ss l.1, next_high low s.level s.forced_by l.0)

pub levels_push : (low high : ℕ) (ss : List StepView) (s : StepView) → Levels low ss high
    → NextLevel high s.level s.forced_by → Levels low (ss ++ s ∷ []) s.level
levels_push low high [] s l n = (subst (λ m. NextLevel m s.level s.forced_by) (sym l) n, refl)
levels_push low high (x ∷ ss) s l n = (l.0, levels_push x.level high ss s l.1 n)

pub levels_parts : (low high : ℕ) (xs ys : List StepView) → Levels low (xs ++ ys) high
    → (mid : ℕ) × Levels low xs mid × Levels mid ys high
levels_parts low high [] ys l = (low, refl, l)
levels_parts low high (x ∷ xs) ys l = let r = levels_parts x.level high xs ys l.1 in (r.0, (l.0, r.1), r.2)

last_more : (x z : StepView) (xs : List StepView)
    → step_at (x ∷ z ∷ xs) (length (x ∷ z ∷ xs) - 1) ≡ step_at (z ∷ xs) (length (z ∷ xs) - 1)
last_more x z xs = let e : length (x ∷ z ∷ xs) - 1 ≡ suc (length (z ∷ xs) - 1) = omega arith in rw e refl

pub levels_last : (low high : ℕ) (ss : List StepView) → Levels low ss high → 0 < length ss
    → (step_at ss (length ss - 1)).level ≡ high
levels_last low high [] l some = absurd (omega (arith, some))
levels_last low high (x ∷ []) l some = l.1
levels_last low high (x ∷ z ∷ ss) l some =
    ap (λ (s : StepView). s.level) (last_more x z ss) ∙ levels_last x.level high (z ∷ ss) l.1 (omega arith)

past_in : (l : ℕ) (s : StepView) (ss : List StepView) → s.level ≤ l → past l (s ∷ ss) ≡ past l ss
past_in l s ss le = rw (le-leb s.level l le) refl

past_out : (l : ℕ) (s : StepView) (ss : List StepView) → l < s.level → past l (s ∷ ss) ≡ s ∷ ss
past_out l s ss lt = rw (lt-leb s.level l lt) refl

-- nothing is past the last level
pub past_top : (l low high : ℕ) (ss : List StepView) → Levels low ss high → high ≤ l → past l ss ≡ []
past_top l low high [] v le = refl
past_top l low high (s ∷ ss) v le =
    past_in l s ss (omega (arith, levels_le s.level high ss v.1, le)) ∙ past_top l s.level high ss v.1 le

pub past_last : (l low high : ℕ) (ss : List StepView) → Levels low ss high
    → (0 < length ss → (step_at ss (length ss - 1)).level ≤ l) → past l ss ≡ []
past_last l low high [] v le = refl
past_last l low high (s ∷ ss) v le =
    past_top l low high (s ∷ ss) v (omega (arith, levels_last low high (s ∷ ss) v (omega arith), le (omega arith)))

not_none : (s : StepView) (ss : List StepView) (P : Type 0) → (s ∷ ss) ≡ [] → P
not_none s ss P e = absurd cc

-- after a cut the last level is the one that was asked for
pub levels_cut : (l low high : ℕ) (ss gone : List StepView) → Levels low (ss ++ gone) high → Above l gone
    → past l ss ≡ [] → low ≤ l → l ≤ high → Levels low ss l
levels_cut l low high [] [] v above top first last = omega (arith, v, first, last)
levels_cut l low high [] (g ∷ gone) v above top first last =
    omega (arith, next_high low g.level g.forced_by v.0, above.0, first)
levels_cut l low high (s ∷ ss) gone v above top first last = elim (cases_lt l s.level) [
  | inl lt ↦ not_none s ss _ (sym (past_out l s ss lt) ∙ top)
  | inr le ↦ (v.0, levels_cut l s.level high ss gone v.1 above (sym (past_in l s ss le) ∙ top) le last)
]

-- what is past a level, where all that follows is above it
pub past_append : (l : ℕ) (xs ys : List StepView) → Above l ys → past l (xs ++ ys) ≡ past l xs ++ ys
past_append l [] [] a = refl
past_append l [] (y ∷ ys) a = rw (lt-leb y.level l a.0) refl
past_append l (x ∷ xs) ys a = elim (cases_lt l x.level) [
  | inl lt ↦ rw (lt-leb x.level l lt) refl
  | inr le ↦ rw (le-leb x.level l le) (past_append l xs ys a)
]

-- no place is of a level past the last
pub place_low : (low high k : ℕ) (ss : List StepView) → Levels low ss high → k < length ss → (step_at ss k).level ≤ high
place_low low high k [] v lt = absurd (omega (arith, lt))
place_low low high zero (s ∷ ss) v lt = levels_le s.level high ss v.1
place_low low high (suc k) (s ∷ ss) v lt = place_low s.level high k ss v.1 (omega (arith, lt))
