-- The last place of a vertex, with one place more.
use Rattle.std.proofs.Common.{◌≡◌, ◌≢◌, ℕ, ◌<◌, List, [], ◌∷◌, ◌++◌, length, Option, Some, None, sym, ap, ◌∙◌, subst}
use Rattle.std.proofs.Common.{arith, inl, inr}
use Rattle.std.proofs.lemmas.Bool.{cases_lt}
use Rattle.propagation.specs.Trails.{StepView, step_at}
use Rattle.propagation.specs.Promises.{LatestOf}
use Rattle.propagation.proofs.Back.{front, last, longer_by_one}

pub latest_here : (ss : List StepView) (s : StepView) → LatestOf (ss ++ s ∷ []) s.vertex (Some (length ss))
latest_here ss s = (
  omega (arith, longer_by_one ss s),
  ap (λ (x : StepView). x.vertex) (last ss s),
  λ i li lt. absurd (omega (arith, longer_by_one ss s, li, lt)),
)

other : (ss : List StepView) (s : StepView) (v : ℕ) → s.vertex ≢ v → (i : ℕ)
    → (i < length ss → (step_at ss i).vertex ≢ v) → i < length (ss ++ s ∷ []) → (step_at (ss ++ s ∷ []) i).vertex ≢ v
other ss s v ne i h lt = elim (cases_lt i (length ss)) [
  | inl old ↦ rw (front ss s i old) (h old)
  | inr new ↦
      let e : length ss ≡ i = omega (arith, longer_by_one ss s, lt, new) in
      subst (λ m. (step_at (ss ++ s ∷ []) m).vertex ≢ v) e (subst (λ (x : StepView). x.vertex ≢ v) (sym (last ss s)) ne)
]

pub latest_other : (ss : List StepView) (s : StepView) (v : ℕ) (o : Option ℕ) → s.vertex ≢ v → LatestOf ss v o
    → LatestOf (ss ++ s ∷ []) v o
latest_other ss s v None ne h = λ i lt. other ss s v ne i (λ l. h i l) lt
latest_other ss s v (Some j) ne h = (
  omega (arith, longer_by_one ss s, h.0),
  ap (λ (x : StepView). x.vertex) (front ss s j h.0) ∙ h.1,
  λ i ji lt. other ss s v ne i (λ l. h.2 i ji l) lt,
)
