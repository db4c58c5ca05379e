-- Each assignment and each decision brings the number down.
use Rattle.std.proofs.Common.{◌≡◌, ℕ, zero, suc, ◌+◌, ◌<◌, ◌≤◌, List, [], ◌∷◌, ◌++◌, length, set, take, Option, Some}
use Rattle.std.proofs.Common.{None, refl, sym, ap, ◌∙◌, subst, arith}
use Rattle.std.proofs.Math.Seq.{drop-cons}
use Rattle.version_sets.specs.Sets.{Members, size}
use Rattle.propagation.specs.Trails.{StepView, TrailView, end_sets, level_after, no_step, past, set_of, sets_at}
use Rattle.propagation.specs.Trails.{step_at, total, undo}
use Rattle.propagation.specs.Promises.{IsSound, Levels, NextLevel}
use Rattle.propagation.proofs.LevelLemmas.{past_top}
use Rattle.propagation.proofs.Places.{from_start, level_from, next_level}
use Rattle.propagation.proofs.Back.{sets_long}
use Rattle.guiding.specs.inner.Searching.{EachFalls, IsFalling, space, space_in, start_of, sum_at, up_to}
use Rattle.guiding.proofs.Ends.{deeper_falls, end_top, ends_same, falling_deeper, falling_lower, lower_falls}
use Rattle.guiding.proofs.Ends.{start_same}

take_at : (ss : List StepView) (k : ℕ) → k < length ss → take (suc k) ss ≡ take k ss ++ step_at ss k ∷ []
take_at [] k lt = absurd (omega (arith, lt))
take_at (s ∷ ss) zero lt = refl
take_at (s ∷ ss) (suc k) lt = ap (λ xs. s ∷ xs) (take_at ss k (omega (arith, lt)))

levels_take : (low high k : ℕ) (ss : List StepView) → Levels low ss high → k ≤ length ss
    → Levels low (take k ss) (level_from low ss k)
unfolding level_from
levels_take low high zero ss v le = refl
levels_take low high (suc k) [] v le = absurd (omega (arith, le))
levels_take low high (suc zero) (s ∷ ss) v le = (v.0, refl)
levels_take low high (suc (suc k)) (s ∷ ss) v le = (v.0, levels_take s.level high (suc k) ss v.1 (omega (arith, le)))

pub top_at : (t : TrailView) (k : ℕ) → IsSound t → k ≤ length t.steps → past (up_to t k).level (up_to t k).steps ≡ []
top_at t k sound le =
    past_top (level_after t.steps k) 0 (level_after t.steps k) (take k t.steps) (subst (Levels 0 (take k t.steps))
    (from_start t.steps k) (levels_take 0 t.level k t.steps sound.levels le)) (omega arith)

total_more : (sets : List Members) (v : ℕ) (x : Members) → v < length sets → size (set_of sets v) < size x
    → total sets < total (set sets v x)
total_more [] v x lt more = absurd (omega (arith, lt))
total_more (s ∷ sets) zero x lt more = omega (arith, more)
total_more (s ∷ sets) (suc v) x lt more = omega (arith, total_more sets v x (omega (arith, lt)) more)

module _ (late : ℕ) (t : TrailView) (sound : IsSound t) where
  back_at : (k : ℕ) → k < length t.steps → undo (step_at t.steps k ∷ []) (sets_at t (suc k)) ≡ sets_at t k
  back_at k lt = sym (ap (λ ss. undo ss t.sets) (drop-cons t.steps k no_step lt))

  pub spent : (k : ℕ) → k < length t.steps → total (sets_at t (suc k)) < total (sets_at t k)
  spent k lt =
      let taken = sound.places k lt in
      let fewer = taken.fewer in
      let within = taken.within in
      subst (λ (ss : List Members). total (sets_at t (suc k)) < total ss) (back_at k lt)
      (total_more (sets_at t (suc k)) (step_at t.steps k).vertex (step_at t.steps k).before
      (omega (arith, within, sets_long t k, sets_long t (suc k))) fewer)

  same : (k : ℕ) → k < length t.steps → (l : ℕ) → l < (up_to t (suc k)).level
      → end_sets (up_to t (suc k)) l ≡ end_sets (up_to t k) l
  same k lt l low =
      ends_same l (up_to t (suc k)) (up_to t k) (step_at t.steps k ∷ []) (take_at t.steps k lt) (back_at k lt) (low, tt)

  less : (k : ℕ) → k < length t.steps
      → sum_at late (up_to t (suc k)) (up_to t (suc k)).level < sum_at late (up_to t k) (up_to t k).level
  less k lt =
      let fewer = spent k lt in
      subst (λ (ss : List Members). total ss + late < sum_at late (up_to t k) (up_to t k).level)
      (sym (end_top (up_to t (suc k)) (top_at t (suc k) sound lt)))
      (subst (λ (ss : List Members). total (sets_at t (suc k)) + late < total ss + late)
      (sym (end_top (up_to t k) (top_at t k sound (omega (arith, lt))))) (omega (arith, fewer)))

  step_by : (s k : ℕ) → k < length t.steps → (o : Option ℕ)
      → NextLevel (level_after t.steps k) (level_after t.steps (suc k)) o → IsFalling s late (up_to t k)
      → IsFalling s late (up_to t (suc k)) × (space_in s late (up_to t (suc k)) < space_in s late (up_to t k))
  step_by s k lt None n fall =
      let falls = falling_deeper s late (up_to t k) (up_to t (suc k)) fall n (λ l low.
      ap (λ (ss : List Members). total ss + late) (same k lt l low)) (less k lt) (top_at t (suc k) sound lt) in (
        falls,
        deeper_falls s late (up_to t k) (up_to t (suc k)) falls n
            (λ l low. ap (λ (ss : List Members). total ss + late) (same k lt l low)),
      )
  step_by s k lt (Some c) n fall =
      let fewer : sum_at late (up_to t (suc k)) (up_to t (suc k)).level < sum_at late (up_to t k)
      (up_to t (suc k)).level = subst (λ l.
      sum_at late (up_to t (suc k)) (up_to t (suc k)).level < sum_at late (up_to t k) l) (sym n) (less k lt) in
      let level : (up_to t (suc k)).level ≤ (up_to t k).level = omega (arith, n) in
      let falls = falling_lower s late (up_to t k) (up_to t (suc k)) fall level
      (λ l low. ap (λ (ss : List Members). total ss + late) (same k lt l low)) fewer (top_at t (suc k) sound lt) in (
        falls,
        lower_falls s late (up_to t k) (up_to t (suc k)) falls level
            (λ l low. ap (λ (ss : List Members). total ss + late) (same k lt l low)) fewer,
      )

  pub start_at : (k : ℕ) → k ≤ length t.steps → sets_at (up_to t k) 0 ≡ sets_at t 0
  start_at zero le = refl
  start_at (suc k) le = start_same (up_to t (suc k)) (up_to t k) (step_at t.steps k ∷ []) (take_at t.steps k le)
      (back_at k le) ∙ start_at k (omega (arith, le))

  pub falling_at : (k : ℕ) → k ≤ length t.steps → IsFalling (start_of late t) late (up_to t k)
  falling_at zero le = record { first = omega arith; falls = λ l lt. absurd (omega (arith, lt)); top = refl }
  falling_at (suc k) le = (step_by (start_of late t) k le (step_at t.steps k).forced_by
      (next_level t.level k t.steps sound.levels le) (falling_at k (omega (arith, le)))).0

  pub each_falls : EachFalls late t
  each_falls k lt =
      let fell = (step_by (start_of late t) k lt (step_at t.steps k).forced_by
      (next_level t.level k t.steps sound.levels lt) (falling_at k (omega (arith, lt)))).1 in
      subst (λ n. space_in n late (up_to t (suc k)) < space late (up_to t k))
      (ap (λ (ss : List Members). total ss + late) (sym (start_at (suc k) lt)))
      (subst (λ n. space_in (start_of late t) late (up_to t (suc k)) < space_in n late (up_to t k))
      (ap (λ (ss : List Members). total ss + late) (sym (start_at k (omega (arith, lt))))) fell)
