-- What the places of a trail say of each other: sets only shrink, what is satisfied stays so, and levels end at places.
use Rattle.std.proofs.Common.{◌≡◌, ◌≢◌, ℕ, zero, suc, ◌+◌, ◌-◌, ◌<◌, ◌≤◌, true, leb, List, [], ◌∷◌, ◌++◌, length}
use Rattle.std.proofs.Common.{get_or, drop, take, cond, Option, Some, None, refl, sym, ap, ◌∙◌, subst, arith, inl, inr}
use Rattle.std.proofs.lemmas.Bool.{cases_eq, cases_lt, le-leb, lt-leb}
use Rattle.std.proofs.Math.Seq.{drop-cons}
use Rattle.std.proofs.lemmas.List.{get_or-set_same}
use Rattle.version_sets.specs.Sets.{Members, inside, size}
use Rattle.version_sets.proofs.Laws.{size-le}
use Rattle.incompatibilities.specs.Incompatibilities.{Terms, HoldsAt}
use Rattle.propagation.specs.Satisfaction.{Sat}
use Rattle.propagation.specs.Trails.{StepView, TrailView, end_sets, latest_at, level_after, no_step, past, set_of}
use Rattle.propagation.specs.Trails.{sets_at}
use Rattle.propagation.specs.Trails.{space_of, step_at, undo, unlink}
use Rattle.propagation.specs.Promises.{IsCut, IsSound, IsTaken, LatestOf, Levels, NextLevel}
use Rattle.propagation.proofs.Back.{length-put_back}
use Rattle.propagation.proofs.LevelLemmas.{next_low, past_append}
use Rattle.propagation.proofs.SetLemmas.{inside_same, inside_through, size_every}
use Rattle.propagation.proofs.Soundness.{same_space}

-- a vertex that no place between two is on keeps its set
unchanged_by : (t : TrailView) → IsSound t → (v j m : ℕ) → m + j ≤ length t.steps
    → ((i : ℕ) → j ≤ i → i < m + j → (step_at t.steps i).vertex ≢ v)
    → set_of (sets_at t (m + j)) v ≡ set_of (sets_at t j) v
unchanged_by t sound v j zero le none = let e : 0 + j ≡ j = omega arith in rw e refl
unchanged_by t sound v j (suc m) le none =
    let e : suc m + j ≡ suc (m + j) = omega arith in
    let taken = sound.places (m + j) (omega (arith, le)) in
    ap (λ n. set_of (sets_at t n) v) e ∙ taken.there v (λ same. none (m + j) (omega arith) (omega arith) (sym same))
    ∙ unchanged_by t sound v j m (omega (arith, le)) (λ i ji lt. none i ji (omega (arith, lt)))

pub unchanged : (t : TrailView) → IsSound t → (v j k : ℕ) → j ≤ k → k ≤ length t.steps
    → ((i : ℕ) → j ≤ i → i < k → (step_at t.steps i).vertex ≢ v) → set_of (sets_at t k) v ≡ set_of (sets_at t j) v
unchanged t sound v j k jk le none =
    let e : (k - j) + j ≡ k = omega (arith, jk) in
    ap (λ n. set_of (sets_at t n) v) (sym e)
    ∙ unchanged_by t sound v j (k - j) (omega (arith, le, jk)) (λ i ji lt. none i ji (omega (arith, lt, jk)))

-- later sets lie inside earlier ones
shrinks_by : (t : TrailView) → IsSound t → (v j m : ℕ) → m + j ≤ length t.steps
    → inside (set_of (sets_at t (m + j)) v) (set_of (sets_at t j) v) ≡ true
shrinks_by t sound v j zero le = let e : 0 + j ≡ j = omega arith in rw e (inside_same (set_of (sets_at t j) v))
shrinks_by t sound v j (suc m) le = subst (λ n. inside (set_of (sets_at t n) v) (set_of (sets_at t j) v) ≡ true) (sym e)
    (elim (cases_eq v (step_at t.steps (m + j)).vertex) [
      | inl at ↦ subst (λ w. inside (set_of (sets_at t (suc (m + j))) w) (set_of (sets_at t j) w) ≡ true) (sym at)
          (inside_through (set_of (sets_at t (suc (m + j))) (step_at t.steps (m + j)).vertex)
          (step_at t.steps (m + j)).before (set_of (sets_at t j) (step_at t.steps (m + j)).vertex) taken.shrinks
          (subst (λ s. inside s (set_of (sets_at t j) (step_at t.steps (m + j)).vertex) ≡ true) (sym taken.before)
          (shrinks_by t sound (step_at t.steps (m + j)).vertex j m (omega (arith, le)))))
      | inr ne ↦ subst (λ s. inside s (set_of (sets_at t j) v) ≡ true) (sym (taken.there v ne))
          (shrinks_by t sound v j m (omega (arith, le)))
    ])
  where
    e : suc m + j ≡ suc (m + j)
    e = omega arith

    taken : IsTaken (sets_at t (m + j)) (sets_at t (suc (m + j))) (step_at t.steps (m + j))
    taken = sound.places (m + j) (omega (arith, le))

pub shrinks : (t : TrailView) → IsSound t → (v j k : ℕ) → j ≤ k → k ≤ length t.steps
    → inside (set_of (sets_at t k) v) (set_of (sets_at t j) v) ≡ true
shrinks t sound v j k jk le =
    let e : (k - j) + j ≡ k = omega (arith, jk) in
    subst (λ n. inside (set_of (sets_at t n) v) (set_of (sets_at t j) v) ≡ true) e
    (shrinks_by t sound v j (k - j) (omega (arith, le, jk)))

-- no set is empty, where its universe isn't
pub some_at : (t : TrailView) → IsSound t → (v k : ℕ) → k ≤ length t.steps → 0 < space_of t v
    → 0 < size (set_of (sets_at t k) v)
some_at t sound v zero le some = omega (arith, ap size (sound.starts v), size_every (space_of t v), some)
some_at t sound v (suc k) le some = elim (cases_eq v (step_at t.steps k).vertex) [
  | inl at ↦ subst (λ w. 0 < size (set_of (sets_at t (suc k)) w)) (sym at) (sound.places k (omega (arith, le))).some
  | inr ne ↦ subst (λ s. 0 < size s) (sym ((sound.places k (omega (arith, le))).there v ne))
      (some_at t sound v k (omega (arith, le)) some)
]

-- the link of a place leads to the last place before it on its vertex
pub linked : (t : TrailView) → IsSound t → (k : ℕ) → k < length t.steps
    → LatestOf (take k t.steps) (step_at t.steps k).vertex (step_at t.steps k).previous
linked t sound k lt =
    let v = (step_at t.steps k).vertex in
    let taken = sound.places k lt in
    let within : v < length t.sets =
    omega (arith, taken.within, length-put_back (λ s. s.before) (drop k t.steps) t.sets) in
    let room : v < length (unlink (drop (suc k) t.steps) t.latest) =
    omega (arith, within, sound.long, length-put_back (λ s. s.previous) (drop (suc k) t.steps) t.latest) in
    let at : get_or (latest_at t k) v None ≡ (step_at t.steps k).previous =
    ap (λ ss. get_or (unlink ss t.latest) v None) (drop-cons t.steps k no_step lt)
    ∙ get_or-set_same (unlink (drop (suc k) t.steps) t.latest) v (step_at t.steps k).previous None room in
    subst (LatestOf (take k t.steps) v) at (sound.latest k v (omega (arith, lt)) within)

-- how many places are of levels up to one
pub kept : ℕ → List StepView → ℕ
kept l [] = 0
kept l (s ∷ ss) = cond (leb s.level l) (suc (kept l ss)) 0

kept_in : (l : ℕ) (s : StepView) (ss : List StepView) → s.level ≤ l → kept l (s ∷ ss) ≡ suc (kept l ss)
unfolding kept
kept_in l s ss le = rw (le-leb s.level l le) refl

kept_out : (l : ℕ) (s : StepView) (ss : List StepView) → l < s.level → kept l (s ∷ ss) ≡ 0
unfolding kept
kept_out l s ss lt = rw (lt-leb s.level l lt) refl

pub kept_le : (l : ℕ) (ss : List StepView) → kept l ss ≤ length ss
unfolding kept
kept_le l [] = omega arith
kept_le l (s ∷ ss) = elim (cases_lt l s.level) [
  | inl lt ↦ omega (arith, kept_out l s ss lt)
  | inr le ↦ omega (arith, kept_in l s ss le, kept_le l ss)
]

pub kept_more : (l : ℕ) (xs ys : List StepView) → kept l xs ≤ kept l (xs ++ ys)
unfolding kept
kept_more l [] ys = omega arith
kept_more l (x ∷ xs) ys = elim (cases_lt l x.level) [
  | inl lt ↦ omega (arith, kept_out l x xs lt)
  | inr le ↦ omega (arith, kept_in l x xs le, kept_in l x (xs ++ ys) le, kept_more l xs ys)
]

past_kept : (l : ℕ) (ss : List StepView) → past l ss ≡ drop (kept l ss) ss
unfolding kept
past_kept l [] = refl
past_kept l (s ∷ ss) = elim (cases_lt l s.level) [
  | inl lt ↦ rw (lt-leb s.level l lt) refl
  | inr le ↦ rw (le-leb s.level l le) (past_kept l ss)
]

-- the end of a level is a place
pub end_is_place : (t : TrailView) (l : ℕ) → end_sets t l ≡ sets_at t (kept l t.steps)
end_is_place t l = ap (λ ss. undo ss t.sets) (past_kept l t.steps)

first_least : (l low high k : ℕ) (ss : List StepView) → Levels low ss high → k < length ss
    → (step_at ss k).level ≤ l → low ≤ l
first_least l low high k [] r lt le = absurd (omega (arith, lt))
first_least l low high zero (s ∷ ss) r lt le = omega (arith, next_low low s.level s.forced_by r.0, le)
first_least l low high (suc k) (s ∷ ss) r lt le =
    omega (arith, next_low low s.level s.forced_by r.0, first_least l s.level high k ss r.1 (omega (arith, lt)) le)

-- a place lies before the end of a level where its own level is at most that
pub before_end : (l low high k : ℕ) (ss : List StepView) → Levels low ss high → k < length ss
    → (step_at ss k).level ≤ l → k < kept l ss
before_end l low high k [] r lt le = absurd (omega (arith, lt))
before_end l low high zero (s ∷ ss) r lt le = omega (arith, kept_in l s ss le)
before_end l low high (suc k) (s ∷ ss) r lt le =
    let first : s.level ≤ l = first_least l s.level high k ss r.1 (omega (arith, lt)) le in
    omega (arith, kept_in l s ss first, before_end l s.level high k ss r.1 (omega (arith, lt)) le)

pub past_end : (l k : ℕ) (ss : List StepView) → k < kept l ss → (step_at ss k).level ≤ l
unfolding kept
past_end l k [] lt = absurd (omega (arith, lt))
past_end l zero (s ∷ ss) lt = elim (cases_lt l s.level) [
  | inl less ↦ absurd (omega (arith, lt, kept_out l s ss less))
  | inr le ↦ le
]
past_end l (suc k) (s ∷ ss) lt = elim (cases_lt l s.level) [
  | inl less ↦ absurd (omega (arith, lt, kept_out l s ss less))
  | inr le ↦ past_end l k ss (omega (arith, lt, kept_in l s ss le))
]

-- the level before a place, and that levels rise
unfoldable pub level_from : ℕ → List StepView → ℕ → ℕ
level_from low ss zero = low
level_from low ss (suc k) = (step_at ss k).level

next_at : (low high k : ℕ) (ss : List StepView) → Levels low ss high → k < length ss
    → NextLevel (level_from low ss k) (step_at ss k).level (step_at ss k).forced_by
unfolding level_from
next_at low high k [] r lt = absurd (omega (arith, lt))
next_at low high zero (s ∷ ss) r lt = r.0
next_at low high (suc zero) (s ∷ ss) r lt = next_at s.level high zero ss r.1 (omega (arith, lt))
next_at low high (suc (suc k)) (s ∷ ss) r lt = next_at s.level high (suc k) ss r.1 (omega (arith, lt))

pub from_start : (ss : List StepView) (k : ℕ) → level_from 0 ss k ≡ level_after ss k
unfolding level_from
from_start ss zero = refl
from_start ss (suc k) = refl

pub next_level : (high k : ℕ) (ss : List StepView) → Levels 0 ss high → k < length ss
    → NextLevel (level_after ss k) (step_at ss k).level (step_at ss k).forced_by
next_level high k ss r lt =
    subst (λ n. NextLevel n (step_at ss k).level (step_at ss k).forced_by) (from_start ss k) (next_at 0 high k ss r lt)

levels_up : (high m j : ℕ) (ss : List StepView) → Levels 0 ss high → m + j ≤ length ss
    → level_after ss j ≤ level_after ss (m + j)
levels_up high zero j ss r le = let e : 0 + j ≡ j = omega arith in rw e (omega arith)
levels_up high (suc m) j ss r le =
    let e : suc m + j ≡ suc (m + j) = omega arith in
    let one = next_low (level_after ss (m + j))
    (step_at ss (m + j)).level (step_at ss (m + j)).forced_by (next_level high (m + j) ss r (omega (arith, le))) in
    rw e (omega (arith, one, levels_up high m j ss r (omega (arith, le))))

pub levels_rise : (high j k : ℕ) (ss : List StepView) → Levels 0 ss high → j ≤ k → k ≤ length ss
    → level_after ss j ≤ level_after ss k
levels_rise high j k ss r jk le =
    let e : (k - j) + j ≡ k = omega (arith, jk) in
    subst (λ n. level_after ss j ≤ level_after ss n) e (levels_up high (k - j) j ss r (omega (arith, le, jk)))

-- what is satisfied after some places stays so
pub holds_later : (t : TrailView) → IsSound t → (u j k : ℕ) → j ≤ k → k ≤ length t.steps → (o : Option Members)
    → HoldsAt (set_of (sets_at t j) u) o → HoldsAt (set_of (sets_at t k) u) o
holds_later t sound u j k jk le None h = tt
holds_later t sound u j k jk le (Some x) h = (
  some_at t sound u k le (let some =
      h.0 in omega (arith, some, size-le (set_of (sets_at t j) u), same_space t sound j (omega (arith, jk, le)) u)),
  inside_through (set_of (sets_at t k) u) (set_of (sets_at t j) u) x (shrinks t sound u j k jk le) h.1,
)

pub sat_later : (t : TrailView) → IsSound t → (f : Terms) (j k : ℕ) → j ≤ k → k ≤ length t.steps
    → Sat (sets_at t j) f → Sat (sets_at t k) f
sat_later t sound f j k jk le sat u = holds_later t sound u j k jk le (f u) (sat u)

-- a later level ends at a later place
kept_rise : (l m : ℕ) (ss : List StepView) → l ≤ m → kept l ss ≤ kept m ss
unfolding kept
kept_rise l m [] le = omega arith
kept_rise l m (s ∷ ss) le = elim (cases_lt l s.level) [
  | inl lt ↦ omega (arith, kept_out l s ss lt)
  | inr ge ↦ omega (arith, kept_in l s ss ge, kept_in m s ss (omega (arith, le, ge)), kept_rise l m ss le)
]

pub holds_at_ends : (t : TrailView) → IsSound t → (u l m : ℕ) → l ≤ m → (o : Option Members)
    → HoldsAt (set_of (end_sets t l) u) o → HoldsAt (set_of (end_sets t m) u) o
holds_at_ends t sound u l m le o h = subst (λ (ss : List Members). HoldsAt (set_of ss u) o) (sym (end_is_place t m))
    (holds_later t sound u (kept l t.steps) (kept m t.steps) (kept_rise l m t.steps le) (kept_le m t.steps) o
    (subst (λ (ss : List Members). HoldsAt (set_of ss u) o) (end_is_place t l) h))

-- after a cut, the sets are those at the end of the level
pub cut_sets : (l : ℕ) (old new : TrailView) (gone : List StepView) → IsCut l old new gone → end_sets old l ≡ new.sets
cut_sets l old new gone c = ap (λ ss. undo ss old.sets)
    (ap (past l) c.steps ∙ past_append l new.steps gone c.above ∙ ap (λ ss. ss ++ gone) c.top) ∙ sym c.sets
