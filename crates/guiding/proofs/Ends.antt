-- What the end of a level keeps when places are put or taken off, and how the sums of the levels fall.
use Rattle.std.proofs.Common.{◌≡◌, ℕ, zero, suc, ◌+◌, ◌-◌, ◌<◌, ◌≤◌, List, [], ◌∷◌, ◌++◌, drop, append_assoc, refl, sym}
use Rattle.std.proofs.Common.{ap, ◌∙◌, subst, arith, inl, inr}
use Rattle.std.proofs.lemmas.Bool.{cases_lt}
use Rattle.propagation.specs.Trails.{Above, StepView, TrailView, end_sets, past, sets_at, undo}
use Rattle.propagation.proofs.Back.{back_same, put_back-append}
use Rattle.propagation.proofs.LevelLemmas.{past_append}
use Rattle.guiding.specs.inner.Measures.{Falling, measure_of}
use Rattle.guiding.specs.inner.Searching.{IsFalling, firsts, space_in, sum_at}
use Rattle.guiding.proofs.Weights.{measure_longer, measure_lower}

pub above_less : (l level : ℕ) (ss : List StepView) → l ≤ level → Above level ss → Above l ss
above_less l level [] le a = tt
above_less l level (s ∷ ss) le a = (omega (arith, le, a.0), above_less l level ss le a.1)

-- what is put or taken off after a level's end leaves its sets
pub ends_same : (l : ℕ) (long short : TrailView) (more : List StepView) → long.steps ≡ short.steps ++ more
    → undo more long.sets ≡ short.sets → Above l more → end_sets long l ≡ end_sets short l
ends_same l long short more steps back above =
    ap (λ ss. undo (past l ss) long.sets) steps ∙ ap (λ ss. undo ss long.sets) (past_append l short.steps more above)
    ∙ put_back-append (λ s. s.before) (past l short.steps) more long.sets ∙ ap (undo (past l short.steps)) back

pub start_same : (long short : TrailView) (more : List StepView) → long.steps ≡ short.steps ++ more
    → undo more long.sets ≡ short.sets → sets_at long 0 ≡ sets_at short 0
start_same long short more steps back = ap (λ ss. undo (drop 0 ss) long.sets) steps
    ∙ back_same (λ s. s.before) short.steps more long.sets short.sets 0 back (omega arith)

pub end_top : (t : TrailView) → past t.level t.steps ≡ [] → end_sets t t.level ≡ t.sets
end_top t top = ap (λ ss. undo ss t.sets) top

-- lists of sums
firsts_same : (n : ℕ) (f g : ℕ → ℕ) → ((l : ℕ) → l < n → f l ≡ g l) → firsts n f ≡ firsts n g
firsts_same zero f g e = refl
firsts_same (suc n) f g e = rw (firsts_same n f g (λ l lt. e l (omega (arith, lt))), e n (omega arith)) refl

firsts_more : (b k : ℕ) (f : ℕ → ℕ) → (rest : List ℕ) × (firsts (suc (b + k)) f ≡ firsts b f ++ f b ∷ rest)
firsts_more b zero f = ([], let e : b + 0 ≡ b = omega arith in rw e refl)
firsts_more b (suc k) f =
    let ih = firsts_more b k f in
    let e : b + suc k ≡ suc (b + k) = omega arith in
    (ih.0 ++ f (suc (b + k)) ∷ [], rw (e, ih.1) (append_assoc (firsts b f) (f b ∷ ih.0) (f (suc (b + k)) ∷ [])))

falling_snoc : (b : ℕ) (xs : List ℕ) (x y : ℕ) → Falling b (xs ++ x ∷ []) → y < x → Falling b ((xs ++ x ∷ []) ++ y ∷ [])
falling_snoc b [] x y f lt = (f.0, (lt, tt))
falling_snoc b (z ∷ xs) x y f lt = (f.0, falling_snoc z xs x y f.1 lt)

falling_firsts : (s n : ℕ) (f : ℕ → ℕ) → f 0 ≤ s → ((l : ℕ) → l < n → f (suc l) < f l)
    → Falling (s + 1) (firsts (suc n) f)
falling_firsts s zero f first falls = (omega (arith, first), tt)
falling_firsts s (suc n) f first falls = falling_snoc (s + 1) (firsts n f) (f n) (f (suc n))
    (falling_firsts s n f first (λ l lt. falls l (omega (arith, lt)))) (falls n (omega arith))

-- less at the level where the new trail stands, and the same before it
pub lower_falls : (s late : ℕ) (old new : TrailView) → IsFalling s late new → new.level ≤ old.level
    → ((l : ℕ) → l < new.level → sum_at late new l ≡ sum_at late old l)
    → sum_at late new new.level < sum_at late old new.level → space_in s late new < space_in s late old
lower_falls s late old new fall level same lt =
    let k = old.level - new.level in
    let is : new.level + k ≡ old.level = omega (arith, level) in
    let more = firsts_more new.level k (sum_at late old) in
    let e = firsts_same new.level (sum_at late new) (sum_at late old) same in
    let less = measure_lower s (firsts new.level (sum_at late new)) (sum_at late old new.level)
    (sum_at late new new.level) more.0 [] lt (falling_firsts s new.level (sum_at late new) fall.first fall.falls) in
    rw (← is, more.1, ← e) less

pub deeper_falls : (s late : ℕ) (old new : TrailView) → IsFalling s late new → new.level ≡ suc old.level
    → ((l : ℕ) → l < new.level → sum_at late new l ≡ sum_at late old l) → space_in s late new < space_in s late old
deeper_falls s late old new fall level same =
    let f : Falling (s + 1) (firsts (suc (suc old.level)) (sum_at late new)) =
    subst (λ m. Falling (s + 1) (firsts (suc m) (sum_at late new))) level
    (falling_firsts s new.level (sum_at late new) fall.first fall.falls) in
    let e = firsts_same (suc old.level) (sum_at late new) (sum_at late old) (λ l lt. same l (rw level lt)) in
    let less : measure_of s (firsts (suc (suc old.level)) (sum_at late new)) < space_in s late old =
    rw (← e) (measure_longer s (firsts (suc old.level) (sum_at late new)) (sum_at late new (suc old.level)) [] f) in
    subst (λ m. measure_of s (firsts (suc m) (sum_at late new)) < space_in s late old) (sym level) less

-- vertices that come leave the sums as they were
pub space_stays : (s la lb : ℕ) (old new : TrailView) → new.level ≡ old.level
    → ((l : ℕ) → sum_at lb new l ≡ sum_at la old l) → space_in s lb new ≡ space_in s la old
space_stays s la lb old new level sums = ap (λ n. measure_of s (firsts (suc n) (sum_at lb new))) level
    ∙ ap (measure_of s) (firsts_same (suc old.level) (sum_at lb new) (sum_at la old) (λ l lt. sums l))

pub falling_stays : (s la lb : ℕ) (old new : TrailView) → IsFalling s la old → new.level ≡ old.level
    → ((l : ℕ) → sum_at lb new l ≡ sum_at la old l) → past new.level new.steps ≡ [] → IsFalling s lb new
falling_stays s la lb old new fall level sums top = record {
  first = rw (sums 0) fall.first;
  falls = λ l lt. rw (sums (suc l), sums l) (fall.falls l (omega (arith, level, lt)));
  top = top;
}

pub falling_lower : (s late : ℕ) (old new : TrailView) → IsFalling s late old → new.level ≤ old.level
    → ((l : ℕ) → l < new.level → sum_at late new l ≡ sum_at late old l)
    → sum_at late new new.level < sum_at late old new.level → past new.level new.steps ≡ [] → IsFalling s late new
falling_lower s late old new fall level same less top = record {
  first = elim (cases_lt 0 new.level) [
    | inl lt ↦ rw (same 0 lt) fall.first
    | inr le ↦
        let e : new.level ≡ 0 = omega (arith, le) in
        let h : sum_at late new 0 < sum_at late old 0 = subst (λ m. sum_at late new m < sum_at late old m) e less in
        let k = fall.first in
        omega (arith, h, k)
  ];
  falls = λ l lt. elim (cases_lt (suc l) new.level) [
    | inl lt' ↦ rw (same (suc l) lt', same l lt) (fall.falls l (omega (arith, lt, level)))
    | inr le ↦
        let e : new.level ≡ suc l = omega (arith, le, lt) in
        let h : sum_at late new (suc l) < sum_at late old (suc l) =
        subst (λ m. sum_at late new m < sum_at late old m) e less in
        let k : sum_at late old (suc l) < sum_at late old l = fall.falls l (omega (arith, lt, level)) in
        let j : sum_at late new l ≡ sum_at late old l = same l lt in
        omega (arith, h, k, j)
  ];
  top = top;
}

pub falling_deeper : (s late : ℕ) (old new : TrailView) → IsFalling s late old → new.level ≡ suc old.level
    → ((l : ℕ) → l < new.level → sum_at late new l ≡ sum_at late old l)
    → sum_at late new new.level < sum_at late old old.level → past new.level new.steps ≡ [] → IsFalling s late new
falling_deeper s late old new fall level same less top = record {
  first = rw (same 0 (omega (arith, level))) fall.first;
  falls = λ l lt. elim (cases_lt l old.level) [
    | inl lt' ↦ rw (same (suc l) (omega (arith, lt', level)), same l lt) (fall.falls l lt')
    | inr le ↦
        let e : l ≡ old.level = omega (arith, le, lt, level) in
        let h : sum_at late new (suc old.level) < sum_at late old old.level =
        subst (λ m. sum_at late new m < sum_at late old old.level) level less in
        let j : sum_at late new old.level ≡ sum_at late old old.level = same old.level (omega (arith, level)) in
        rw e (let g : sum_at late new (suc old.level) < sum_at late new old.level = omega (arith, h, j) in g)
  ];
  top = top;
}
