-- What was looked at of a trail, when places are put and cut.
use Rattle.std.proofs.Common.{◌≡◌, ℕ, suc, ◌<◌, ◌≤◌, true, List, [], ◌++◌, length, map, drop, refl, sym, ap}
use Rattle.std.proofs.Common.{◌∙◌, subst, arith, inl, inr}
use Rattle.std.proofs.lemmas.Bool.{cases_eq, cases_lt}
use Rattle.std.proofs.lemmas.List.{get_or-append_right, length-append}
use Rattle.version_sets.specs.Sets.{every}
use Rattle.version_sets.proofs.Laws.{size-le}
use Rattle.propagation.specs.Trails.{StepView, TrailView, set_of, sets_at, step_at, undo}
use Rattle.propagation.specs.Promises.{IsCut, IsSound}
use Rattle.propagation.specs.inner.Widening.{IsWider}
use Rattle.propagation.proofs.Back.{back_same, sets_long, sets_now}
use Rattle.propagation.proofs.Places.{shrinks, some_at}
use Rattle.propagation.proofs.SetLemmas.{inside_size, only_inside}
use Rattle.propagation.proofs.Soundness.{same_space}
use Rattle.propagation.proofs.Widened.{old_set, sets_wider}
use Rattle.guiding.specs.inner.Searching.{AllAsked, AreMore, IsOnly, IsSeen, LoneAsked, Pairs}

-- more places at the end
pub seen_longer : (n : ℕ) (asked : Pairs) (old new : TrailView) (added : List StepView) → new.steps ≡ old.steps ++ added
    → undo added new.sets ≡ old.sets → IsSeen n asked old → IsSeen n asked new
seen_longer n asked old new added steps back seen = record {
  within = (let w = seen.within in omega (arith, w, ap length steps, length-append old.steps added));
  all = subst (AllAsked asked) (sym (ap (λ ss. undo (drop n ss) new.sets) steps
      ∙ back_same (λ s. s.before) old.steps added new.sets old.sets n back seen.within)) seen.all;
}

-- a pair that stands alone after some places stands alone after more of them
pub alone_later : (t : TrailView) → IsSound t → (v i k n : ℕ) → k ≤ n → n ≤ length t.steps
    → IsOnly (set_of (sets_at t k) v) i → IsOnly (set_of (sets_at t n) v) i
alone_later t sound v i k n le within only =
    let one = only.0 in
    let inner = shrinks t sound v k n le within in
    let some = some_at t sound v n within
    (omega (arith, one, size-le (set_of (sets_at t k) v), same_space t sound k (omega (arith, le, within)) v)) in (
      omega (arith, one, some, inside_size (set_of (sets_at t n) v) (set_of (sets_at t k) v) inner),
      only_inside (set_of (sets_at t n) v) (set_of (sets_at t k) v) i inner one only.1 some,
    )

-- after a cut fewer places are seen
pub seen_cut : (n k l : ℕ) (asked more : Pairs) (old new : TrailView) (gone : List StepView) → IsSound old
    → IsCut l old new gone → k ≤ n → k ≤ length new.steps → AreMore asked more → IsSeen n asked old → IsSeen k more new
seen_cut n k l asked more old new gone sound cut few within grows seen = record {
  within = within;
  all = subst (AllAsked more) (ap (λ ss. undo (drop k ss) old.sets) cut.steps
      ∙ back_same (λ s. s.before) new.steps gone old.sets new.sets k (sym cut.sets) within)
      (λ v i lt only. grows v i (seen.all v i (omega (arith, lt, sets_long old k, sets_long old n))
      (alone_later old sound v i k n few seen.within only)));
}

-- one place more is seen, whose vertex doesn't stand alone now in a state that wasn't asked for
pub seen_next : (k : ℕ) (asked : Pairs) (t : TrailView) → IsSound t → k < length t.steps
    → ((i : ℕ) → IsOnly (set_of t.sets (step_at t.steps k).vertex) i → asked (step_at t.steps k).vertex i ≡ true)
    → IsSeen k asked t → IsSeen (suc k) asked t
seen_next k asked t sound lt here seen = record {
  within = omega (arith, lt);
  all = λ v i within only. elim (cases_eq v (step_at t.steps k).vertex) [
    | inl e ↦ subst (λ w. asked w i ≡ true) (sym e) (here i (subst (λ w. IsOnly (set_of t.sets w) i) e
        (subst (λ ss. IsOnly (set_of ss v) i) (sets_now t)
        (alone_later t sound v i (suc k) (length t.steps) (omega (arith, lt)) (omega arith) only))))
    | inr ne ↦ seen.all v i (omega (arith, within, sets_long t k, sets_long t (suc k)))
        (subst (λ s. IsOnly s i) ((sound.places k lt).there v ne) only)
  ];
}

-- so in the end every pair that stands alone was asked for
pub seen_all : (asked : Pairs) (t : TrailView) → IsSeen (length t.steps) asked t → AllAsked asked t.sets
seen_all asked t seen = subst (AllAsked asked) (sets_now t) seen.all

-- where vertices come, those that stand alone were asked for
pub seen_wider : (n : ℕ) (asked more : Pairs) (spaces : List ℕ) (old wide : TrailView) → IsSound old
    → IsWider spaces old wide → AreMore asked more → LoneAsked (length old.sets) more wide.sets
    → IsSeen n asked old → IsSeen n more wide
seen_wider n asked more spaces old wide sound wider grows lone seen = record {
  within = (let w = seen.within in omega (arith, w, ap length wider.steps));
  all = λ v i within only. elim (cases_lt v (length old.sets)) [
    | inl lt ↦ grows v i
        (seen.all v i (omega (arith, lt, sets_long old n)) (subst (λ s. IsOnly s i) (before v lt) only))
    | inr ge ↦ lone v i ge (omega (arith, within, sets_long wide n)) (subst (λ s. IsOnly s i) (after v ge) only)
  ];
}
  where
    at : sets_at wide n ≡ sets_at old n ++ map every spaces
    at = sets_wider spaces old wide sound wider n

    before : (v : ℕ) → v < length old.sets → set_of (sets_at wide n) v ≡ set_of (sets_at old n) v
    before v lt =
        ap (λ ss. set_of ss v) at ∙ old_set (sets_at old n) (map every spaces) v (omega (arith, lt, sets_long old n))

    after : (v : ℕ) → length old.sets ≤ v → set_of (sets_at wide n) v ≡ set_of wide.sets v
    after v ge =
        ap (λ ss. set_of ss v) at
        ∙ get_or-append_right (sets_at old n) (map every spaces) (length old.sets) v [] (sets_long old n) ge
        ∙ sym (ap (λ ss. set_of ss v) wider.sets
        ∙ get_or-append_right old.sets (map every spaces) (length old.sets) v [] refl ge)
