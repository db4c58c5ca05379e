-- From the two greatest numbers of places to the satisfier.
use Rattle.std.proofs.Common.{◌≡◌, ℕ, zero, suc, ◌<◌, ◌≤◌, List, length, Option, Some, None, true, refl, sym, ap, ◌∙◌}
use Rattle.std.proofs.Common.{subst, arith, inl, inr}
use Rattle.std.proofs.lemmas.Bool.{cases_eq, cases_lt}
use Rattle.version_sets.specs.Sets.{Members, inside, size}
use Rattle.terms.specs.Terms.{TermView}
use Rattle.incompatibilities.specs.Incompatibilities.{Terms, states_at, HoldsAt}
use Rattle.incompatibilities.specs.Stores.{EntryView, terms_of}
use Rattle.propagation.specs.Trails.{TrailView, end_sets, level_after, set_of, sets_at, space_of, step_at}
use Rattle.propagation.specs.Satisfaction.{OthersHold, Sat}
use Rattle.propagation.specs.inner.Units.{LiesOn, term_at}
use Rattle.propagation.specs.Promises.{ForcedFits, IsForcedBy, IsSatisfied, IsSound, IsTrail, NextLevel, OpenFits}
use Rattle.propagation.specs.inner.Counting.{AreRanked}
use Rattle.propagation.specs.declared.satisfying.Ranks.{Ranks}
use Rattle.propagation.specs.declared.satisfying.Satisfier.{Satisfier}
use Rattle.propagation.proofs.Combining.{combined_before}
use Rattle.propagation.proofs.Places.{before_end, end_is_place, kept, kept_le, levels_rise, next_level, past_end}
use Rattle.propagation.proofs.Places.{shrinks, some_at}
use Rattle.propagation.proofs.Soundness.{same_space}
use Rattle.propagation.proofs.Vertices.{one_place, place_of, states_of, term_some}

-- where all terms of a list hold at vertices but one
holds_where : (set : Members) (ts : List TermView) (u : ℕ) (o : Option Members) → states_at ts u ≡ o
    → ((i : ℕ) → i < length ts → (term_at ts i).vertex ≡ u → HoldsAt set (Some (term_at ts i).states)) → HoldsAt set o
holds_where set ts u None e h = tt
holds_where set ts u (Some x) e h = let p = place_of ts u x e in subst (λ y. HoldsAt set (Some y)) p.3 (h p.0 p.1 p.2)

-- what is read of the satisfier's place
pub record IsRead (t : TrailView) (ts : List TermView) (r : Ranks) (s : Satisfier) : Type 0 where
  pub sound : IsSound t
  pub lies : LiesOn t ts
  pub ranks : AreRanked t ts (length ts) r
  pub place : suc s.place ≡ r.all
  pub vertex : s.vertex ≡ (step_at t.steps s.place).vertex
  pub level : s.level ≡ (step_at t.steps s.place).level
  pub cause : s.cause ≡ (step_at t.steps s.place).forced_by
  pub before : s.before ≡ level_after t.steps r.others

module _ (t : TrailView) (ts : List TermView) (r : Ranks) (s : Satisfier) (d : IsRead t ts r s) where
  abbrev f : Terms
  f = states_at ts

  within : s.place < length t.steps
  within = let w = d.ranks.count.within in let p = d.place in omega (arith, w, p)

  others_le : r.others ≤ s.place
  others_le = let l = d.ranks.less in let p = d.place in omega (arith, l, p)

  vertex_is : (term_at ts d.ranks.last).vertex ≡ s.vertex
  vertex_is = sym (d.vertex ∙ d.ranks.count.on s.place (sym d.place))

  -- the terms at the other vertices
  others_after : (k : ℕ) → r.others ≤ k → k ≤ length t.steps → OthersHold (sets_at t k) f s.vertex
  others_after k low high u ne = holds_where (set_of (sets_at t k) u) ts u (states_at ts u) refl (λ i il at.
      subst (λ w. HoldsAt (set_of (sets_at t k) w) (Some (term_at ts i).states)) at
      (d.ranks.others_hold k low high i il (λ e. ne (sym at ∙ ap (λ j. (term_at ts j).vertex) e ∙ vertex_is))))

  others_before : (k : ℕ) → k < r.others → OthersHold (sets_at t k) f s.vertex → ⊥
  others_before k lt h = d.ranks.others_first k lt (λ i il ne.
      subst (HoldsAt (set_of (sets_at t k) (term_at ts i).vertex)) (states_of ts i d.lies.is.rising il)
      (h (term_at ts i).vertex
      (λ e. ne (one_place ts i d.ranks.last d.lies.is.rising il d.ranks.within (e ∙ sym vertex_is)))))

  all_after : (k : ℕ) → r.all ≤ k → k ≤ length t.steps → Sat (sets_at t k) f
  all_after k low high u = elim (cases_eq u s.vertex) [
    | inl e ↦ subst (λ w. HoldsAt (set_of (sets_at t k) w) (f w)) (vertex_is ∙ sym e)
        (subst (HoldsAt (set_of (sets_at t k) (term_at ts d.ranks.last).vertex))
        (sym (states_of ts d.ranks.last d.lies.is.rising d.ranks.within)) (d.ranks.count.holds k low high))
    | inr ne ↦ (let l = d.ranks.less in others_after k (omega (arith, l, low)) high u ne)
  ]

  all_before : (k : ℕ) → k ≤ s.place → Sat (sets_at t k) f → ⊥
  all_before k le sat = d.ranks.count.first k (let p = d.place in omega (arith, le, p))
      (subst (HoldsAt (set_of (sets_at t k) (term_at ts d.ranks.last).vertex))
      (states_of ts d.ranks.last d.lies.is.rising d.ranks.within) (sat (term_at ts d.ranks.last).vertex))

  -- the level before, as a place
  kept_after : (n : ℕ) → r.others ≡ n → n ≤ kept (level_after t.steps n) t.steps
  kept_after zero e = omega arith
  kept_after (suc q) e = (let o = others_le in let w = within in
      before_end (step_at t.steps q).level 0 t.level q t.steps d.sound.levels (omega (arith, e, o, w)) (omega arith))

  others_kept : r.others ≤ kept s.before t.steps
  others_kept = subst (λ l. r.others ≤ kept l t.steps) (sym d.before) (kept_after r.others refl)

  kept_before : (l n : ℕ) → r.others ≡ n → l < level_after t.steps n → kept l t.steps < n
  kept_before l zero e lt = absurd (omega (arith, lt))
  kept_before l (suc q) e lt = elim (cases_lt (kept l t.steps) (suc q)) [
    | inl less ↦ less
    | inr le ↦ absurd (omega (arith, lt, past_end l q t.steps (omega (arith, le))))
  ]

  others_at : OthersHold (end_sets t s.before) f s.vertex
  others_at = subst (λ (ss : List Members). OthersHold ss f s.vertex) (sym (end_is_place t s.before))
      (others_after (kept s.before t.steps) others_kept (kept_le s.before t.steps))

  others_no : (l : ℕ) → l < s.before → OthersHold (end_sets t l) f s.vertex → ⊥
  others_no l lt h =
      others_before (kept l t.steps) (kept_before l r.others refl (let b = d.before in omega (arith, lt, b)))
      (subst (λ (ss : List Members). OthersHold ss f s.vertex) (end_is_place t l) h)

  pub satisfied_is : IsSatisfied t (states_at ts) s
  satisfied_is = record {
    within = within;
    after = all_after (suc s.place) (let p = d.place in omega (arith, p)) within;
    first = all_before;
    vertex = d.vertex;
    level = d.level;
    cause = d.cause;
    before = (
      r.others,
      others_le,
      record {
        holds = others_after r.others (omega arith)
            (let o = others_le in let w = within in omega (arith, o, w));
        first = others_before;
      },
      d.before,
    );
    others_at = others_at;
    others_no = others_no;
  }

  -- levels
  next : NextLevel (level_after t.steps s.place) s.level s.cause
  next = subst (λ c. NextLevel (level_after t.steps s.place) s.level c) (sym d.cause)
      (subst (λ n. NextLevel (level_after t.steps s.place) n (step_at t.steps s.place).forced_by) (sym d.level)
      (next_level t.level s.place t.steps d.sound.levels within))

  before_low : s.before ≤ level_after t.steps s.place
  before_low = let b = d.before in let w = within in
      omega (arith, b, levels_rise t.level r.others s.place t.steps d.sound.levels others_le (omega (arith, w)))

  not_later_by : (o : Option ℕ) → NextLevel (level_after t.steps s.place) s.level o → s.before ≤ s.level
  not_later_by None n = let b = before_low in omega (arith, b, n)
  not_later_by (Some c) n = let b = before_low in omega (arith, b, n)

  kept_place : s.before < s.level → kept s.before t.steps ≤ s.place
  kept_place lt = elim (cases_lt s.place (kept s.before t.steps)) [
    | inl less ↦ absurd (let l = d.level in omega (arith, lt, l, past_end s.before s.place t.steps less))
    | inr le ↦ le
  ]

  space_some : 0 < space_of t s.vertex
  space_some = subst (λ v. 0 < space_of t v) vertex_is (term_some t ts d.ranks.last d.lies d.ranks.within)

  pub opens_is : OpenFits t (states_at ts) s
  opens_is = record {
    not_later = not_later_by s.cause next;
    held = λ e. subst (λ (ss : List Members). Sat ss f) (sym (end_is_place t s.level)) (all_after (kept s.level t.steps)
        (let p = d.place in let l = d.level in
        omega (arith, p, before_end s.level 0 t.level s.place t.steps d.sound.levels within (omega (arith, l))))
        (kept_le s.level t.steps));
    shrinks = λ lt. subst (λ (ss : List Members). inside (set_of (sets_at t (suc s.place)) s.vertex)
        (set_of ss s.vertex) ≡ true) (sym (end_is_place t s.before))
        (shrinks t d.sound s.vertex (kept s.before t.steps) (suc s.place) (omega (arith, kept_place lt)) within);
    some = subst (λ (ss : List Members). 0 < size (set_of ss s.vertex)) (sym (end_is_place t s.before))
        (some_at t d.sound s.vertex (kept s.before t.steps) (kept_le s.before t.steps) space_some);
    ends = ap (λ ss. length (set_of ss s.vertex)) (end_is_place t s.before)
        ∙ same_space t d.sound (kept s.before t.steps) (kept_le s.before t.steps) s.vertex;
    here = same_space t d.sound s.place (let w = within in omega (arith, w)) s.vertex;
  }

  forced_by_is : (es : List EntryView) → IsTrail es t → (o : Option ℕ) → (step_at t.steps s.place).forced_by ≡ o
      → NextLevel (level_after t.steps s.place) s.level o → ForcedFits es t ts s o
  forced_by_is es trail None e n = let b = before_low in omega (arith, b, n)
  forced_by_is es trail (Some c) e n =
      let forced_by : IsForcedBy es (sets_at t s.place) (sets_at t (suc s.place)) s.vertex c =
      subst (λ v. IsForcedBy es (sets_at t s.place) (sets_at t (suc s.place)) v c) (sym d.vertex)
      (trail.forced s.place c within e) in (
        forced_by,
        λ made comb. combined_before (sets_at t s.place) (sets_at t (suc s.place)) s.vertex f (terms_of es c)
            (states_at made) forced_by.states forced_by.forced
            (all_after (suc s.place) (let p = d.place in omega (arith, p)) within)
            (λ z is. d.lies.lies s.vertex z is
            ∙ sym (same_space t d.sound s.place (let w = within in omega (arith, w)) s.vertex)) comb.each,
      )

  pub forced_is : (es : List EntryView) → IsTrail es t → ForcedFits es t ts s s.cause
  forced_is es trail = forced_by_is es trail s.cause (sym d.cause) next
