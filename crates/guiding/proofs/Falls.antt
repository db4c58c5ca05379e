-- Each turn of a search brings the number down, by what the layers below promise.
use Rattle.std.proofs.Common.{◌≡◌, ℕ, zero, suc, ◌+◌, ◌-◌, ◌<◌, ◌≤◌, Bool, false, List, [], ◌∷◌, ◌++◌, drop}
use Rattle.std.proofs.Common.{length, Some, map, refl, sym, ap, ap₂, ◌∙◌, subst, arith, inl, inr}
use Rattle.std.proofs.lemmas.Bool.{cases_lt, false≢true}
use Rattle.std.proofs.lemmas.List.{get_or_append_left, get_or-append_right, length-append, take-append-drop}
use Rattle.std.proofs.Math.Seq.{drop-append-add, drop-append_seam, get_or-append_seam}
use Rattle.version_sets.specs.Sets.{Members, every, size}
use Rattle.version_sets.proofs.Laws.{size-le}
use Rattle.incompatibilities.specs.Incompatibilities.{LiesIn, states_at, HoldsAt}
use Rattle.incompatibilities.specs.Stores.{EntryView, entry, terms_of}
use Rattle.incompatibilities.specs.declared.origin.Origin.TheVariants.{Axiom}
use Rattle.propagation.specs.Satisfaction.{IsQuiet, Sat}
use Rattle.propagation.specs.Trails.{Above, StepView, TrailView, end_sets, no_step, past, set_of, sets_at, space_of}
use Rattle.propagation.specs.Trails.{step_at}
use Rattle.propagation.specs.Trails.{total, undo}
use Rattle.propagation.specs.Promises.{IsDecided, IsSound, IsTrail, LieIn, Propagated, IsProgress}
use Rattle.propagation.specs.declared.propagating.Progress.{Progress}
use Rattle.propagation.specs.declared.propagating.Progress.TheVariants.{Conflict, Fixpoint}
use Rattle.propagation.proofs.LevelLemmas.{place_low}
use Rattle.propagation.proofs.Places.{cut_sets}
use Rattle.propagation.proofs.SetLemmas.{inside_size, only_inside}
use Rattle.propagation.proofs.Soundness.{trail_grown}
use Rattle.propagation.proofs.Vertices.{in_range}
use Rattle.propagation.proofs.Widened.{ends_long, ends_sum, ends_wider, old_set, quiet_wider, sat_back, short_past}
use Rattle.propagation.proofs.Widened.{start_sum, wider_trail}
use Rattle.conflicts.specs.Resolving.{IsLearned, Quiet}
use Rattle.guiding.specs.inner.Searching.{AllAsked, AreMore, IsCaught, IsFalling, IsOfNew, IsOnly, IsSearching, Pairs}
use Rattle.guiding.specs.inner.Searching.{HasJumped, space, space_in, start_of, sum_at, up_to}
use Rattle.guiding.specs.inner.Turning.{HasFallen, IsAdding}
use Rattle.guiding.proofs.Ends.{above_less, deeper_falls, end_top, ends_same, falling_deeper, falling_lower}
use Rattle.guiding.proofs.Each.{falling_at, spent, start_at, top_at}
use Rattle.guiding.proofs.Ends.{falling_stays, lower_falls, space_stays, start_same}

none_added : (added : List StepView) → length added ≡ 0 → added ≡ []
none_added [] e = refl
none_added (x ∷ xs) e = absurd (omega (arith, e))

some_spent : (n a b : ℕ) → a + n ≤ b → (n ≡ 0 → ⊥) → a < b
some_spent zero a b le not_none = absurd (not_none refl)
some_spent (suc n) a b le not_none = omega (arith, le)

-- a turn, from what it keeps and what it brings down
gone : (asked : Pairs) (left fewer late : ℕ) (old new : TrailView) (es : List EntryView) (next : Progress)
    → IsTrail es new → IsProgress es new.sets next → sets_at new 0 ≡ sets_at old 0
    → IsFalling (start_of late old) late new → Quiet es new new.level → IsCaught asked new
    → space_in (start_of late old) late new + fewer < space late old + left
    → HasFallen (space late old + left) asked fewer late es new next
gone asked left fewer late old new es next trail stops start falling quiet caught falls = record {
  searching = record {
    trail = trail;
    falling = subst (λ s. IsFalling s late new) (ap (λ (ss : List Members). total ss + late) (sym start)) falling;
    quiet = quiet;
    stops = stops;
  };
  caught = caught;
  falls = subst (λ s. space_in s late new + fewer < space late old + left)
      (ap (λ (ss : List Members). total ss + late) (sym start)) falls;
}

quiet_same : (es : List EntryView) (old new : TrailView) → new.level ≤ old.level
    → ((l : ℕ) → l < new.level → end_sets new l ≡ end_sets old l) → Quiet es old old.level → Quiet es new new.level
quiet_same es old new level same quiet l lt id within sat = quiet l (omega (arith, lt, level)) id within
    (subst (λ (ss : List Members). Sat ss (terms_of es id)) (same l lt) sat)

caught_same : (asked more : Pairs) (old new : TrailView) → new.level ≤ old.level
    → ((l : ℕ) → l < new.level → end_sets new l ≡ end_sets old l) → AreMore asked more
    → IsCaught asked old → IsCaught more new
caught_same asked more old new level same grows caught l lt v i within only =
    grows v i (subst (AllAsked asked) (sym (same l lt)) (caught l (omega (arith, lt, level))) v i within only)

least_level : (n m : ℕ) → ((l : ℕ) → l < n → l < m) → n ≤ m
least_level zero m each = omega arith
least_level (suc n) m each = let last = each n (omega arith) in omega (arith, last)

-- ---- after a conflict
module _ (asked : Pairs) (left late : ℕ) (es : List EntryView) (old mid new : TrailView) (id back_to : ℕ)
    (l : IsLearned old es mid id back_to) (quiet : Quiet es old old.level) (next : Progress) (added : List StepView)
    (p : Propagated es mid new next added) where
  here : new.level ≡ back_to
  here = p.level ∙ l.cut.level_is

  ends : end_sets old back_to ≡ mid.sets
  ends = cut_sets back_to old mid l.gone l.cut

  -- something was added, since the learned entry has an open term and no entry was satisfied there
  adds : (q : Progress) → IsProgress es new.sets q → length added ≡ 0 → ⊥
  adds Fixpoint stops none = (stops id l.within).not_one l.vertex l.states (let same : new.sets ≡ mid.sets =
      subst (λ ss. undo ss new.sets ≡ mid.sets) (none_added added none) p.back in rw same l.one)
  adds (Conflict c) stops none = quiet back_to l.lower c stops.0
      (let same : new.sets ≡ mid.sets = subst (λ ss. undo ss new.sets ≡ mid.sets) (none_added added none) p.back in
      subst (λ (ss : List Members). Sat ss (terms_of es c)) (same ∙ sym ends) stops.1)

  level : new.level ≤ old.level
  level = let low = l.lower in omega (arith, here, low)

  same : (k : ℕ) → k < new.level → end_sets new k ≡ end_sets old k
  same k lt = ends_same k new mid added p.steps p.back (p.above k (let e = p.level in omega (arith, e, lt)))
      ∙ sym (ends_same k old mid l.gone l.cut.steps (sym l.cut.sets)
      (above_less k back_to l.gone (omega (arith, here, lt)) l.cut.above))

  less : sum_at late new new.level < sum_at late old new.level
  less =
      let fewer = some_spent (length added) (total new.sets) (total mid.sets) p.spent (adds next p.stops) in
      subst (λ (ss : List Members). total ss + late < sum_at late old new.level) (sym (end_top new p.top))
      (subst (λ (ss : List Members). total new.sets + late < total ss + late)
      (sym (ap (end_sets old) here ∙ ends)) (omega (arith, fewer)))

  pub turn_jump : IsFalling (start_of late old) late old → IsCaught asked old → IsTrail es new
      → HasFallen (space late old + left) asked left late es new next
  turn_jump fall caught trail =
      let falls = falling_lower (start_of late old) late old new fall level
      (λ k lt. ap (λ (ss : List Members). total ss + late) (same k lt)) less p.top in
      let fell = lower_falls (start_of late old) late old new falls level
      (λ k lt. ap (λ (ss : List Members). total ss + late) (same k lt)) less in
      gone asked left left late old new es next trail p.stops
      (start_same new mid added p.steps p.back ∙ sym (start_same old mid l.gone l.cut.steps (sym l.cut.sets))) falls
      (quiet_same es old new level same quiet)
      (caught_same asked asked old new level same (λ v i h. h) caught) (omega (arith, fell))

  -- the first assignment that is added brings the number down
  first_falls : (ss : List StepView) → added ≡ ss → IsSound new → HasJumped late old mid new
  first_falls [] e sound = absurd (adds next p.stops (ap length e))
  first_falls (a ∷ more) e sound =
      let k : ℕ = length mid.steps in
      let steps : new.steps ≡ mid.steps ++ a ∷ more = p.steps ∙ ap (λ (ss : List StepView). mid.steps ++ ss) e in
      let lt : k < length new.steps = omega (arith, ap length steps, length-append mid.steps (a ∷ more)) in
      let one : TrailView = up_to new (suc k) in
      let at : step_at new.steps k ≡ a =
      ap (λ (ss : List StepView). step_at ss k) steps ∙ get_or-append_seam mid.steps a more no_step in
      let on : suc k ≡ k + 1 = omega arith in
      let rest : drop (suc k) new.steps ≡ more =
      ap₂ (λ n (ss : List StepView). drop n ss) on steps ∙ drop-append-add mid.steps (a ∷ more) 1 in
      let above : (n : ℕ) → n < new.level → Above n (a ∷ more) =
      λ n low. subst (Above n) e (p.above n (let is = p.level in omega (arith, is, low))) in
      let level_is : one.level ≡ new.level =
      (let least = least_level new.level a.level (λ n low. (above n low).0) in
      let most_is = place_low 0 new.level k new.steps sound.levels lt in
      omega (arith, least, most_is, ap (λ (s : StepView). s.level) at)) in
      let same_one : (n : ℕ) → n < one.level → end_sets one n ≡ end_sets old n =
      λ n low. (let lower : n < new.level = omega (arith, low, level_is) in
      sym (ends_same n new one (drop (suc k) new.steps) (sym (take-append-drop (suc k) new.steps)) refl
      (subst (Above n) (sym rest) (above n lower).1)) ∙ same n lower) in
      let back : sets_at new k ≡ mid.sets = ap (λ (ss : List StepView). undo ss new.sets)
      (ap (drop k) p.steps ∙ drop-append_seam mid.steps added) ∙ p.back in
      let fewer : total one.sets < total mid.sets =
      subst (λ (ss : List Members). total one.sets < total ss) back (spent late new sound k lt) in
      let less_one : sum_at late one one.level < sum_at late old one.level =
      subst (λ (ss : List Members). total ss + late < sum_at late old one.level)
      (sym (end_top one (top_at new (suc k) sound lt)))
      (subst (λ (ss : List Members). total one.sets + late < total ss + late)
      (sym (ap (end_sets old) (level_is ∙ here) ∙ ends)) (omega (arith, fewer))) in
      let fell = lower_falls (start_of late new) late old one (falling_at late new sound (suc k) lt)
      (omega (arith, level, level_is)) (λ n low. ap (λ (ss : List Members). total ss + late) (same_one n low))
      less_one in (
        lt,
        subst (λ n. space_in n late one < space late old)
            (ap (λ (ss : List Members). total ss + late) (sym (start_at late new sound (suc k) lt)))
            (subst (λ n. space_in (start_of late new) late one < space_in n late old)
            (ap (λ (ss : List Members). total ss + late) (start_same new mid added p.steps p.back
            ∙ sym (start_same old mid l.gone l.cut.steps (sym l.cut.sets)))) fell),
      )

  pub jump_falls : IsSound new → HasJumped late old mid new
  jump_falls sound = first_falls added refl sound

-- what the guide was told of a conflict leaves the turn as it is
pub turn_noted : (before left fewer late later : ℕ) (asked more : Pairs) (es : List EntryView) (new : TrailView)
    (next : Progress) → AreMore asked more → fewer ≡ left → later ≡ late → HasFallen before asked left late es new next
    → HasFallen before more fewer later es new next
turn_noted before left fewer late later asked more es new next grows few same gone = rw (few, same) (record {
  searching = gone.searching;
  caught = λ l lt v i within only. grows v i (gone.caught l lt v i within only);
  falls = gone.falls;
})

-- A DECISION
pub turn_decide : (asked : Pairs) (left fewer late : ℕ) (es : List EntryView) (old mid new : TrailView)
    (vertex state : ℕ) (step : StepView) (next : Progress) (added : List StepView)
    → IsSearching late es old Fixpoint → IsCaught asked old → AllAsked asked old.sets → fewer ≤ left
    → IsDecided vertex state old mid step → Propagated es mid new next added → IsTrail es new
    → HasFallen (space late old + left) asked fewer late es new next
turn_decide asked left fewer late es old mid new vertex state step next added was caught all few d p trail =
    let here : new.level ≡ suc old.level = p.level ∙ d.level in
    let same : (l : ℕ) → l < new.level → end_sets new l ≡ end_sets old l =
    λ l lt. ends_same l new mid added p.steps p.back (p.above l (let e = p.level in omega (arith, e, lt)))
    ∙ ends_same l mid old (step ∷ []) d.steps d.back (let e = d.step_level in omega (arith, lt, here, e), tt) in
    let sums : (l : ℕ) → l < new.level → sum_at late new l ≡ sum_at late old l =
    λ l lt. ap (λ (ss : List Members). total ss + late) (same l lt) in
    let p_spent = p.spent in
    let d_spent = d.spent in
    let spent : total new.sets + late < total old.sets + late = omega (arith, p_spent, d_spent) in
    let less : sum_at late new new.level < sum_at late old old.level =
    subst (λ (ss : List Members). total ss + late < sum_at late old old.level) (sym (end_top new p.top))
    (subst (λ (ss : List Members). total new.sets + late < total ss + late)
    (sym (end_top old was.falling.top)) spent) in
    let falls = falling_deeper (start_of late old) late old new was.falling here sums less p.top in
    let fell = deeper_falls (start_of late old) late old new falls here sums in
    gone asked left fewer late old new es next trail p.stops
    (start_same new mid added p.steps p.back ∙ start_same mid old (step ∷ []) d.steps d.back) falls
    (λ l lt i within sat. elim (cases_lt l old.level) [
      | inl low ↦ was.quiet l low i within (subst (λ (ss : List Members). Sat ss (terms_of es i)) (same l lt) sat)
      | inr ge ↦
          let e : l ≡ old.level = omega (arith, ge, lt, here) in
          (was.stops i within).not_all (subst (λ (ss : List Members). Sat ss (terms_of es i))
          (same l lt ∙ ap (end_sets old) e ∙ end_top old was.falling.top) sat)
    ])
    (λ l lt. elim (cases_lt l old.level) [
      | inl low ↦ subst (AllAsked asked) (sym (same l lt)) (caught l low)
      | inr ge ↦
          let e : l ≡ old.level = omega (arith, ge, lt, here) in
          subst (AllAsked asked) (sym (same l lt ∙ ap (end_sets old) e ∙ end_top old was.falling.top)) all
    ])
    (omega (arith, fell, few))

-- ---- vertices and axioms come
module _ (asked more : Pairs) (left fewer late later : ℕ) (old wide : TrailView) (old_es es : List EntryView)
    (went : Bool) (trail : IsTrail old_es old) (caught : IsCaught asked old)
    (a : IsAdding asked more left fewer late later old wide old_es es went) where
  wide_ends : (l : ℕ) → end_sets wide l ≡ end_sets old l ++ map every a.spaces
  wide_ends = ends_wider a.spaces old wide trail.sound a.wider

  long : (l : ℕ) → length (end_sets old l) ≡ length old.sets
  long = ends_long a.spaces old wide trail.sound a.wider

  pub wide_trail : IsTrail old_es wide → IsTrail es wide
  wide_trail t = subst (λ (xs : List EntryView). IsTrail xs wide) (sym a.grown)
      (trail_grown old_es a.gained wide t (subst (LieIn wide) a.grown a.lies))

  earlier : (id : ℕ) → id < length old_es → entry es id ≡ entry old_es id
  earlier id lt = ap (λ (xs : List EntryView). entry xs id) a.grown
      ∙ get_or_append_left old_es a.gained (record { terms = []; origin = Axiom 0 }) id lt

  old_lies : LieIn wide old_es
  old_lies id lt = subst (λ (e : EntryView). LiesIn (space_of wide) (states_at e.terms)) (earlier id lt)
      (a.lies id (omega (arith, lt, ap length a.grown, length-append old_es a.gained)))

  pub old_trail : IsTrail old_es wide
  old_trail = wider_trail a.spaces old wide old_es a.wider old_lies trail

  pub adding_trail : IsTrail es wide
  adding_trail = wide_trail old_trail

  -- the sums stay
  sums : (l : ℕ) → sum_at later wide l ≡ sum_at late old l
  sums l = let e = ends_sum a.spaces old wide trail.sound a.wider l in let c = a.came in omega (arith, e, c)

  starts : start_of later wide ≡ start_of late old
  starts = let e = start_sum a.spaces old wide trail.sound a.wider in let c = a.came in omega (arith, e, c)

  pub wide_space : space later wide ≡ space late old
  wide_space =
      ap (λ n. space_in n later wide) starts ∙ space_stays (start_of late old) late later old wide a.wider.level_is sums

  pub wide_falling : IsFalling (start_of late old) late old → IsFalling (start_of later wide) later wide
  wide_falling fall = subst (λ n. IsFalling n later wide) (sym starts) (falling_stays (start_of late old) late later old
      wide fall a.wider.level_is sums (ap₂ past a.wider.level_is a.wider.steps ∙ fall.top))

  -- a vertex that comes stands alone only if it has one state
  set_old : (l v : ℕ) → v < length old.sets → set_of (end_sets wide l) v ≡ set_of (end_sets old l) v
  set_old l v lt =
      ap (λ xs. set_of xs v) (wide_ends l) ∙ old_set (end_sets old l) (map every a.spaces) v (omega (arith, lt, long l))

  set_new : (l v : ℕ) → length old.sets ≤ v → set_of (end_sets wide l) v ≡ set_of wide.sets v
  set_new l v ge =
      ap (λ xs. set_of xs v) (wide_ends l)
      ∙ get_or-append_right (end_sets old l) (map every a.spaces) (length old.sets) v [] (long l) ge
      ∙ sym (ap (λ xs. set_of xs v) a.wider.sets
      ∙ get_or-append_right old.sets (map every a.spaces) (length old.sets) v [] refl ge)

  wide_long : (l : ℕ) → length (end_sets wide l) ≡ length wide.sets
  wide_long l = omega (
    arith,
    ap length (wide_ends l),
    length-append (end_sets old l) (map every a.spaces),
    long l,
    ap length a.wider.sets,
    length-append old.sets (map every a.spaces),
  )

  pub wide_caught : IsCaught more wide
  wide_caught l lt v i within only = elim (cases_lt v (length old.sets)) [
    | inl low ↦ a.grows v i (caught l (let e = a.wider.level_is in omega (arith, e, lt)) v i
        (omega (arith, low, long l)) (subst (λ s. IsOnly s i) (set_old l v low) only))
    | inr ge ↦ a.lone v i ge (omega (arith, within, wide_long l)) (subst (λ s. IsOnly s i) (set_new l v ge) only)
  ]

  -- what was quiet is quiet on the wider sets
  pub wide_quiet_at : (id : ℕ) → id < length old_es → IsQuiet old.sets (terms_of old_es id)
      → IsQuiet wide.sets (terms_of old_es id)
  wide_quiet_at id lt quiet = subst (λ ss. IsQuiet ss (terms_of old_es id)) (sym a.wider.sets)
      (quiet_wider old.sets (map every a.spaces) (terms_of old_es id)
      (short_past old (terms_of old_es id) (trail.lies id lt)) quiet)

  old_quiet : Quiet old_es old old.level → (l : ℕ) → l < wide.level → (id : ℕ) → id < length old_es
      → Sat (end_sets wide l) (terms_of old_es id) → ⊥
  old_quiet quiet l lt id within sat = quiet l (let e = a.wider.level_is in omega (arith, e, lt)) id within
      (sat_back (end_sets old l) (map every a.spaces) (terms_of old_es id)
      (λ u x ge e. short_past old (terms_of old_es id) (trail.lies id within) u x (omega (arith, ge, long l)) e)
      (subst (λ (ss : List Members). Sat ss (terms_of old_es id)) (wide_ends l) sat))

  -- at no earlier level's end the vertex of a new pair stood alone in its state, so the axiom wasn't satisfied there
  late_quiet : (e : EntryView) → IsOfNew (length old.sets) asked e → (l : ℕ) → l < old.level
      → Sat (end_sets wide l) (states_at e.terms) → ⊥
  late_quiet e new l lt sat =
      let set = set_of (end_sets old l) new.vertex in
      let h : HoldsAt set (Some new.states) =
      subst (λ (s : Members). HoldsAt s (Some new.states)) (set_old l new.vertex new.below)
      (subst (HoldsAt (set_of (end_sets wide l) new.vertex)) new.term (sat new.vertex)) in
      let one = new.only.0 in
      let some = h.0 in
      let size_is : size set ≡ 1 = omega (arith, one, some, inside_size set new.states h.1) in
      false≢true (sym new.is_new
      ∙ caught l lt new.vertex new.state (in_range (end_sets old l) new.vertex (omega (arith, some, size-le set)))
      (size_is, only_inside set new.states new.state h.1 one new.only.1 some))

  pub wide_quiet : Quiet old_es old old.level → Quiet es wide wide.level
  wide_quiet quiet l lt id within sat = elim (cases_lt id (length old_es)) [
    | inl low ↦ old_quiet quiet l lt id low
        (subst (λ (e : EntryView). Sat (end_sets wide l) (states_at e.terms)) (earlier id low) sat)
    | inr ge ↦ late_quiet (entry a.gained (id - length old_es))
        (a.of_new (id - length old_es) (omega (arith, within, ge, ap length a.grown, length-append old_es a.gained))) l
        (let e = a.wider.level_is in omega (arith, e, lt))
        (subst (λ (e : EntryView). Sat (end_sets wide l) (states_at e.terms))
        (ap (λ (xs : List EntryView). entry xs id) a.grown ∙ get_or-append_right old_es a.gained
        (length old_es) id (record { terms = []; origin = Axiom 0 }) refl ge) sat)
  ]

  -- nothing was added but vertices
  pub wide_searching : went ≡ false → IsSearching late old_es old Fixpoint → IsSearching later es wide Fixpoint
  wide_searching none was = record {
    trail = adding_trail;
    falling = wide_falling was.falling;
    quiet = wide_quiet was.quiet;
    stops = (let same : es ≡ old_es = (a.stays none).0 in subst (λ (xs : List EntryView).
        IsProgress xs wide.sets Fixpoint) (sym same) (λ id lt. wide_quiet_at id lt (was.stops id lt)));
  }

added_space : (s late : ℕ) (old new : TrailView) (es : List EntryView) (next : Progress) (added : List StepView)
    → IsFalling s late old → Propagated es old new next added
    → IsFalling s late new × (space_in s late new ≤ space_in s late old)
added_space s late old new es next [] fall p =
    let same : (l : ℕ) → end_sets new l ≡ end_sets old l = λ l. ends_same l new old [] p.steps p.back tt in
    let sums : (l : ℕ) → sum_at late new l ≡ sum_at late old l =
    λ l. ap (λ (ss : List Members). total ss + late) (same l) in
    let equal = space_stays s late late old new p.level sums in (
      falling_stays s late late old new fall p.level sums p.top,
      omega (arith, equal),
    )
added_space s late old new es next (a ∷ more) fall p =
    let added = a ∷ more in
    let same : (l : ℕ) → l < new.level → end_sets new l ≡ end_sets old l =
    λ l lt. ends_same l new old added p.steps p.back (p.above l (let e = p.level in omega (arith, e, lt))) in
    let sums : (l : ℕ) → l < new.level → sum_at late new l ≡ sum_at late old l =
    λ l lt. ap (λ (ss : List Members). total ss + late) (same l lt) in
    let p_spent = p.spent in
    let spent : total new.sets + late < total old.sets + late = omega (arith, p_spent) in
    let less : sum_at late new new.level < sum_at late old new.level =
    subst (λ (ss : List Members). total ss + late < sum_at late old new.level) (sym (end_top new p.top))
    (subst (λ (ss : List Members). total new.sets + late < total ss + late)
    (sym (ap (end_sets old) p.level ∙ end_top old fall.top)) spent) in
    let level : new.level ≤ old.level = let e = p.level in omega (arith, e) in
    let falls = falling_lower s late old new fall level sums less p.top in
    (falls, let fell = lower_falls s late old new falls level sums less in omega (arith, fell))

pub turn_axioms : (asked : Pairs) (left fewer late : ℕ) (es : List EntryView) (old new : TrailView)
    (next : Progress) (added : List StepView)
    → IsFalling (start_of late old) late old → Quiet es old old.level → IsCaught asked old → fewer < left
    → Propagated es old new next added → IsTrail es new → HasFallen (space late old + left) asked fewer late es new next
turn_axioms asked left fewer late es old new next added fall quiet caught less p trail =
    let same : (l : ℕ) → l < new.level → end_sets new l ≡ end_sets old l =
    λ l lt. ends_same l new old added p.steps p.back (p.above l (let e = p.level in omega (arith, e, lt))) in
    let level : new.level ≤ old.level = let e = p.level in omega (arith, e) in
    let fell = added_space (start_of late old) late old new es next added fall p in
    let not_more = fell.1 in
    gone asked left fewer late old new es next trail p.stops (start_same new old added p.steps p.back) fell.0
    (quiet_same es old new level same quiet) (caught_same asked asked old new level same (λ v i h. h) caught)
    (omega (arith, not_more, less))
