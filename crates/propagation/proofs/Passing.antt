-- What is passed over stays ruled out: the sets at the end of level 0 only shrink.
use Rattle.std.proofs.Common.{◌≡◌, ℕ, ◌<◌, ◌≤◌, List, [], ◌∷◌, length, set, true, Option}
use Rattle.std.proofs.Common.{sym, ap, ◌∙◌, subst, arith, inl, inr}
use Rattle.std.proofs.lemmas.Bool.{cases_eq}
use Rattle.std.proofs.lemmas.List.{get_or-set_same, get_or-set_other, length-set}
use Rattle.version_sets.specs.Sets.{Members, inside}
use Rattle.incompatibilities.specs.Stores.{EntryView}
use Rattle.propagation.specs.Trails.{Above, FrontView, StepView, TrailView, end_sets, front_of, none_seen, past}
use Rattle.propagation.specs.Trails.{set_of, sets_at, undo}
use Rattle.propagation.specs.inner.Parts.{IsPut, IsRenewed, put_step, with_fronts}
use Rattle.propagation.specs.Promises.{AreFronts, IsFront, IsLonger, IsSound, IsTaken, IsTrail, NextLevel, Propagated}
use Rattle.propagation.specs.declared.propagating.Progress.{Progress}
use Rattle.propagation.proofs.Back.{length-put_back, put_back-append, put_longer, sets_now, sets_same}
use Rattle.propagation.proofs.Fronts.{AreInside, front_down}
use Rattle.propagation.proofs.LevelLemmas.{past_append, past_top}
use Rattle.propagation.proofs.Places.{end_is_place, kept, kept_le, kept_more, shrinks}
use Rattle.propagation.proofs.Settling.{put_settled}
use Rattle.propagation.proofs.Soundness.{IsLastForced, put_forced, put_sound, put_space}

-- the sets now, and those of a longer trail, lie inside those at the end of level 0
pub now_inside : (t : TrailView) → IsSound t → AreInside t.sets (end_sets t 0)
now_inside t sound u =
    subst (λ (ss : List Members). inside (set_of ss u) (set_of (end_sets t 0) u) ≡ true) (sets_now t)
    (subst (λ (ss : List Members). inside (set_of (sets_at t (length t.steps)) u) (set_of ss u) ≡ true)
    (sym (end_is_place t 0)) (shrinks t sound u (kept 0 t.steps) (length t.steps) (kept_le 0 t.steps) (omega arith)))

ends_inside : (old new : TrailView) (added : List StepView) → IsLonger old new added → IsSound new
    → AreInside (end_sets new 0) (end_sets old 0)
ends_inside old new added longer sound u =
    let more : kept 0 old.steps ≤ kept 0 new.steps =
    subst (λ (ss : List StepView). kept 0 old.steps ≤ kept 0 ss) (sym longer.steps) (kept_more 0 old.steps added) in
    subst (λ (ss : List Members). inside (set_of ss u) (set_of (end_sets old 0) u) ≡ true) (sym (end_is_place new 0))
    (subst (λ (ss : List Members). inside (set_of (sets_at new (kept 0 new.steps)) u) (set_of ss u) ≡ true)
    (sets_same old new added (kept 0 old.steps) longer (kept_le 0 old.steps) ∙ sym (end_is_place old 0))
    (shrinks new sound u (kept 0 old.steps) (kept 0 new.steps) more (kept_le 0 new.steps)))

-- the same fronts of rows as before
fronts_as : (es : List EntryView) (old new : TrailView) → new.fronts ≡ old.fronts → length new.sets ≡ length old.sets
    → AreInside (end_sets new 0) (end_sets old 0) → AreFronts es old → AreFronts es new
fronts_as es old new same long part p = record {
  long = ap length same ∙ p.long ∙ sym long;
  front = λ v. subst (λ fs. IsFront es (end_sets new 0) v (front_of fs v)) (sym same)
      (front_down es (end_sets old 0) (end_sets new 0) v (front_of old.fronts v) part (p.front v));
}

-- assignments more
fronts_longer : (es : List EntryView) (old new : TrailView) (added : List StepView) → IsLonger old new added
    → IsSound new → AreFronts es old → AreFronts es new
fronts_longer es old new added longer sound p = fronts_as es old new longer.fronts
    (sym (length-put_back (λ s. s.before) added new.sets) ∙ ap length longer.sets)
    (ends_inside old new added longer sound) p

-- assignments less, all of them above some level
above_first : (l : ℕ) (ss : List StepView) → Above l ss → Above 0 ss
above_first l [] a = tt
above_first l (s ∷ ss) a = ((let lt = a.0 in omega (arith, lt)), above_first l ss a.1)

pub fronts_shorter : (es : List EntryView) (new old : TrailView) (gone : List StepView) (l : ℕ)
    → IsLonger new old gone → Above l gone → AreFronts es old → AreFronts es new
fronts_shorter es new old gone l longer above p = record {
  long = ap length (sym longer.fronts) ∙ p.long ∙ sym (length-put_back (λ s. s.before) gone old.sets)
      ∙ ap length longer.sets;
  front = λ v. subst (λ fs. IsFront es (end_sets new 0) v (front_of fs v)) longer.fronts
      (subst (λ (ss : List Members). IsFront es ss v (front_of old.fronts v)) ends (p.front v));
}
  where
    ends : end_sets old 0 ≡ end_sets new 0
    ends = ap (λ ss. undo (past 0 ss) old.sets) longer.steps
        ∙ ap (λ ss. undo ss old.sets) (past_append 0 new.steps gone (above_first l gone above))
        ∙ put_back-append (λ s. s.before) (past 0 new.steps) gone old.sets
        ∙ ap (undo (past 0 new.steps)) longer.sets

-- one assignment is put
pub put_trail : (es : List EntryView) (old new : TrailView) (vertex : ℕ) (states : Members) (forced_by : Option ℕ)
    (level : ℕ) → IsTrail es old → IsPut old new vertex states forced_by level
    → IsTaken old.sets new.sets (put_step old vertex forced_by level) → NextLevel old.level level forced_by
    → IsLastForced es old new (put_step old vertex forced_by level) → IsTrail es new
put_trail es old new vertex states forced_by level trail put taken next here = record {
  sound = sound;
  lies = λ id lt u s e. trail.lies id lt u s e ∙ sym (put_space old new (put_step old vertex forced_by level) taken u);
  forced = put_forced es old new (put_step old vertex forced_by level) longer trail.forced here;
  settled = put_settled es old new vertex states forced_by level put taken trail.settled;
  fronts = fronts_longer es old new (put_step old vertex forced_by level ∷ []) longer sound trail.fronts;
}
  where
    sound : IsSound new
    sound = put_sound old new vertex states forced_by level trail.sound put taken next

    longer : IsLonger old new (put_step old vertex forced_by level ∷ [])
    longer = put_longer old new vertex states forced_by level put

-- other fronts of rows, at level 0
fronts_sound : (t : TrailView) (fs : List FrontView) → IsSound t → IsSound (with_fronts t fs)
fronts_sound t fs s =
    record { starts = s.starts; levels = s.levels; places = s.places; long = s.long; latest = s.latest }

ends_now : (t : TrailView) → IsSound t → t.level ≡ 0 → end_sets t 0 ≡ t.sets
ends_now t sound low = ap (λ ss. undo ss t.sets) (past_top 0 0 t.level t.steps sound.levels (omega (arith, low)))

module _ (es : List EntryView) (t : TrailView) (v : ℕ) (f : FrontView) (trail : IsTrail es t) (low : t.level ≡ 0)
    (within : v < length t.sets) (front : IsFront es t.sets v f) where
  front_at : (u : ℕ) → IsFront es (end_sets t 0) u (front_of (set t.fronts v f) u)
  front_at u = elim (cases_eq u v) [
    | inl e ↦ subst (λ w. IsFront es (end_sets t 0) w (front_of (set t.fronts v f) w)) (sym e)
        (subst (IsFront es (end_sets t 0) v) (sym (get_or-set_same t.fronts v f none_seen room))
        (subst (λ (ss : List Members). IsFront es ss v f) (sym (ends_now t trail.sound low)) front))
    | inr ne ↦ subst (IsFront es (end_sets t 0) u) (sym (get_or-set_other t.fronts v u f none_seen ne))
        (trail.fronts.front u)
  ]
    where
      room : v < length t.fronts
      room = let long = trail.fronts.long in omega (arith, within, long)

  pub renewed_at : IsTrail es (with_fronts t (set t.fronts v f))
  renewed_at = record {
    sound = fronts_sound t (set t.fronts v f) trail.sound;
    lies = trail.lies;
    forced = trail.forced;
    settled = record { below = trail.settled.below; now = trail.settled.now; before = trail.settled.before };
    fronts = record { long = length-set t.fronts v f ∙ trail.fronts.long; front = front_at };
  }

pub propagated_renewed : (es : List EntryView) (old mid new : TrailView) (progress : Progress) (added : List StepView)
    → IsRenewed mid new → Propagated es old mid progress added → Propagated es old new progress added
propagated_renewed es old mid new progress added same p =
    subst (λ (t : TrailView). Propagated es old t progress added) (sym same) (record {
      steps = p.steps;
      level = p.level;
      back = p.back;
      above = p.above;
      none_decided = p.none_decided;
      spent = p.spent;
      top = p.top;
      stops = p.stops;
      assigned = p.assigned;
      follows = p.follows;
    })

-- what is kept of a vertex, by the sets now
pub front_now : (es : List EntryView) (t : TrailView) (v : ℕ) → IsTrail es t
    → IsFront es t.sets v (front_of t.fronts v)
front_now es t v trail = front_down es (end_sets t 0) t.sets v (front_of t.fronts v) (now_inside t trail.sound)
    (trail.fronts.front v)
