-- What a decision takes away.
use Rattle.std.proofs.Common.{◌≡◌, ℕ, suc, ◌<◌, List, [], ◌∷◌, length, true, None, refl, sym, ap, ◌∙◌, subst, arith}
use Rattle.std.proofs.lemmas.List.{get_or-set_same, get_or-set_other}
use Rattle.version_sets.specs.Sets.{Members, has, inside, only, size}
use Rattle.version_sets.proofs.Laws.{length-only}
use Rattle.incompatibilities.specs.Stores.{EntryView}
use Rattle.propagation.specs.Trails.{StepView, TrailView, set_of, space_of, total}
use Rattle.propagation.specs.inner.Parts.{IsPut, put_step}
use Rattle.propagation.specs.Promises.{IsDecided, IsSound, IsTaken, IsTrail, SameSpaces}
use Rattle.propagation.proofs.Back.{put_longer}
use Rattle.propagation.proofs.SetLemmas.{inside_only, size_only, total_set}
use Rattle.propagation.proofs.Passing.{put_trail}
use Rattle.propagation.proofs.Soundness.{longer_spaces, put_sound}

pub record IsDeciding (v state : ℕ) (old new : TrailView) : Type 0 where
  pub sound : IsSound old
  pub within : v < length old.sets
  pub has_it : has (set_of old.sets v) state ≡ true
  pub several : 1 < size (set_of old.sets v)
  pub put : IsPut old new v (only (space_of old v) state) None (suc old.level)

module _ (v state : ℕ) (old new : TrailView) (d : IsDeciding v state old new) where
  abbrev one : Members
  one = only (space_of old v) state

  here : set_of new.sets v ≡ one
  here = ap (λ ss. set_of ss v) d.put.sets ∙ get_or-set_same old.sets v one [] d.within

  alone : size (set_of new.sets v) ≡ 1
  alone = ap size here ∙ size_only (set_of old.sets v) state d.has_it

  taken : IsTaken old.sets new.sets (put_step old v None (suc old.level))
  taken = record {
    within = d.within;
    before = refl;
    there = λ u ne. ap (λ ss. set_of ss u) d.put.sets ∙ get_or-set_other old.sets v u one [] ne;
    shrinks = ap (λ s. inside s (set_of old.sets v)) here ∙ inside_only (set_of old.sets v) state d.has_it;
    fewer = omega (arith, alone, d.several);
    some = omega (arith, alone);
    fits = ap length here ∙ length-only (space_of old v) state;
    alone = λ n. alone;
  }

  pub decided : (step : StepView) × IsDecided v state old new step
  decided = (
    put_step old v None (suc old.level),
    record {
      level = d.put.level_is;
      steps = d.put.steps;
      vertex_is = refl;
      not_forced = refl;
      step_level = refl;
      sets = d.put.sets;
      back = (put_longer old new v one None (suc old.level) d.put).sets;
      spent = subst (λ ss. total ss < total old.sets) (sym d.put.sets)
          (total_set old.sets v one (omega (arith, size_only (set_of old.sets v) state d.has_it, d.several)));
      assigned = d.put.assigned;
    },
  )

  pub decided_sound : IsSound new
  decided_sound = put_sound old new v one None (suc old.level) d.sound d.put taken refl

  pub decided_trail : (es : List EntryView) → IsTrail es old → IsTrail es new
  decided_trail es trail = put_trail es old new v one None (suc old.level) trail d.put taken refl (λ c is. cc)

  pub decided_spaces : SameSpaces old new
  decided_spaces = longer_spaces old new (put_step old v None (suc old.level) ∷ [])
      (put_longer old new v one None (suc old.level) d.put) decided_sound

-- by the pieces that a call gives
pub deciding : (v state universe level : ℕ) (old mid new : TrailView) (states : Members) → mid ≡ old
    → states ≡ only universe state → universe ≡ space_of old v → level ≡ suc old.level
    → IsPut mid new v states None level → IsSound old → v < length old.sets → has (set_of old.sets v) state ≡ true
    → 1 < size (set_of old.sets v) → IsDeciding v state old new
deciding v state universe level old mid new states same is whole next put sound within has_it several = record {
  sound = sound;
  within = within;
  has_it = has_it;
  several = several;
  put = subst (λ (t : TrailView). IsPut t new v (only (space_of old v) state) None (suc old.level)) same
      (subst (λ n. IsPut mid new v (only (space_of old v) state) None n) next
      (subst (λ s. IsPut mid new v s None level) (is ∙ ap (λ n. only n state) whole) put));
}
