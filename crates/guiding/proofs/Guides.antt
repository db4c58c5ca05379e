-- What a guide has to show, where nothing comes and where vertices come, and that a set without a number is empty.
use Rattle.std.proofs.Common.{◌≡◌, ℕ, zero, suc, ◌+◌, ◌-◌, ◌<◌, ◌≤◌, true, false, List, [], ◌∷◌, ◌++◌, length, map}
use Rattle.std.proofs.Common.{get_or, refl, sym, ap, ap₂, ◌∙◌, subst, arith, inl, inr}
use Rattle.std.proofs.lemmas.Bool.{cases_lt, false≢true}
use Rattle.std.proofs.lemmas.List.{append-nil, get_or_append_left, get_or-append_right, length-append, length-map}
use Rattle.std.proofs.lemmas.List.{length-replicate}
use Rattle.version_sets.specs.Sets.{Members, every, has, size}
use Rattle.incompatibilities.specs.Stores.{EntryView}
use Rattle.propagation.specs.Trails.{TrailView, set_of, space_of}
use Rattle.propagation.specs.Promises.{LieIn}
use Rattle.propagation.specs.inner.Widening.{IsWider}
use Rattle.propagation.proofs.SetLemmas.{size_every}
use Rattle.propagation.proofs.Widened.{wider_none}
use Rattle.guiding.specs.inner.Searching.{AllAsked, HasSpaces, IsOnly, Pairs}
use Rattle.guiding.specs.inner.Turning.{IsAdding}

pub none_size : (s : Members) → ((i : ℕ) → i < length s → has s i ≡ false) → size s ≡ 0
none_size [] all = refl
none_size (true ∷ s) all = absurd (false≢true (sym (all 0 (omega arith))))
none_size (false ∷ s) all = none_size s (λ i lt. all (suc i) (omega (arith, lt)))

-- no vertex and no axiom
pub adding_nothing : (asked : Pairs) (left late : ℕ) (t : TrailView) (es : List EntryView) → LieIn t es
    → AllAsked asked t.sets → IsAdding asked asked left left late late t t es es false
adding_nothing asked left late t es lies all = record {
  spaces = [];
  wider = wider_none t;
  came = omega arith;
  lone = λ v i ge lt only. absurd (omega (arith, ge, lt));
  gained = [];
  grown = sym (append-nil es);
  of_new = λ i lt. absurd (omega (arith, lt));
  lies = lies;
  grows = λ v i h. h;
  goes = λ e. absurd (false≢true e);
  stays = λ e. (refl, omega arith, all);
}

set_each : (more : List ℕ) (i : ℕ) → set_of (map every more) i ≡ every (get_or more i 0)
set_each [] zero = refl
set_each [] (suc i) = refl
set_each (n ∷ more) zero = refl
set_each (n ∷ more) (suc i) = set_each more i

module _ (spaces more : List ℕ) (t wide : TrailView) (has : HasSpaces spaces t) (wider : IsWider more t wide) where
  set_new : (u : ℕ) → length t.sets ≤ u → set_of wide.sets u ≡ every (get_or (spaces ++ more) u 0)
  set_new u ge =
      ap (λ ss. set_of ss u) wider.sets ∙ get_or-append_right t.sets (map every more) (length t.sets) u [] refl ge
      ∙ set_each more (u - length t.sets)
      ∙ ap every (sym (get_or-append_right spaces more (length t.sets) u 0 (sym has.vertices) ge))

  each_by : (u : ℕ) → space_of wide u ≡ get_or (spaces ++ more) u 0
  each_by u = elim (cases_lt u (length t.sets)) [
    | inl lt ↦
        ap length (ap (λ ss. set_of ss u) wider.sets ∙ get_or_append_left t.sets (map every more) [] u lt) ∙ has.each u
        ∙ sym (get_or_append_left spaces more 0 u (subst (λ n. u < n) has.vertices lt))
    | inr ge ↦ ap length (set_new u ge) ∙ length-replicate (get_or (spaces ++ more) u 0) true
  ]

  pub spaces_wider : HasSpaces (spaces ++ more) wide
  spaces_wider = record {
    vertices = ap length wider.sets ∙ length-append t.sets (map every more)
        ∙ ap₂ (λ m n. m + n) has.vertices (length-map more every) ∙ sym (length-append spaces more);
    each = each_by;
  }

  -- a vertex that comes stands alone only where it has one state
  pub lone_one : (v i : ℕ) → length t.sets ≤ v → IsOnly (set_of wide.sets v) i → get_or (spaces ++ more) v 0 ≡ 1
  lone_one v i ge only = sym (size_every (get_or (spaces ++ more) v 0)) ∙ ap size (sym (set_new v ge)) ∙ only.0
