-- An assignment that breaks no axiom and that the decisions follow stays in the sets, so there is no conflict.
use Rattle.std.proofs.Common.{◌≡◌, ℕ, zero, suc, ◌<◌, true, List, [], ◌∷◌, length, set, Option, Some, None, refl, sym}
use Rattle.std.proofs.Common.{ap, ◌∙◌, subst, arith, inl, inr}
use Rattle.std.proofs.lemmas.Bool.{cases_eq, cases_lt}
use Rattle.std.proofs.lemmas.List.{get_or_append_left, get_or-set_other, get_or-set_same, length-set}
use Rattle.version_sets.specs.Sets.{Members, has, only, size}
use Rattle.version_sets.proofs.Laws.{size-le}
use Rattle.version_sets.proofs.Within.{inside_has}
use Rattle.incompatibilities.specs.Incompatibilities.{Assignment, Breaks, HoldsOf, Terms, HoldsAt}
use Rattle.incompatibilities.specs.Stores.{EntryView, IsAxiom, entry, terms_of}
use Rattle.incompatibilities.specs.declared.origin.Origin.TheVariants.{Axiom}
use Rattle.propagation.specs.Satisfaction.{Agrees, BreaksNone, Sat}
use Rattle.propagation.specs.Trails.{StepView, TrailView, set_of, space_of}
use Rattle.propagation.specs.Promises.{IsDecided, Propagated, SameSpaces, IsProgress}
use Rattle.propagation.specs.declared.propagating.Progress.{Progress}
use Rattle.propagation.specs.declared.propagating.Progress.TheVariants.{Conflict}
use Rattle.propagation.proofs.Vertices.{in_range}
use Rattle.conflicts.specs.Resolving.{IsGained}
use Rattle.guiding.specs.inner.Searching.{CanDecide, HasSpaces}
use Rattle.guiding.specs.inner.Following.{AreGiven, IsLeft}

holds_broken : (s : Members) (o : Option Members) (i : ℕ) → HoldsAt s o → (0 < size s → has s i ≡ true) → HoldsOf o i
holds_broken s None i h there = tt
holds_broken s (Some x) i h there = inside_has s x i h.1 (there h.0)

-- what is satisfied is broken by each assignment that agrees
pub sat_breaks : (x : Assignment) (sets : List Members) (f : Terms) → Agrees x sets → Sat sets f → Breaks x f
sat_breaks x sets f agrees sat u = holds_broken (set_of sets u) (f u) (x u) (sat u)
    (λ some. agrees u (in_range sets u (omega (arith, some, size-le (set_of sets u)))))

pub no_conflict : (x : Assignment) (es : List EntryView) (t : TrailView) (id : ℕ)
    → IsProgress es t.sets (Conflict id) → IsLeft x es t → ⊥
no_conflict x es t id stops is_left = is_left.0 id stops.0 (sat_breaks x t.sets (terms_of es id) is_left.1 stops.1)

has_only : (s : Members) (i : ℕ) → has s i ≡ true → has (only (length s) i) i ≡ true
has_only [] i h = h
has_only (b ∷ s) zero h = refl
has_only (b ∷ s) (suc i) h = has_only s i h

pub decide_agrees : (x : Assignment) (old mid : TrailView) (v i : ℕ) (step : StepView) → IsDecided v i old mid step
    → CanDecide old v i → x v ≡ i → Agrees x old.sets → Agrees x mid.sets
decide_agrees x old mid v i step d can is agrees u within =
    subst (λ (ss : List Members). has (set_of ss u) (x u) ≡ true) (sym d.sets) (elim (cases_eq u v) [
      | inl e ↦ subst (λ w. has (set_of (set old.sets v (only (space_of old v) i)) w) (x w) ≡ true) (sym e)
          (subst (λ j. has (set_of (set old.sets v (only (space_of old v) i)) v) j ≡ true) (sym is)
          (subst (λ s. has s i ≡ true) (sym (get_or-set_same old.sets v (only (space_of old v) i) [] can.within))
          (has_only (set_of old.sets v) i can.left)))
      | inr ne ↦ subst (λ s. has s (x u) ≡ true) (sym (get_or-set_other old.sets v u (only (space_of old v) i) [] ne))
          (agrees u (omega (arith, within, ap length d.sets, length-set old.sets v (only (space_of old v) i))))
    ])

pub spread_agrees : (x : Assignment) (es : List EntryView) (old new : TrailView) (next : Progress)
    (added : List StepView) → Propagated es old new next added → BreaksNone x es → Agrees x old.sets → IsLeft x es new
spread_agrees x es old new next added p none agrees = (none, p.follows x none agrees)

-- what is learned is no axiom
pub given_more : (given : EntryView → Type 0) (es : List EntryView) (t : TrailView) (more gained : List EntryView)
    → IsGained es t more gained → AreGiven given es → AreGiven given more
given_more given es t more gained g was id within origin = elim (cases_lt id (length es)) [
  | inl lt ↦
      let same : entry more id ≡ entry es id =
      ap (λ (xs : List EntryView). entry xs id) g.grown
      ∙ get_or_append_left es gained (record { terms = []; origin = Axiom 0 }) id lt in
      subst given (sym same) (was id lt (subst (λ (e : EntryView). IsAxiom e.origin) same origin))
  | inr ge ↦ absurd (g.learned id ge within origin)
]

-- universes stay
pub spaces_same : (spaces more : List ℕ) (old new : TrailView) → more ≡ spaces → SameSpaces old new
    → HasSpaces spaces old → HasSpaces more new
spaces_same spaces more old new e same was = subst (λ xs. HasSpaces xs new) (sym e) (record {
  vertices = same.vertices ∙ was.vertices;
  each = λ u. same.spaces u ∙ was.each u;
})
