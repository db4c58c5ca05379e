-- The places of a row that are left, those that are kept and those that came since; and which of them are kept then.
use Rattle.std.proofs.Common.{◌≡◌, ◌≢◌, ℕ, ◌+◌, ◌-◌, ◌<◌, ◌≤◌, List, [], ◌∷◌, ◌++◌, length, get_or, All, Contains}
use Rattle.std.proofs.Common.{refl, sym, ◌∙◌, subst, arith, inl, inr}
use Rattle.std.proofs.lemmas.Bool.{cases_eq, cases_lt}
use Rattle.std.proofs.lemmas.List.{get_or_default, get_or_past, length-append}
use Rattle.std.proofs.lemmas.List.Elements.{All-append, Contains-append_left, Contains-append_right}
use Rattle.version_sets.specs.Sets.{Members}
use Rattle.incompatibilities.specs.Stores.{EntryView, ids_at, terms_of}
use Rattle.propagation.specs.Trails.{FrontView}
use Rattle.propagation.specs.Satisfaction.{RuledOut}
use Rattle.propagation.specs.Promises.{IsFront}
use Rattle.propagation.specs.inner.Units.{NotLeft, entries_left, place_left}

-- a place that came after those that were looked through
came_at : (f : FrontView) (j : ℕ) → f.seen ≤ j → place_left f (length f.alive + (j - f.seen)) ≡ j
came_at f j ge =
    get_or_past f.alive turn (f.seen + (turn - length f.alive)) (omega arith) ∙ omega (arith, ge)
  where
    turn : ℕ
    turn = length f.alive + (j - f.seen)

one_of : (x : ℕ) → Contains (x ∷ []) x
one_of x = (0, omega arith, refl)

all_one : (P : ℕ → Type 0) (x : ℕ) → P x → All P (x ∷ [])
all_one P x p k d lt = let same : 0 ≡ k = omega (arith, lt) in subst (λ i. P (get_or (x ∷ []) i d)) same p

-- with one turn more, a place that was none of those that are left
pub not_left : (f : FrontView) (entries turn j : ℕ) → place_left f turn ≢ j → NotLeft f entries (turn + 1) j
    → NotLeft f entries turn j
not_left f entries turn j here later i le lt = elim (cases_eq i turn) [
  | inl e ↦ subst (λ k. place_left f k ≢ j) (sym e) here
  | inr ne ↦ later i (elim (cases_lt turn i) [
    | inl less ↦ omega (arith, less)
    | inr ge ↦ absurd (ne (omega (arith, le, ge)))
  ]) lt
]

module _ (es : List EntryView) (sets : List Members) (v : ℕ) (f : FrontView) where
  abbrev entries : ℕ
  entries = length (ids_at v es)

  abbrev IsOut : ℕ → Type 0
  IsOut j = RuledOut sets (terms_of es (get_or (ids_at v es) j 0))

  pub left_few : IsFront es sets v f → entries_left f entries ≤ entries
  left_few front = let few = front.few in let short = front.short in omega (arith, few, short)

  pub left_within : IsFront es sets v f → (turn : ℕ) → turn < entries_left f entries → place_left f turn < entries
  left_within front turn lt = elim (cases_lt turn (length f.alive)) [
    | inl kept ↦
        let few = front.few in
        let below = front.below turn (f.seen + (turn - length f.alive)) kept in
        omega (arith, few, below)
    | inr ge ↦
        let few = front.few in
        let is = get_or_past f.alive turn (f.seen + (turn - length f.alive)) ge in
        omega (arith, lt, few, is, ge)
  ]

  -- what isn't left is ruled out
  pub out_left : IsFront es sets v f → (j : ℕ) → j < entries → NotLeft f entries 0 j → IsOut j
  out_left front j lt none = elim (cases_lt j f.seen) [
    | inl low ↦ front.out j low (λ h.
        let kept = h.1 in
        none h.0 (omega arith) (omega (arith, kept))
        (get_or_default f.alive h.0 (f.seen + (h.0 - length f.alive)) j kept ∙ h.2))
    | inr ge ↦ absurd (none (length f.alive + (j - f.seen)) (omega arith) (omega (arith, lt, ge)) (came_at f j ge))
  ]

  -- those that aren't ruled out, so far
  pub record IsSifted (turn : ℕ) (found : List ℕ) : Type 0 where
    pub few : length found ≤ turn
    pub below : All (λ r. r < entries) found
    pub out : (j : ℕ) → j < entries → ¬ Contains found j → NotLeft f entries turn j → IsOut j

  pub sifted_none : IsFront es sets v f → IsSifted 0 []
  sifted_none front = record {
    few = omega arith;
    below = λ k d lt. absurd (omega (arith, lt));
    out = λ j lt none left. out_left front j lt left;
  }

  pub sifted_kept : IsFront es sets v f → (turn : ℕ) (found : List ℕ) → turn < entries_left f entries
      → IsSifted turn found → IsSifted (turn + 1) (found ++ place_left f turn ∷ [])
  sifted_kept front turn found lt s = record {
    few = let few = s.few in omega (arith, few, length-append found (place_left f turn ∷ []));
    below = All-append (λ r. r < entries) found (place_left f turn ∷ []) s.below
        (all_one (λ r. r < entries) (place_left f turn) (left_within front turn lt));
    out = λ j jl none left. s.out j jl (λ h. none (Contains-append_left found (place_left f turn ∷ []) j h))
        (not_left f entries turn j (λ e. none (subst (Contains (found ++ place_left f turn ∷ [])) e
        (Contains-append_right found (place_left f turn ∷ []) (place_left f turn) (one_of (place_left f turn))))) left);
  }

  pub sifted_out : (turn : ℕ) (found : List ℕ) → IsOut (place_left f turn) → IsSifted turn found
      → IsSifted (turn + 1) found
  sifted_out turn found out s = record {
    few = let few = s.few in omega (arith, few);
    below = s.below;
    out = λ j lt none left. elim (cases_eq (place_left f turn) j) [
      | inl e ↦ subst IsOut e out
      | inr ne ↦ s.out j lt none (not_left f entries turn j ne left)
    ];
  }

  pub sifted : IsFront es sets v f → (turn : ℕ) (found : List ℕ) → turn ≤ entries_left f entries
      → entries_left f entries ≤ turn → IsSifted turn found
      → IsFront es sets v (record { seen = entries; alive = found })
  sifted front turn found le ge s = record {
    few = omega arith;
    short = let few = s.few in let most = left_few front in omega (arith, few, most, le);
    below = s.below;
    out = λ j lt none. s.out j lt none (λ i late early. absurd (omega (arith, late, early, ge)));
  }

-- a turn before the last, and its place
module _ (es : List EntryView) (sets : List Members) (v : ℕ) (f : FrontView) (on : List ℕ) (turn end place : ℕ)
    (front : IsFront es sets v f) (is : on ≡ ids_at v es) (early : turn < end) (all : end ≡ entries_left f (length on))
    (here : place ≡ place_left f turn) where
  pub turn_left : turn < entries_left f (length (ids_at v es))
  turn_left = subst (λ ids. turn < entries_left f (length ids)) is (subst (λ n. turn < n) all early)

  pub place_in : place < length on
  place_in = subst (λ ids. place < length ids) (sym is) (subst (λ p. p < length (ids_at v es)) (sym here)
      (left_within es sets v f front turn turn_left))
