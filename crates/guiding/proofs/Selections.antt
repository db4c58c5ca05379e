-- Where nothing is left to propagate, an assignment out of what is left breaks no entry in which at most one vertex is
-- undecided.
use Rattle.std.proofs.Common.{◌≡◌, ◌≢◌, ℕ, Bool, true, false, List, length, Option, Some, None}
use Rattle.std.proofs.Common.{refl, sym, subst, arith, inl, inr}
use Rattle.std.proofs.lemmas.Bool.{cases_eq}
use Rattle.version_sets.specs.Sets.{Members, has, inside}
use Rattle.version_sets.proofs.Laws.{has_below}
use Rattle.version_sets.proofs.Within.{meets_at}
use Rattle.incompatibilities.specs.Incompatibilities.{Assignment, Breaks, HoldsOf, LiesIn, Terms, HoldsAt}
use Rattle.propagation.specs.Satisfaction.{Agrees, IsQuiet, OthersHold}
use Rattle.propagation.specs.Trails.{set_of}
use Rattle.propagation.proofs.SetLemmas.{one_inside}
use Rattle.version_sets.proofs.Within.{has_some}
use Rattle.propagation.proofs.Vertices.{in_range}
use Rattle.guiding.specs.inner.Following.{IsDecidedBut}

module _ (x : Assignment) (sets : List Members) (f : Terms) (w : ℕ) (lies : LiesIn (λ u. length (set_of sets u)) f)
    (agrees : Agrees x sets) (quiet : IsQuiet sets f) (decided : IsDecidedBut w x sets f) (breaks : Breaks x f) where
  -- where a term holds, the state is left
  left : (u : ℕ) (s : Members) → f u ≡ Some s → HoldsOf (Some s) (x u) → has (set_of sets u) (x u) ≡ true
  left u s e h = agrees u (in_range sets u (omega (arith, lies u s e, has_below s (x u) h)))

  others_by : (u : ℕ) → u ≢ w → (o : Option Members) → f u ≡ o → HoldsOf o (x u) → HoldsAt (set_of sets u) o
  others_by u ne None e h = tt
  others_by u ne (Some s) e h = (
    has_some (set_of sets u) (x u) (left u s e h),
    one_inside (set_of sets u) s (x u) (decided u ne s e h) (left u s e h) h,
  )

  others : OthersHold sets f w
  others u ne = others_by u ne (f u) refl (breaks u)

  all : HoldsAt (set_of sets w) (f w) → ⊥
  all here = quiet.not_all (λ u. elim (cases_eq u w) [
    | inl e ↦ subst (λ v. HoldsAt (set_of sets v) (f v)) (sym e) here
    | inr ne ↦ others u ne
  ])

  open_by : (s : Members) → f w ≡ Some s → HoldsOf (Some s) (x w) → (b : Bool) → inside (set_of sets w) s ≡ b → ⊥
  open_by s e h true is =
      all (subst (HoldsAt (set_of sets w)) (sym e) (has_some (set_of sets w) (x w) (left w s e h), is))
  open_by s e h false is = quiet.not_one w s
      (record { term = e; common = meets_at (set_of sets w) s (x w) (left w s e h) h; apart = is; others = others })

  here_by : (o : Option Members) → f w ≡ o → HoldsOf o (x w) → ⊥
  here_by None e h = all (subst (HoldsAt (set_of sets w)) (sym e) tt)
  here_by (Some s) e h = open_by s e h (inside (set_of sets w) s) refl

  pub not_broken : ⊥
  not_broken = here_by (f w) refl (breaks w)
