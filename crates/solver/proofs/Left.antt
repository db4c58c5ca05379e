-- What isn't absent at the end has the state that it has in a content whose states are left.
use Rattle.std.proofs.Common.{◌≡◌, ◌≤◌, ℕ, List, length, Bool, true, false, Option, Some, None, slice_get, refl, sym}
use Rattle.std.proofs.Common.{ap, ◌∙◌, subst, arith}
use Rattle.std.specs.Prelude.{unwrap_or}
use Rattle.propagation.specs.Trails.{TrailView, set_of}
use Rattle.model.specs.inner.Assignment.{Assigns}
use Rattle.model.specs.Content.{Content, Problem}
use Rattle.model.specs.Selection.{IsValidSelection}
use Rattle.model.specs.Vertices.{State, absent}
use Rattle.numbering.specs.inner.Assignments.{state_at, state_if, state_of}
use Rattle.numbering.specs.Numberings.{Numbering, number_in}
use Rattle.numbering.proofs.Places.{number_at}
use Rattle.numbering.proofs.Sound.{has_assignment}
use Rattle.guiding.specs.inner.Guides.{final_of}
use Rattle.guiding.proofs.FirstTerms.{space_starts}
use Rattle.facts.specs.inner.Followed.{AgreesWith}
use Rattle.version_sets.specs.Sets.{has}
use Rattle.solver.specs.inner.Leads.{IsLeft}
use Rattle.solver.proofs.Ends.{first_alone, first_zero, number_within}

pub agrees_with : (q : Problem) (vs : Numbering) (content : Content) (t : TrailView) → length vs ≤ length t.sets
    → IsValidSelection q content → IsLeft q vs content t
    → AgreesWith q (state_of q vs (final_of t)) content
agrees_with q vs content t whole valid left v some none = by (number_in vs v) refl
  where
    first_absent : state_at q v 0 ≡ absent
    first_absent = let s = space_starts q v in ap (λ (l : List State). unwrap_or (slice_get l 0) absent) s.1

    lost : (n : ℕ) → number_in vs v ≡ Some n → (b : Bool) → has (set_of t.sets n) 0 ≡ b
        → has (set_of t.sets n) 0 ≡ false
    lost n e true h = absurd
        (some (ap (state_if q (final_of t) v) e ∙ ap (state_at q v) (first_zero (set_of t.sets n) h) ∙ first_absent))
    lost n e false h = h

    by : (o : Option ℕ) → number_in vs v ≡ o → ⊥
    by None e = some (ap (state_if q (final_of t) v) e)
    by (Some n) e = has_assignment q vs content valid (λ x of.
        let low = number_within vs v n e in
        let one = left.alone n (omega (arith, low, whole)) (lost n e (has (set_of t.sets n) 0) refl) in
        let same : final_of t n ≡ x n =
        first_alone (set_of t.sets n) (x n) one (left.agrees x of n (omega (arith, low, whole))) in
        none (subst (Assigns q content v) (ap (state_at q v) (sym same) ∙ sym (ap (state_if q (final_of t) v) e))
        (of n v (number_at vs v n e)).1))
