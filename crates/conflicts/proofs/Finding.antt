-- A binary search for the term at a vertex, among terms whose vertices rise.
use Rattle.std.proofs.Common.{◌≡◌, ◌≢◌, ℕ, zero, suc, ◌<◌, ◌≤◌, List, [], ◌∷◌, length, get_or, Some, None, Ok, Err}
use Rattle.std.proofs.Common.{refl, ap, sym, ◌∙◌, arith, inl, inr}
use Rattle.std.specs.List.Sorted.{IsBinarySearchResult, IsNonDecreasingBy}
use Rattle.std.specs.Ordering.{nat_cmp, ordering_index}
use Rattle.std.proofs.lemmas.Bool.{cases_lt}
use Rattle.std.proofs.lemmas.Bool.Decides.{nat_tests}
use Rattle.std.proofs.lemmas.Cmp.{ranked}
use Rattle.version_sets.specs.Sets.{Members}
use Rattle.terms.specs.Terms.{term_view, terms_view}
use Rattle.terms.specs.declared.term.Term.{Term}
use Rattle.incompatibilities.specs.Incompatibilities.{AllPast, IsRising, states_at}
use Rattle.incompatibilities.proofs.Lookups.{at_first, at_later}

module _ {S : Type 0} (tests : S → Members) where
  past_read : (v : ℕ) (ts : List (Term S)) (i : ℕ) (d : Term S) → AllPast v (terms_view tests ts) → i < length ts
      → v < (get_or ts i d).vertex
  past_read v [] i d far lt = absurd (omega (arith, lt))
  past_read v (t ∷ ts) zero d far lt = far.0
  past_read v (t ∷ ts) (suc i) d far lt = past_read v ts i d far.1 (omega (arith, lt))

  rises : (ts : List (Term S)) (i j : ℕ) (d : Term S) → IsRising (terms_view tests ts) → i ≤ j → j < length ts
      → (get_or ts i d).vertex ≤ (get_or ts j d).vertex
  rises [] i j d r le lt = absurd (omega (arith, lt))
  rises (t ∷ ts) zero zero d r le lt = omega arith
  rises (t ∷ ts) zero (suc j) d r le lt = let past =
      past_read t.vertex ts j d r.0 (omega (arith, lt)) in omega (arith, past)
  rises (t ∷ ts) (suc i) zero d r le lt = absurd (omega (arith, le))
  rises (t ∷ ts) (suc i) (suc j) d r le lt = rises ts i j d r.1 (omega (arith, le)) (omega (arith, lt))

  -- the comparisons with a vertex rise along the terms
  comparisons_rise : (ts : List (Term S)) (v : ℕ) → IsRising (terms_view tests ts)
      → IsNonDecreasingBy (λ t. ordering_index (nat_cmp t.vertex v)) ts
  comparisons_rise ts v r i j d le lt = higher (get_or ts i d).vertex (get_or ts j d).vertex (rises ts i j d r le lt)
    where
      higher : (a b : ℕ) → a ≤ b → ordering_index (nat_cmp a v) ≤ ordering_index (nat_cmp b v)
      higher a b up = grind (arith, nat_tests)

  -- the term at a place is the one at its vertex
  read_there : (ts : List (Term S)) (i v : ℕ) (d : Term S) → IsRising (terms_view tests ts) → i < length ts
      → (get_or ts i d).vertex ≡ v → states_at (terms_view tests ts) v ≡ Some (tests (get_or ts i d).states)
  read_there [] i v d r lt e = absurd (omega (arith, lt))
  read_there (t ∷ ts) zero v d r lt e = at_first (term_view tests t) (terms_view tests ts) v e
  read_there (t ∷ ts) (suc i) v d r lt e =
      let past = past_read t.vertex ts i d r.0 (omega (arith, lt)) in
      at_later (term_view tests t) (terms_view tests ts) v (λ (h : t.vertex ≡ v). omega (arith, past, h, e))
      ∙ read_there ts i v d r.1 (omega (arith, lt)) e

  none_there : (ts : List (Term S)) (v : ℕ) → ((i : ℕ) (d : Term S) → i < length ts → (get_or ts i d).vertex ≢ v)
      → states_at (terms_view tests ts) v ≡ None
  none_there [] v each = refl
  none_there (t ∷ ts) v each = at_later (term_view tests t) (terms_view tests ts) v (each 0 t (omega arith))
      ∙ none_there ts v (λ i d lt. each (suc i) d (omega (arith, lt)))

  pub found_at : (ts : List (Term S)) (v i : ℕ) (t : Term S) → IsRising (terms_view tests ts) → i < length ts
      → t ≡ get_or ts i t → IsBinarySearchResult (λ t. nat_cmp t.vertex v) ts (Ok i)
      → states_at (terms_view tests ts) v ≡ Some (tests t.states)
  found_at ts v i t r lt is equal =
      read_there ts i v t r lt (ranked _ v _ (sym (equal t))) ∙ ap (λ (u : Term S). Some (tests u.states)) (sym is)

  pub absent_at : (ts : List (Term S)) (v i : ℕ) → IsRising (terms_view tests ts)
      → IsBinarySearchResult (λ t. nat_cmp t.vertex v) ts (Err i) → states_at (terms_view tests ts) v ≡ None
  absent_at ts v i r parted = none_there ts v each
    where
      each : (k : ℕ) (d : Term S) → k < length ts → (get_or ts k d).vertex ≢ v
      each k d lt same = elim (cases_lt k i) [
        | inl less ↦ let below = ranked _ v _ (sym ((parted (comparisons_rise ts v r)).0 k d (omega arith) less)) in
            omega (arith, below, same)
        | inr le ↦ let above =
            ranked _ v _ (sym ((parted (comparisons_rise ts v r)).1 k d le lt)) in omega (arith, above, same)
      ]
