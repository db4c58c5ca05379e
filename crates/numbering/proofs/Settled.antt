-- An assignment over numbers that breaks no entry, where each pair that holds has been added, breaks no instance.
use Rattle.std.proofs.Common.{◌≡◌, ℕ, List, [], ◌∷◌, Bool, true, false, cond, Option, Some, None, slice_get, refl, sym}
use Rattle.std.proofs.Common.{ap, ◌∙◌, subst}
use Rattle.std.specs.Prelude.{option_map, unwrap_or}
use Rattle.std.proofs.lemmas.Option.{none-some, same_Some}
use Rattle.version_sets.specs.Sets.{is_full}
use Rattle.terms.specs.Terms.{TermView}
use Rattle.incompatibilities.specs.Incompatibilities as numbered
use Rattle.incompatibilities.specs.Incompatibilities.{Assignment, HoldsOf, Breaks, unless_full}
use Rattle.incompatibilities.specs.Stores.{EntryView, entry}
use Rattle.model.specs.Content.{Problem}
use Rattle.model.specs.Vertices.{Vertex, State, absent, same_vertex, has_state, space}
use Rattle.model.specs.Axioms.{Term, Kind, IsBroken, IsInstance}
use Rattle.model.specs.Derivation as model
use Rattle.model.specs.inner.Search.{IsUnbroken}
use Rattle.model.proofs.Same.{vertex-same}
use Rattle.model.proofs.Spaces.{state_in, state_from, absent_in_space}
use Rattle.model.proofs.Places.{some_at, got_in}
use Rattle.model.specs.Causes.{terms_of_cause}
use Rattle.model.proofs.CauseLaws.{instance_cause}
use Rattle.numbering.specs.Numberings.{Numbering, IsNumbering, number_in, members_at, Says}
use Rattle.numbering.specs.inner.Assignments.{state_if, state_of, IsSettled}
use Rattle.numbering.proofs.Places.{has_map, number_at, number_of}
use Rattle.numbering.proofs.Each.{only_one}
use Rattle.numbering.proofs.ByKind.{pair_states}

-- what breaks a list of terms has a state of each of them
broken_at : (state : Vertex → State) (ts : List Term) → IsBroken (λ v s. state v ≡ s) ts
    → (v : Vertex) (ss : List State) → model.states_at ts v ≡ Some ss → has_state ss (state v) ≡ true
broken_at state [] b v ss e = absurd (none-some ss e)
broken_at state (t ∷ ts) b v ss e = by (broken_at state ts b.1 v ss) (same_vertex v t.vertex) refl e
  where
    by : (model.states_at ts v ≡ Some ss → has_state ss (state v) ≡ true) → (c : Bool) → same_vertex v t.vertex ≡ c
        → cond c (Some t.states) (model.states_at ts v) ≡ Some ss → has_state ss (state v) ≡ true
    by rest true s e =
        let h : has_state t.states (state t.vertex) ≡ true = let r =
        b.0 in subst (λ x. has_state t.states x ≡ true) (sym r.1) r.2 in
        subst (λ x. has_state x (state v) ≡ true) (same_Some t.states ss e)
        (subst (λ w. has_state t.states (state w) ≡ true) (sym (vertex-same v t.vertex s)) h)
    by rest false s e = rest e

module _ (q : Problem) (vs : Numbering) (es : List EntryView) (x : Assignment) (ok : IsNumbering q vs)
    (settled : IsSettled q vs es x) where
  -- the state at a vertex's number
  at_number : (n : ℕ) (v : Vertex) → slice_get vs n ≡ Some v
      → (s : State) × (slice_get (space q v) (x n) ≡ Some s) × (state_of q vs x v ≡ s)
  at_number n v e =
      let r = some_at (space q v) (x n) (settled.within n v e) in
      (r.0, r.1, ap (state_if q x v) (number_of vs v n ok.once e) ∙ ap (λ o. unwrap_or o absent) r.1)

  within : (v : Vertex) → has_state (space q v) (state_of q vs x v) ≡ true
  within v = by (number_in vs v) refl
    where
      by : (o : Option ℕ) → number_in vs v ≡ o → has_state (space q v) (state_if q x v o) ≡ true
      by None e = absent_in_space q v
      by (Some n) e =
          let r = some_at (space q v) (x n) (settled.within n v (number_at vs v n e)) in
          ap (λ s. has_state (space q v) s) (ap (λ o. unwrap_or o absent) r.1)
          ∙ state_in (space q v) r.0 (got_in (space q v) (x n) r.0 r.1)

  -- what is broken over vertices is broken over numbers
  pub breaks : (made : List TermView) (ts : List Term) → Says q vs made ts → IsBroken (λ v s. state_of q vs x v ≡ s) ts
      → Breaks x (numbered.states_at made)
  breaks made ts says broken u = by (slice_get vs u) refl
    where
      at_term : (v : Vertex) → slice_get vs u ≡ Some v → (o : Option (List State)) → model.states_at ts v ≡ o
          → HoldsOf (unless_full (option_map (members_at q v) o)) (x u)
      at_term v e None f = tt
      at_term v e (Some ss) f = unless (is_full (members_at q v ss))
        where
          unless : (b : Bool) → HoldsOf (cond b None (Some (members_at q v ss))) (x u)
          unless true = tt
          unless false =
              let r = at_number u v e in
              has_map (has_state ss) (space q v) (x u) r.0 r.1
              ∙ subst (λ s. has_state ss s ≡ true) r.2 (broken_at (state_of q vs x) ts broken v ss f)

      by : (o : Option Vertex) → slice_get vs u ≡ o → HoldsOf (numbered.states_at made u) (x u)
      by None e = subst (λ o. HoldsOf o (x u)) (sym (says.none u e)) tt
      by (Some v) e = subst (λ o. HoldsOf o (x u)) (sym (says.each u v e)) (at_term v e (model.states_at ts v) refl)

  unbroken : (k : Kind) (ts : List Term) → IsInstance q k ts → IsBroken (λ v s. state_of q vs x v ≡ s) ts → ⊥
  unbroken k ts instance broken =
      let c = instance_cause q k ts instance in
      let b : IsBroken (λ v s. state_of q vs x v ≡ s) (terms_of_cause q c.cause) =
      subst (λ us. IsBroken (λ v s. state_of q vs x v ≡ s) us) (sym c.terms) broken in
      let r = settled.added c.cause c.there (λ p there. only_one p.1 (state_of q vs x p.0)
      (state_from (p.1 ∷ []) (state_of q vs x p.0) (broken_at (state_of q vs x) (terms_of_cause q c.cause) b p.0
      (p.1 ∷ []) (pair_states q c.cause c.there p there)))) in
      settled.none_broken r.0 r.1 (breaks (entry es r.0).terms (terms_of_cause q c.cause) r.2 b)

  pub is_unbroken : IsUnbroken q (state_of q vs x)
  is_unbroken = record { within = within; unbroken = unbroken }
