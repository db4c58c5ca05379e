-- At the end of a search that found a selection: each vertex takes absent where it may, else its one state, and no
-- instance is broken.
use Rattle.std.proofs.Common.{◌≡◌, ◌≢◌, ◌⊎◌, inl, inr, ℕ, zero, suc, ◌<◌, ◌||◌, true, false, List, [], ◌∷◌, length, map}
use Rattle.std.proofs.Common.{Contains, Option, Some, None, slice_get, refl, sym, ap, ◌∙◌, subst, arith}
use Rattle.std.proofs.lemmas.Bool.{false≢true, ne_eqb}
use Rattle.std.proofs.lemmas.List.{length-map}
use Rattle.std.proofs.lemmas.Option.{same_Some, slice_get_within}
use Rattle.version_sets.specs.Sets.{Members, has, size}
use Rattle.version_sets.proofs.Laws.{has_below}
use Rattle.incompatibilities.specs.Incompatibilities.{Assignment, Breaks}
use Rattle.incompatibilities.specs.Stores.{EntryView, IsAxiom, entry, terms_of}
use Rattle.incompatibilities.specs.declared.origin.Origin.{Origin}
use Rattle.incompatibilities.specs.declared.origin.Origin.TheVariants.{Axiom, Learned}
use Rattle.propagation.specs.Trails.{TrailView, set_of, space_of}
use Rattle.propagation.specs.Promises.{IsTrail, IsProgress}
use Rattle.propagation.specs.declared.propagating.Progress.TheVariants.{Fixpoint}
use Rattle.propagation.proofs.Back.{sets_now}
use Rattle.propagation.proofs.Places.{some_at}
use Rattle.propagation.proofs.Vertices.{in_range}
use Rattle.model.specs.Content.{Problem}
use Rattle.model.specs.Vertices.{State, Vertex, absent, space}
use Rattle.model.specs.inner.Search.{IsUnbroken}
use Rattle.model.proofs.Lists.{in_cons, in_first, in_none, in_rest}
use Rattle.model.specs.Causes.{Cause, is_cause, of_root, terms_of_cause}
use Rattle.numbering.specs.inner.Assignments.{IsAdded, IsSettled, state_at, state_if, state_of}
use Rattle.numbering.specs.inner.Finals.{IsAtRest, IsFinal}
use Rattle.numbering.specs.Numberings.{IsNumbering, Numbering, Says, number_in}
use Rattle.numbering.specs.Pairs.{Pair, pairs_of}
use Rattle.numbering.proofs.Absent.{instance_one_zero}
use Rattle.numbering.proofs.ByKind.{only_root}
use Rattle.numbering.proofs.Final.{breaks_not}
use Rattle.numbering.proofs.Places.{number_at}
use Rattle.numbering.proofs.Settled.{is_unbroken}
use Rattle.guiding.specs.inner.Searching.{AllAsked, HasSpaces}
use Rattle.guiding.specs.inner.Following as following
use Rattle.guiding.specs.inner.Guides.{AreStored, IsAskedFor, IsDone, IsOfInstance, IsPut, asked_of, first_in, on_trail}
use Rattle.guiding.specs.inner.Remaining.{spaces_of}
use Rattle.guiding.proofs.Alone.{one_member}
use Rattle.guiding.proofs.Marks.{lengths_at}
use Rattle.guiding.proofs.OnTrail.{on_trail_at}

first_has : (s : Members) → 0 < size s → has s (first_in s) ≡ true
first_has [] some = absurd (omega (arith, some))
first_has (true ∷ s) some = refl
first_has (false ∷ s) some = first_has s some

not_zero : (s : Members) → first_in s ≢ 0 → has s 0 ≡ false
not_zero [] ne = refl
not_zero (true ∷ s) ne = absurd (ne refl)
not_zero (false ∷ s) ne = refl

-- what was learned put aside, so that only its axioms can be broken
abbrev nothing : EntryView
nothing = record { terms = record { vertex = 0; states = [] } ∷ []; origin = Axiom 0 }

abbrev axiom_or : Origin → EntryView → EntryView
axiom_or (Axiom k) e = e
axiom_or (Learned chain) e = nothing

abbrev axioms_of : List EntryView → List EntryView
axioms_of es = map (λ e. axiom_or e.origin e) es

axiom_kept : (o : Origin) (e : EntryView) → IsAxiom o → axiom_or o e ≡ e
axiom_kept (Axiom k) e h = refl
axiom_kept (Learned chain) e h = absurd h

axioms_at : (es : List EntryView) (id : ℕ) → id < length es
    → entry (axioms_of es) id ≡ axiom_or (entry es id).origin (entry es id)
axioms_at [] id lt = absurd (omega (arith, lt))
axioms_at (e ∷ es) zero lt = refl
axioms_at (e ∷ es) (suc id) lt = axioms_at es id (omega (arith, lt))

module _ (q : Problem) (vs : Numbering) (asked : List Members) (es : List EntryView) (t : TrailView)
    (ok : IsNumbering q vs) (spaces : map length asked ≡ spaces_of q (on_trail vs asked))
    (whole : length asked ≡ length vs) (spaced : HasSpaces (map length asked) t)
    (trail : IsTrail es t) (done : IsDone t) (all : AllAsked (asked_of asked) t.sets)
    (stops : IsProgress es t.sets Fixpoint) (stored : AreStored q vs asked es)
    (given : following.AreGiven (IsOfInstance q vs) es) where
  -- what each vertex takes
  abbrev chosen : Assignment
  chosen u = first_in (set_of t.sets u)

  some_left : (u : ℕ) → 0 < space_of t u → 0 < size (set_of t.sets u)
  some_left u some =
      subst (λ ss. 0 < size (set_of ss u)) (sets_now t) (some_at t trail.sound u (length t.steps) (omega arith) some)

  final : (u : ℕ) → 0 < space_of t u → IsFinal (set_of t.sets u) (chosen u)
  final u some = record {
    left = first_has (set_of t.sets u) (some_left u some);
    alone = λ ne j h.
        let within : u < length t.sets = in_range t.sets u some in
        let lost = not_zero (set_of t.sets u) ne in
        let few = done u within lost in
        let many = some_left u some in
        one_member (set_of t.sets u) j (first_in (set_of t.sets u)) (omega (arith, few, many)) h
        (first_has (set_of t.sets u) many);
  }

  space_is : (n : ℕ) (v : Vertex) → slice_get vs n ≡ Some v → space_of t n ≡ length (space q v)
  space_is n v e =
      let lt = slice_get_within vs n v e in
      let r = on_trail_at q vs asked n spaces (omega (arith, lt, whole)) in
      spaced.each n ∙ lengths_at asked n ∙ r.2 ∙ ap (λ w. length (space q w)) (same_Some r.0 v (sym r.1 ∙ e))

  spacious : (v : Vertex) → 0 < length (space q v)
  spacious v = let s = Rattle.guiding.proofs.FirstTerms.space_starts q v in
      subst (λ (l : List State). 0 < length l) (sym s.1) (omega arith)

  within : (n : ℕ) (v : Vertex) → slice_get vs n ≡ Some v → chosen n < length (space q v)
  within n v e = subst (λ k. chosen n < k) (space_is n v e)
      (has_below (set_of t.sets n) (chosen n) (final n (subst (λ k. 0 < k) (sym (space_is n v e)) (spacious v))).left)

  rests : (id : ℕ) → id < length es → IsAtRest (set_of t.sets) (terms_of es id)
  rests id lt = let quiet = stops id lt in record {
    not_all = quiet.not_all;
    not_one = λ v x one. quiet.not_one v x (record {
      term = one.term;
      common = one.common;
      apart = one.apart;
      others = one.others;
    });
  }

  none_broken : (id : ℕ) → id < length es → IsAxiom (entry es id).origin → Breaks chosen (terms_of es id) → ⊥
  none_broken id lt ax breaks =
      let g = given id lt ax in
      breaks_not (set_of t.sets) (terms_of es id) chosen (λ u s e. final u (positive u s e))
      (instance_one_zero q vs g.kind g.terms (entry es id).terms ok.once g.is g.says)
      (rests id lt) breaks
    where
      positive : (u : ℕ) (s : Members) → terms_of es id u ≡ Some s → 0 < space_of t u
      positive u s e = let h : has s (chosen u) ≡ true =
          subst (λ o. Rattle.incompatibilities.specs.Incompatibilities.HoldsOf o (chosen u)) e (breaks u) in
          let b = has_below s (chosen u) h in
          let l = trail.lies id lt u s e in omega (arith, b, l)

  added : (c : Cause) → IsPut q vs es c → IsAdded q vs (axioms_of es) c
  added c r =
      let same : entry (axioms_of es) r.0 ≡ entry es r.0 =
      axioms_at es r.0 r.1 ∙ axiom_kept (entry es r.0).origin (entry es r.0) r.2 in (
        r.0,
        subst (λ n. r.0 < n) (sym (length-map es (λ (e : EntryView). axiom_or e.origin e))) r.1,
        subst (λ (e : EntryView). Says q vs e.terms (terms_of_cause q c)) (sym same) r.3,
      )

  aside : (id : ℕ) → id < length (axioms_of es) → Breaks chosen (terms_of (axioms_of es) id) → ⊥
  aside id low breaks = by (entry es id).origin refl
    where
      lt : id < length es
      lt = subst (λ n. id < n) (length-map es (λ (e : EntryView). axiom_or e.origin e)) low

      at : entry (axioms_of es) id ≡ axiom_or (entry es id).origin (entry es id)
      at = axioms_at es id lt

      by : (o : Origin) → (entry es id).origin ≡ o → ⊥
      by (Axiom k) e =
          let ax : IsAxiom (entry es id).origin = subst IsAxiom (sym e) tt in
          none_broken id lt ax (subst (λ (x : EntryView).
          Breaks chosen (Rattle.incompatibilities.specs.Incompatibilities.states_at x.terms))
          (at ∙ axiom_kept (entry es id).origin (entry es id) ax) breaks)
      by (Learned chain) e =
          let same : entry (axioms_of es) id ≡ nothing = at ∙ ap (λ o. axiom_or o (entry es id)) e in
          let b : Breaks chosen (Rattle.incompatibilities.specs.Incompatibilities.states_at nothing.terms) =
          subst (λ (x : EntryView).
          Breaks chosen (Rattle.incompatibilities.specs.Incompatibilities.states_at x.terms)) same breaks in
          false≢true (b 0)

  -- ---- each pair that holds was asked for

  alone : (n : ℕ) (i : ℕ) → 0 < i → chosen n ≡ i → n < length t.sets → has (set_of asked n) i ≡ true
  alone n i some is within =
      let left : 0 < space_of t n = positive (set_of t.sets n) (subst (λ k. 0 < k) (sym is) some) in
      let many = some_left n left in
      let h : has (set_of t.sets n) i ≡ true =
      subst (λ k. has (set_of t.sets n) k ≡ true) is (first_has (set_of t.sets n) many) in
      let few =
      done n within (not_zero (set_of t.sets n) (λ z. let w : i ≡ 0 = sym is ∙ z in omega (arith, some, w))) in
      not_absent i some (all n i within (omega (arith, few, many), h))
    where
      positive : (s : Members) → 0 < first_in s → 0 < length s
      positive [] lt = lt
      positive (b ∷ s) lt = omega arith

      not_absent : (j : ℕ) → 0 < j → asked_of asked n j ≡ true → has (set_of asked n) j ≡ true
      not_absent j some h = sym (ap (λ b. b || has (set_of asked n) j) (ne_eqb j 0 (λ e. omega (arith, some, e)))) ∙ h

  -- unless it is with absent, which is the root's alone
  asked_for : (c : Cause) (p : Pair) → Contains (pairs_of c) p → state_of q vs chosen p.0 ≡ p.1
      → (c ≡ of_root) ⊎ IsAskedFor q vs asked p
  asked_for c (v, s) here holds = by (number_in vs v) refl holds
    where
      root_of : s ≡ absent → (c ≡ of_root) ⊎ IsAskedFor q vs asked (v, s)
      root_of e = inl (only_root c v (subst (λ r. Contains (pairs_of c) (v, r)) e here))

      zero_state : state_at q v 0 ≡ absent
      zero_state = let s = Rattle.guiding.proofs.FirstTerms.space_starts q v in
          ap (λ (l : List State). Rattle.std.specs.Prelude.unwrap_or (slice_get l 0) absent) s.1

      by : (o : Option ℕ) → number_in vs v ≡ o → state_if q chosen v o ≡ s
          → (c ≡ of_root) ⊎ IsAskedFor q vs asked (v, s)
      by None e is = root_of (sym is)
      by (Some n) e is = at (chosen n) refl is
        where
          there : slice_get vs n ≡ Some v
          there = number_at vs v n e

          at : (i : ℕ) → chosen n ≡ i → state_at q v (chosen n) ≡ s → (c ≡ of_root) ⊎ IsAskedFor q vs asked (v, s)
          at zero same is = root_of (sym is ∙ ap (state_at q v) same ∙ zero_state)
          at (suc i) same is =
              let lt = slice_get_within vs n v there in
              inr (
                n,
                suc i,
                there,
                alone n (suc i) (omega arith) same
                    (omega (arith, lt, whole, spaced.vertices, length-map asked length)),
                ap (state_at q v) (sym same) ∙ is,
              )

  all_asked : (c : Cause) (ps : List Pair)
      → ((p : Pair) → Contains ps p → (c ≡ of_root) ⊎ IsAskedFor q vs asked p)
      → (c ≡ of_root) ⊎ ((p : Pair) → Contains ps p → IsAskedFor q vs asked p)
  all_asked c [] each = inr (λ p h. absurd (in_none p h))
  all_asked c (r ∷ ps) each = elim (each r (in_first r ps)) [
    | inl e ↦ inl e
    | inr a ↦ elim (all_asked c ps (λ p h. each p (in_rest r p ps h))) [
      | inl e ↦ inl e
      | inr all ↦
          inr (λ p h. elim (in_cons r p ps h) [ inl e ↦ subst (IsAskedFor q vs asked) e a | inr d ↦ all p d ])
    ]
  ]

  put : (c : Cause) → is_cause q c ≡ true
      → (c ≡ of_root) ⊎ ((p : Pair) → Contains (pairs_of c) p → IsAskedFor q vs asked p) → IsPut q vs es c
  put c t (inl e) = subst (IsPut q vs es) (sym e) (stored.root_is (subst (λ x. is_cause q x ≡ true) e t))
  put c t (inr all) = stored.pairs c t all

  settled : IsSettled q vs (axioms_of es) chosen
  settled = record {
    within = within;
    none_broken = aside;
    added = λ c t holds. added c (put c t (all_asked c (pairs_of c) (λ p h. asked_for c p h (holds p h))));
  }

  -- so there is an assignment of all vertices that breaks no instance
  pub unbroken : IsUnbroken q (state_of q vs (λ u. first_in (set_of t.sets u)))
  unbroken = is_unbroken q vs (axioms_of es) chosen ok settled
