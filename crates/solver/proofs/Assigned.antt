-- Each package of what the root reaches at the end has a vertex that was assigned, at a place of the trail of its own.
use Rattle.std.proofs.Common.{◌≡◌, ◌≢◌, ◌<◌, ◌≤◌, ℕ, zero, suc, List, [], ◌∷◌, length, Bool, true, false, eqb, arith}
use Rattle.std.proofs.Common.{if◌then◌else◌, Option, Some, None, slice_get, refl, sym, ap, ◌∙◌, subst, true≢false}
use Rattle.std.specs.Prelude.{unwrap_or}
use Rattle.std.proofs.lemmas.Bool.{eq-eqb, eqb-true}
use Rattle.std.proofs.lemmas.List.{get_or-set_other}
use Rattle.std.proofs.lemmas.Option.{same_Some}
use Rattle.indexmap.proofs.IndexTableLemmas.Probe.{pigeonhole}
use Rattle.version_sets.specs.Sets.{Members, every, has}
use Rattle.propagation.specs.Promises.{IsSound}
use Rattle.propagation.specs.Trails.{StepView, TrailView, set_of, space_of, step_at, undo}
use Rattle.model.specs.Axioms.{owner_holds}
use Rattle.model.specs.Content.{Content, Package, Problem}
use Rattle.model.specs.Selection.{here, class_of}
use Rattle.model.specs.inner.Search.{IsPresent, IsUnbroken, LeadsTo}
use Rattle.model.specs.Walk.{StandsFor, name_of}
use Rattle.model.specs.Vertices.{Owner, the_root, version_of, Vertex, State, absent, present, root, pkg, version}
use Rattle.model.specs.Order.{IsCatalogue}
use Rattle.model.proofs.Cut.{one_place, package_at, package_here}
use Rattle.model.proofs.Reached.{reached_says, root_present}
use Rattle.numbering.specs.inner.Assignments.{state_at, state_if, state_of}
use Rattle.numbering.specs.Numberings.{Numbering, number_in}
use Rattle.numbering.proofs.Places.{number_at}
use Rattle.guiding.specs.inner.Guides.{final_of, first_in}
use Rattle.guiding.proofs.FirstTerms.{space_starts}

-- the first place of a number
abbrev place_of : List StepView → ℕ → ℕ
place_of [] v = 0
place_of (s ∷ ss) v = if eqb v s.vertex then 0 else suc (place_of ss v)

abbrev IsPlace : List StepView → ℕ → ℕ → Type 0
IsPlace ss v k = (k < length ss) × ((step_at ss k).vertex ≡ v)

-- what has lost absent lost it at a place
lost_at : (ss : List StepView) (sets : List Members) (v : ℕ) → has (set_of (undo ss sets) v) 0 ≡ true
    → has (set_of sets v) 0 ≡ false → IsPlace ss v (place_of ss v)
lost_at [] sets v was now = absurd (true≢false (sym was ∙ now))
lost_at (s ∷ ss) sets v was now =
    by (λ other. lost_at ss sets v (sym (ap (λ (set : Members). has set 0)
    (get_or-set_other (undo ss sets) s.vertex v s.before [] other)) ∙ was) now) (eqb v s.vertex) refl
  where
    by : (v ≢ s.vertex → IsPlace ss v (place_of ss v)) → (b : Bool) → eqb v s.vertex ≡ b
        → IsPlace (s ∷ ss) v (if b then 0 else suc (place_of ss v))
    by rest true e = (omega arith, sym (eqb-true v s.vertex e))
    by rest false e =
        let r = rest (λ same. true≢false (sym (eq-eqb v s.vertex same) ∙ e)) in
        let lt = r.0 in (omega (arith, lt), r.1)

first_past : (s : Members) → first_in s ≢ 0 → (has s 0 ≡ false) × (0 < length s)
first_past [] some = absurd (some refl)
first_past (true ∷ s) some = absurd (some refl)
first_past (false ∷ s) some = (refl, omega arith)

every_first : (n : ℕ) → 0 < n → has (every n) 0 ≡ true
every_first zero some = absurd (omega (arith, some))
every_first (suc n) some = refl

module _ (q : Problem) (vs : Numbering) (t : TrailView) (sound : IsSound t) where
  abbrev state : Vertex → State
  state = state_of q vs (final_of t)

  -- the place of a vertex by its number
  abbrev place_if : Option ℕ → ℕ
  place_if None = 0
  place_if (Some n) = place_of t.steps n

  abbrev IsAssigned : Vertex → ℕ → Type 0
  IsAssigned v k = (k < length t.steps) × (slice_get vs (step_at t.steps k).vertex ≡ Some v)

  -- a vertex that isn't absent at the end was assigned
  assigned : (v : Vertex) → state v ≢ absent → IsAssigned v (place_if (number_in vs v))
  assigned v there = by (number_in vs v) refl
    where
      first_absent : state_at q v 0 ≡ absent
      first_absent = let s = space_starts q v in ap (λ (l : List State). unwrap_or (slice_get l 0) absent) s.1

      by : (o : Option ℕ) → number_in vs v ≡ o → IsAssigned v (place_if o)
      by None e = absurd (there (ap (state_if q (final_of t) v) e))
      by (Some n) e =
          let past = first_past (set_of t.sets n)
          (λ z. there (ap (state_if q (final_of t) v) e ∙ ap (state_at q v) z ∙ first_absent)) in
          let r = lost_at t.steps t.sets n
          (ap (λ (set : Members). has set 0) (sound.starts n) ∙ every_first (space_of t n) past.1) past.0 in
          (r.0, ap (slice_get vs) r.1 ∙ number_at vs v n e)

  module _ (known : IsCatalogue q) (unbroken : IsUnbroken q state) (content : Content)
      (stands : StandsFor q (LeadsTo q state) content) where
    abbrev vertex_of : Owner → Vertex
    vertex_of o = (owner_holds o).vertex

    there : (o : Owner) → IsPresent q state o → state (vertex_of o) ≢ absent
    there the_root is none = let x : present ≡ absent = sym (root_present q state unbroken) ∙ none in cc
    there (version_of name v) is none = let x : version v ≡ absent = sym is ∙ none in cc

    one_owner : (o u : Owner) → IsPresent q state o → IsPresent q state u → vertex_of o ≡ vertex_of u → o ≡ u
    one_owner the_root the_root is also e = refl
    one_owner the_root (version_of name v) is also e = let x : root ≡ pkg name (class_of v) = e in cc
    one_owner (version_of name v) the_root is also e = let x : pkg name (class_of v) ≡ root = e in cc
    one_owner (version_of name v) (version_of other w) is also e =
        let x : pkg name (class_of v) ≡ pkg other (class_of w) = e in
        let y : version v ≡ version w = sym is ∙ ap state e ∙ also in cc

    abbrev place : Option Package → ℕ
    place None = 0
    place (Some p) = place_if (number_in vs (vertex_of (name_of q p)))

    is : (n : ℕ) (p : Package) → slice_get content n ≡ Some p → IsPresent q state (name_of q p)
    is n p got = reached_says q state unbroken (here (name_of q p))
        (package_here q state unbroken known content stands n p got)

    at : (n : ℕ) (p : Package) → slice_get content n ≡ Some p → IsAssigned (vertex_of (name_of q p)) (place (Some p))
    at n p got = assigned (vertex_of (name_of q p)) (there (name_of q p) (is n p got))

    pub packages_assigned : length content ≤ length t.steps
    packages_assigned = pigeonhole (length content) (length t.steps) (λ n. place (slice_get content n))
        (λ n lt. let (p, got) = package_at content n lt in
        subst (λ o. place o < length t.steps) (sym got) (at n p got).0)
        (λ n m lt le e.
        let (p, got) = package_at content n lt in
        let (r, had) = package_at content m le in
        let same : place (Some p) ≡ place (Some r) = sym (ap place got) ∙ e ∙ ap place had in
        one_place q state unbroken known content stands n m p r got had
        (one_owner (name_of q p) (name_of q r) (is n p got) (is m r had)
        (same_Some (vertex_of (name_of q p)) (vertex_of (name_of q r))
        (sym (at n p got).1 ∙ ap (λ k. slice_get vs (step_at t.steps k).vertex) same ∙ (at m r had).1))))
