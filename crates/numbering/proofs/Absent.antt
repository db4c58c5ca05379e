-- At most one term of an instance has absent among its states, over vertices and over numbers.
use Rattle.std.proofs.Common.{◌≡◌, ◌≢◌, ◌⊎◌, ℕ, List, [], ◌∷◌, Bool, true, false, cond, Option, Some, None, slice_get}
use Rattle.std.proofs.Common.{refl, sym, ap, ◌∙◌, subst, inl, inr}
use Rattle.std.specs.Prelude.{option_map}
use Rattle.std.specs.List.{AllPairs, AllByRecursion}
use Rattle.std.proofs.lemmas.Option.{none-some, same_Some}
use Rattle.version_sets.specs.Sets.{is_full}
use Rattle.terms.specs.Terms.{TermView}
use Rattle.incompatibilities.specs.Incompatibilities as numbered
use Rattle.incompatibilities.specs.Incompatibilities.{unless_full}
use Rattle.model.specs.Summary.{Dependency}
use Rattle.model.specs.Content.{Problem}
use Rattle.model.specs.Vertices.{Vertex, dep, State, absent}
use Rattle.model.specs.Vertices.{has_state, same_vertex, owner_brings, dep_space, space}
use Rattle.model.specs.Axioms.{Term, Kind, IsInstance}
use Rattle.model.specs.Derivation as model
use Rattle.model.proofs.Same.{vertex-same}
use Rattle.numbering.specs.Numberings.{Numbering, members_at, Says}
use Rattle.numbering.specs.inner.Absences.{has_absent, OneAbsent, HasZero, OneZero}
use Rattle.numbering.proofs.ByKind.{instance_one_absent}
use Rattle.numbering.proofs.Places.{has_map}
use Rattle.numbering.proofs.Saying.{one_place}

-- ---- two vertices with absent are one

none_absent : (ts : List Term) → AllByRecursion (λ u. has_absent u ≡ false) ts → (v : Vertex) (ss : List State)
    → model.states_at ts v ≡ Some ss → has_state ss absent ≡ false
none_absent [] h v ss e = absurd (none-some ss e)
none_absent (t ∷ ts) h v ss e = by (none_absent ts h.1 v ss) (same_vertex v t.vertex) e
  where
    by : (model.states_at ts v ≡ Some ss → has_state ss absent ≡ false) → (b : Bool)
        → cond b (Some t.states) (model.states_at ts v) ≡ Some ss → has_state ss absent ≡ false
    by rest true e = subst (λ x. has_state x absent ≡ false) (same_Some t.states ss e) h.0
    by rest false e = rest e

one_vertex : (ts : List Term) → OneAbsent ts → (v w : Vertex) (ss rs : List State) → model.states_at ts v ≡ Some ss
    → model.states_at ts w ≡ Some rs
    → has_state ss absent ≡ true → has_state rs absent ≡ true → v ≡ w
one_vertex [] h v w ss rs e f a b = absurd (none-some ss e)
one_vertex (t ∷ ts) h v w ss rs e f a b =
    by h (λ h e f. one_vertex ts h v w ss rs e f a b) (same_vertex v t.vertex) (same_vertex w t.vertex) refl refl e f
  where
    clash : (xs : List State) → has_state xs absent ≡ true → has_state xs absent ≡ false → ⊥
    clash xs x y = let z : true ≡ false = sym x ∙ y in cc

    by : ((has_absent t ≡ false) × OneAbsent ts) ⊎ AllByRecursion (λ u. has_absent u ≡ false) ts
        → (OneAbsent ts → model.states_at ts v ≡ Some ss → model.states_at ts w ≡ Some rs → v ≡ w)
        → (c d : Bool) → same_vertex v t.vertex ≡ c → same_vertex w t.vertex ≡ d → cond c (Some t.states)
        (model.states_at ts v) ≡ Some ss → cond d (Some t.states) (model.states_at ts w) ≡ Some rs → v ≡ w
    by h rest true true s r e f = vertex-same v t.vertex s ∙ sym (vertex-same w t.vertex r)
    by (inl x) rest true false s r e f =
        absurd (clash ss a (subst (λ y. has_state y absent ≡ false) (same_Some t.states ss e) x.0))
    by (inl x) rest false true s r e f =
        absurd (clash rs b (subst (λ y. has_state y absent ≡ false) (same_Some t.states rs f) x.0))
    by (inl x) rest false false s r e f = rest x.1 e f
    by (inr x) rest true false s r e f = absurd (clash rs b (none_absent ts x w rs f))
    by (inr x) rest false true s r e f = absurd (clash ss a (none_absent ts x v ss e))
    by (inr x) rest false false s r e f = absurd (clash ss a (none_absent ts x v ss e))

first_state : (q : Problem) (v : Vertex) → slice_get (space q v) 0 ≡ Some absent
first_state q (dep o i) = by (slice_get (owner_brings q o).dependencies i)
  where
    by : (d : Option Dependency) → slice_get (dep_space q d) 0 ≡ Some absent
    by None = refl
    by (Some d) = refl
first_state q v = refl

module _ (q : Problem) (vs : Numbering) (once : AllPairs (λ v w. v ≢ w) vs) (made : List TermView) (ts : List Term)
    (says : Says q vs made ts) where
  -- a vertex of which the terms have absent, where a number has 0
  with_zero : (u : ℕ) → HasZero (numbered.states_at made u) → (v : Vertex) × (ss : List State)
      × (slice_get vs u ≡ Some v) × (model.states_at ts v ≡ Some ss) × (has_state ss absent ≡ true)
  with_zero u h = by (slice_get vs u) refl
    where
      at : (v : Vertex) (o : Option (List State)) → model.states_at ts v ≡ o
          → HasZero (unless_full (option_map (members_at q v) o))
          → (ss : List State) × (model.states_at ts v ≡ Some ss) × (has_state ss absent ≡ true)
      at v None e h = absurd h
      at v (Some ss) e h = unless (is_full (members_at q v ss)) h
        where
          unless : (b : Bool) → HasZero (cond b None (Some (members_at q v ss)))
              → (rs : List State) × (model.states_at ts v ≡ Some rs) × (has_state rs absent ≡ true)
          unless true h = absurd h
          unless false h = (ss, e, sym (has_map (has_state ss) (space q v) 0 absent (first_state q v)) ∙ h)

      by : (o : Option Vertex) → slice_get vs u ≡ o → (v : Vertex) × (ss : List State) × (slice_get vs u ≡ Some v)
          × (model.states_at ts v ≡ Some ss) × (has_state ss absent ≡ true)
      by None e = absurd (subst HasZero (says.none u e) h)
      by (Some v) e = let r =
          at v (model.states_at ts v) refl (subst HasZero (says.each u v e) h) in (v, r.0, e, r.1, r.2)

  pub one_zero : OneAbsent ts → OneZero (numbered.states_at made)
  one_zero one u w h k =
      let a = with_zero u h in
      let b = with_zero w k in
      let same : a.0 ≡ b.0 = one_vertex ts one a.0 b.0 a.1 b.1 a.3 b.3 a.4 b.4 in
      one_place vs u w a.0 once a.2 (b.2 ∙ ap Some (sym same))

pub instance_one_zero : (q : Problem) (vs : Numbering) (k : Kind) (ts : List Term) (made : List TermView)
    → AllPairs (λ v w. v ≢ w) vs → IsInstance q k ts → Says q vs made ts → OneZero (numbered.states_at made)
instance_one_zero q vs k ts made once instance says =
    one_zero q vs once made ts says (instance_one_absent q k ts instance)
