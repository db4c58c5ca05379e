-- A valid selection breaks no instance over numbers, and gives each vertex that has a number one of its states.
use Rattle.std.proofs.Common.{◌≡◌, ℕ, ◌<◌, zero, suc, List, [], ◌∷◌, length, Bool, true, false, cond, Contains, Some}
use Rattle.std.proofs.Common.{None, slice_get, refl, sym, ap, ◌∙◌, subst}
use Rattle.std.specs.Prelude.{option_map, unwrap_or}
use Rattle.std.specs.List.{AllByRecursion}
use Rattle.std.proofs.lemmas.Option.{none-some, same_Some, slice_get_within}
use Rattle.version_sets.specs.Sets.{is_full}
use Rattle.terms.specs.Terms.{TermView}
use Rattle.incompatibilities.specs.Incompatibilities as numbered
use Rattle.incompatibilities.specs.Incompatibilities.{Assignment, HoldsOf, Breaks, unless_full}
use Rattle.model.specs.Content.{Problem, Content}
use Rattle.model.specs.Selection.{IsValidSelection}
use Rattle.model.specs.Order.{IsCatalogue}
use Rattle.model.specs.Vertices.{Vertex, State, absent, same_vertex, has_state, space}
use Rattle.model.specs.Axioms.{Term, Kind, IsInstance}
use Rattle.model.specs.Derivation as model
use Rattle.model.specs.inner.Assignment as content
use Rattle.model.specs.inner.Assignment.{Assigns}
use Rattle.model.proofs.Same.{vertex-same}
use Rattle.model.proofs.Spaces.{state_from, has_a_state}
use Rattle.model.proofs.Terms.{allows_breaks}
use Rattle.model.proofs.Accepted.{instance_apart}
use Rattle.model.proofs.Sound.{sound}
use Rattle.model.proofs.Places.{some_at, place_of}
use Rattle.numbering.specs.Numberings.{Numbering, members_at, Says}
use Rattle.numbering.specs.inner.Assignments.{state_at, IsOf}
use Rattle.numbering.proofs.Places.{has_map, full_at}

-- a vertex of which terms speak is one of theirs
pub spoken : (P : Vertex → Type 0) (ts : List Term) → AllByRecursion (λ t. P t.vertex) ts
    → (v : Vertex) (ss : List State) → model.states_at ts v ≡ Some ss → P v
spoken P [] h v ss e = absurd (none-some ss e)
spoken P (t ∷ ts) h v ss e = by (spoken P ts h.1 v ss) (same_vertex v t.vertex) refl e
  where
    by : (model.states_at ts v ≡ Some ss → P v) → (c : Bool) → same_vertex v t.vertex ≡ c
        → cond c (Some t.states) (model.states_at ts v) ≡ Some ss → P v
    by rest true s e = subst P (sym (vertex-same v t.vertex s)) h.0
    by rest false s e = rest e

module _ (q : Problem) (vs : Numbering) (c : Content) (x : Assignment) (of : IsOf q vs c x) where
  -- what holds over numbers holds of the state
  has_it : (n : ℕ) (v : Vertex) (ss : List State) → slice_get vs n ≡ Some v
      → HoldsOf (unless_full (Some (members_at q v ss))) (x n) → has_state ss (state_at q v (x n)) ≡ true
  has_it n v ss e h =
      let r = some_at (space q v) (x n) (of n v e).0 in
      let is : state_at q v (x n) ≡ r.0 = ap (λ o. unwrap_or o absent) r.1 in
      subst (λ s. has_state ss s ≡ true) (sym is) (by r.0 r.1 (is_full (members_at q v ss)) refl h)
    where
      by : (s : State) → slice_get (space q v) (x n) ≡ Some s → (b : Bool) → is_full (members_at q v ss) ≡ b
          → HoldsOf (cond b None (Some (members_at q v ss))) (x n) → has_state ss s ≡ true
      by s e true f h = full_at (has_state ss) (space q v) (x n) s f e
      by s e false f h = sym (has_map (has_state ss) (space q v) (x n) s e) ∙ h

  pub breaks_none : (k : Kind) (ts : List Term) (made : List TermView) → IsCatalogue q → IsValidSelection q c
      → IsInstance q k ts → Says q vs made ts
      → Breaks x (numbered.states_at made) → ⊥
  breaks_none k ts made known valid instance says broken =
      allows_breaks q c ts (instance_apart q k ts instance) allows (λ b. sound q c valid known k ts instance b)
    where
      allows : (v : Vertex) (ss : List State) → model.states_at ts v ≡ Some ss → (content.Meets q c v ss → ⊥) → ⊥
      allows v ss e none =
          let r = place_of vs v (spoken (λ w. Contains vs w) ts says.numbers v ss e) in
          let h : HoldsOf (unless_full (Some (members_at q v ss))) (x r.0) =
          subst (λ o. HoldsOf (unless_full (option_map (members_at q v) o)) (x r.0)) e
          (subst (λ o. HoldsOf o (x r.0)) (says.each r.0 v r.1) (broken r.0)) in
          none (state_at q v (x r.0), (of r.0 v r.1).1, has_it r.0 v ss r.1 h)

-- ---- an assignment that is the content's

-- one more number before others
abbrev before : ℕ → Assignment → Assignment
before s x zero = s
before s x (suc n) = x n

-- where nothing speaks against a number for each, nothing speaks against numbers for all
choose : (P : Vertex → ℕ → Type 0) (vs : Numbering) → ((v : Vertex) → ((s : ℕ) → P v s → ⊥) → ⊥)
    → ((x : Assignment) → ((n : ℕ) (v : Vertex) → slice_get vs n ≡ Some v → P v (x n)) → ⊥) → ⊥
choose P [] each none = none (λ n. 0) (λ n v e. absurd (none-some v e))
choose P (w ∷ ws) each none = each w (λ s h. choose P ws each (λ x hx. none (before s x) (all s h x hx)))
  where
    all : (s : ℕ) → P w s → (x : Assignment) → ((n : ℕ) (v : Vertex) → slice_get ws n ≡ Some v → P v (x n))
        → (n : ℕ) (v : Vertex) → slice_get (w ∷ ws) n ≡ Some v → P v (before s x n)
    all s h x hx zero v e = subst (λ u. P u s) (same_Some w v e) h
    all s h x hx (suc n) v e = hx n v e

pub has_assignment : (q : Problem) (vs : Numbering) (c : Content) → IsValidSelection q c
    → ((x : Assignment) → IsOf q vs c x → ⊥) → ⊥
has_assignment q vs c valid none = choose (λ v s. (s < length (space q v)) × Assigns q c v (state_at q v s)) vs one none
  where
    one : (v : Vertex) → ((s : ℕ) → (s < length (space q v)) × Assigns q c v (state_at q v s) → ⊥) → ⊥
    one v none = has_a_state q c valid v (λ s is there.
        let r = place_of (space q v) s (state_from (space q v) s there) in
        none r.0 (
          slice_get_within (space q v) r.0 s r.1,
          subst (λ t. Assigns q c v t) (sym (ap (λ o. unwrap_or o absent) r.1)) is,
        ))
