-- The comparison of terms, and their combination, as lists say what the definitions over all vertices say.
use Rattle.std.proofs.Common.{◌≡◌, ◌↔◌, List, [], ◌∷◌, map, filter, Bool, true, false, not, cond, ◌||◌, Contains}
use Rattle.std.proofs.Common.{Option, Some, None, is_some, refl, sym, ap, ◌∙◌, subst, inl, inr, ◌⊎◌, true≢false}
use Rattle.std.specs.List.{list_all, list_any}
use Rattle.std.proofs.lemmas.Bool.{and_from}
use Rattle.std.proofs.lemmas.Option.{none-some, same_Some}
use Rattle.model.specs.Content.{Problem}
use Rattle.model.specs.Vertices.{Vertex, State, same_vertex, has_state}
use Rattle.model.specs.Axioms.{Term}
use Rattle.model.specs.Derivation.{states_at, SameStates, SameAt, SameTerms, union_at, meet_at, combined_at, IsCombined}
use Rattle.model.proofs.Same.{both, vertex-same, vertex-refl}
use Rattle.model.proofs.Lists.{in_none, in_cons, in_first, in_rest, to_filter, to_map, to_any, all_at}
use Rattle.model.proofs.Spaces.{state_in, state_from}
use Rattle.model.proofs.Tests.{one_test}
use Rattle.model.specs.inner.Terms.{is_within, same_states, same_at, agree, same_terms, speaks_of, vertices_of}
use Rattle.model.specs.inner.Terms.{with_term, terms_at, combination, is_combination}
use Rattle.model.proofs.Bools.{all_pass}
use Rattle.std.proofs.lemmas.List.Elements.{Contains-append_right, Contains-append_left}

-- ---- sets of states

within_has : (a b : List State) (s : State) → is_within a b ≡ true → has_state a s ≡ true → has_state b s ≡ true
within_has a b s h in_a = all_at (has_state b) a s h (state_from a s in_a)

to_within : (a b : List State) → ((s : State) → has_state a s ≡ true → has_state b s ≡ true) → is_within a b ≡ true
to_within a b h = all_pass (has_state b) a (λ s c. h s (state_in a s c))

pub same_states-is : (a b : List State) → same_states a b ≡ true ↔ SameStates a b
same_states-is a b = (
  λ h. let e = both (is_within a b) (is_within b a) h in
      λ s. one_test (has_state a s) (has_state b s) (within_has a b s e.0) (within_has b a s e.1),
  λ h. and_from (is_within a b) (is_within b a) (to_within a b (λ s in_a. sym (h s) ∙ in_a))
      (to_within b a (λ s in_b. h s ∙ in_b)),
)

pub same_at-is : (x y : Option (List State)) → same_at x y ≡ true ↔ SameAt x y
same_at-is None None = (λ h. tt, λ h. refl)
same_at-is None (Some b) = (λ h. true≢false (sym h), λ h. absurd h)
same_at-is (Some a) None = (λ h. true≢false (sym h), λ h. absurd h)
same_at-is (Some a) (Some b) = same_states-is a b

-- ---- terms

-- the term that says what is said at a vertex
pub term_at : (ts : List Term) (v : Vertex) (ss : List State) → states_at ts v ≡ Some ss
    → (t : Term) × Contains ts t × (v ≡ t.vertex) × (t.states ≡ ss)
term_at [] v ss e = absurd (none-some ss e)
term_at (t ∷ ts) v ss e = by (λ e. term_at ts v ss e) (same_vertex v t.vertex) refl e
  where
    by : (states_at ts v ≡ Some ss → (u : Term) × Contains ts u × (v ≡ u.vertex) × (u.states ≡ ss)) → (b : Bool)
        → same_vertex v t.vertex ≡ b
        → cond b (Some t.states) (states_at ts v) ≡ Some ss
        → (u : Term) × Contains (t ∷ ts) u × (v ≡ u.vertex) × (u.states ≡ ss)
    by rest true s e = (t, in_first t ts, vertex-same v t.vertex s, same_Some t.states ss e)
    by rest false s e = let r = rest e in (r.0, in_rest t r.0 ts r.1, r.2, r.3)

-- at the vertex of each term something is said
pub said_at : (ts : List Term) (t : Term) → Contains ts t → speaks_of ts t.vertex ≡ true
said_at [] t c = absurd (in_none t c)
said_at (u ∷ ts) t c = by (λ c. said_at ts t c) (same_vertex t.vertex u.vertex) refl (in_cons u t ts c)
  where
    by : (Contains ts t → speaks_of ts t.vertex ≡ true) → (b : Bool) → same_vertex t.vertex u.vertex ≡ b
        → (u ≡ t) ⊎ Contains ts t
        → is_some (cond b (Some u.states) (states_at ts t.vertex)) ≡ true
    by rest true s h = refl
    by rest false s (inl e) =
        absurd (true≢false (sym (vertex-refl t.vertex) ∙ ap (λ (x : Term). same_vertex t.vertex x.vertex) (sym e) ∙ s))
    by rest false s (inr c) = rest c

agree_says : (a b : List Term) (v : Vertex) → ((t : Term) → Contains a t → agree a b t ≡ true)
    → ((t : Term) → Contains b t → agree a b t ≡ true)
    → SameAt (states_at a v) (states_at b v)
agree_says a b v h k = by (states_at a v) (states_at b v) refl refl
  where
    said : (t : Term) → v ≡ t.vertex → agree a b t ≡ true → SameAt (states_at a v) (states_at b v)
    said t e is = subst (λ w. SameAt (states_at a w) (states_at b w)) (sym e)
        ((same_at-is (states_at a t.vertex) (states_at b t.vertex)).0 is)

    by : (x y : Option (List State)) → states_at a v ≡ x → states_at b v ≡ y → SameAt (states_at a v) (states_at b v)
    by None None e f = rw (e, f) tt
    by (Some ss) y e f = let r = term_at a v ss e in said r.0 r.2 (h r.0 r.1)
    by None (Some ss) e f = let r = term_at b v ss f in said r.0 r.2 (k r.0 r.1)

-- Two lists of terms pass the comparison exactly where they say the same of every vertex.
pub same_terms-is : (a b : List Term) → same_terms a b ≡ true ↔ SameTerms a b
same_terms-is a b = (
  λ h. let e = both (list_all (agree a b) a) (list_all (agree a b) b) h in
      λ v. agree_says a b v (λ t c. all_at (agree a b) a t e.0 c) (λ t c. all_at (agree a b) b t e.1 c),
  λ h. and_from (list_all (agree a b) a) (list_all (agree a b) b)
      (all_pass (agree a b) a (λ t c. (same_at-is (states_at a t.vertex) (states_at b t.vertex)).1 (h t.vertex)))
      (all_pass (agree a b) b (λ t c. (same_at-is (states_at a t.vertex) (states_at b t.vertex)).1 (h t.vertex))),
)

-- ---- the combination

-- what the terms at some vertices say there, and elsewhere
with_term-same : (v w : Vertex) (o : Option (List State)) (ts : List Term) → same_vertex w v ≡ true
    → states_at (with_term v o ts) w ≡ cond (is_some o) o (states_at ts w)
with_term-same v w None ts e = refl
with_term-same v w (Some ss) ts e = ap (λ b. cond b (Some ss) (states_at ts w)) e

with_term-other : (v w : Vertex) (o : Option (List State)) (ts : List Term) → same_vertex w v ≡ false
    → states_at (with_term v o ts) w ≡ states_at ts w
with_term-other v w None ts e = refl
with_term-other v w (Some ss) ts e = ap (λ b. cond b (Some ss) (states_at ts w)) e

module _ (said : Vertex → Option (List State)) where
  terms_at-none : (vs : List Vertex) (w : Vertex) → said w ≡ None → states_at (terms_at said vs) w ≡ None
  terms_at-none [] w e = refl
  terms_at-none (v ∷ vs) w e = by (same_vertex w v) refl (terms_at-none vs w e)
    where
      by : (b : Bool) → same_vertex w v ≡ b → states_at (terms_at said vs) w ≡ None
          → states_at (with_term v (said v) (terms_at said vs)) w ≡ None
      by true s rest = let none : said v ≡ None = ap said (sym (vertex-same w v s)) ∙ e in
          ap (λ o. states_at (with_term v o (terms_at said vs)) w) none ∙ rest
      by false s rest = with_term-other v w (said v) (terms_at said vs) s ∙ rest

  pub terms_at-is : (vs : List Vertex) (w : Vertex) → list_any (same_vertex w) vs ≡ true
      → states_at (terms_at said vs) w ≡ said w
  terms_at-is [] w h = absurd (true≢false (sym h))
  terms_at-is (v ∷ vs) w h = by (λ h. terms_at-is vs w h) (same_vertex w v) refl h
    where
      here : same_vertex w v ≡ true → (o : Option (List State)) → said v ≡ o
          → states_at (with_term v o (terms_at said vs)) w ≡ said w
      here s (Some ss) e = with_term-same v w (Some ss) (terms_at said vs) s ∙ sym e ∙ ap said (sym (vertex-same w v s))
      here s None e = let none : said w ≡ None = ap said (vertex-same w v s) ∙ e in terms_at-none vs w none ∙ sym none

      by : (list_any (same_vertex w) vs ≡ true → states_at (terms_at said vs) w ≡ said w)
          → (b : Bool) → same_vertex w v ≡ b
          → (b || list_any (same_vertex w) vs) ≡ true → states_at (with_term v (said v) (terms_at said vs)) w ≡ said w
      by rest true s h = here s (said v) refl
      by rest false s h = with_term-other v w (said v) (terms_at said vs) s ∙ rest h

-- a vertex that one of the two speaks of is among their vertices
spoken-left : (a b : List Term) (w : Vertex) (ss : List State) → states_at a w ≡ Some ss
    → list_any (same_vertex w) (vertices_of a b) ≡ true
spoken-left a b w ss e =
    let r = term_at a w ss e in
    to_any (same_vertex w) (vertices_of a b) w
    (Contains-append_left (map (λ t. t.vertex) a) (filter (λ v. not (speaks_of a v)) (map (λ t. t.vertex) b)) w
    (subst (Contains (map (λ (t : Term). t.vertex) a)) (sym r.2) (to_map (λ (t : Term). t.vertex) a r.0 r.1)))
    (vertex-refl w)

spoken-right : (a b : List Term) (w : Vertex) (ss : List State) → states_at a w ≡ None → states_at b w ≡ Some ss
    → list_any (same_vertex w) (vertices_of a b) ≡ true
spoken-right a b w ss none e =
    let r = term_at b w ss e in
    to_any (same_vertex w) (vertices_of a b) w
    (Contains-append_right (map (λ t. t.vertex) a) (filter (λ v. not (speaks_of a v)) (map (λ t. t.vertex) b)) w
    (to_filter (λ v. not (speaks_of a v)) (map (λ (t : Term). t.vertex) b) w
    (subst (Contains (map (λ (t : Term). t.vertex) b)) (sym r.2) (to_map (λ (t : Term). t.vertex) b r.0 r.1))
    (ap (λ o. not (is_some o)) none))) (vertex-refl w)

module _ (q : Problem) (v : Vertex) (a b : List Term) where
  -- of a vertex of which neither speaks, it says nothing
  pub silent : (w : Vertex) → states_at a w ≡ None → states_at b w ≡ None → combined_at q a b v w ≡ None
  silent w e f = by (same_vertex v w)
    where
      by : (t : Bool)
          → cond t (union_at q w (states_at a w) (states_at b w)) (meet_at (states_at a w) (states_at b w)) ≡ None
      by true = ap (λ o. union_at q w o (states_at b w)) e
      by false = rw (e, f) refl

  -- Of each vertex the combination says what it is defined to say.
  pub combination-says : (w : Vertex) → states_at (combination q v a b) w ≡ combined_at q a b v w
  combination-says w = by (states_at a w) (states_at b w) refl refl
    where
      by : (x y : Option (List State)) → states_at a w ≡ x → states_at b w ≡ y
          → states_at (combination q v a b) w ≡ combined_at q a b v w
      by (Some ss) y e f = terms_at-is (combined_at q a b v) (vertices_of a b) w (spoken-left a b w ss e)
      by None (Some ss) e f = terms_at-is (combined_at q a b v) (vertices_of a b) w (spoken-right a b w ss e f)
      by None None e f = let none =
          silent w e f in terms_at-none (combined_at q a b v) (vertices_of a b) w none ∙ sym none

  -- Terms are a combination exactly where they say the same as the list does.
  pub is_combination-is : (ts : List Term) → is_combination q v a b ts ≡ true ↔ IsCombined q v a b ts
  is_combination-is ts = (
    λ h. λ w. subst (SameAt (states_at ts w)) (combination-says w) ((same_terms-is ts (combination q v a b)).0 h w),
    λ h. (same_terms-is ts (combination q v a b)).1
        (λ w. subst (SameAt (states_at ts w)) (sym (combination-says w)) (h w)),
  )
