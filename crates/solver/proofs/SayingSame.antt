-- Terms in the written order say what they said before.
use Rattle.std.proofs.Common.{◌≡◌, List, [], ◌∷◌, map, Bool, true, false, cond, ◌||◌, Option, Some, refl, sym, ap, ◌∙◌}
use Rattle.std.proofs.Common.{subst, true≢false}
use Rattle.std.specs.List.{AllByRecursion, list_any}
use Rattle.std.specs.Ordering.{is_gt}
use Rattle.std.specs.declared.cmp.Ordering.{Ordering}
use Rattle.model.specs.Vertices.{Vertex, State, same_state, same_vertex}
use Rattle.model.specs.Axioms.{AreApart, Term}
use Rattle.model.specs.Derivation.{SameAt, SameTerms, states_at}
use Rattle.model.proofs.Same.{vertex-same, vertex-refl}
use Rattle.vertices.specs.Orders.{state_cmp}
use Rattle.derivations.specs.inner.Building.{ordered_term, ordered_terms}
use Rattle.derivations.specs.inner.Derivations.{term_cmp}
use Rattle.model.specs.Order.{in_order, put_in}
use Rattle.model.proofs.Sorting.{each-in_order}

-- ---- states

swap_or : (a b c : Bool) → (a || (b || c)) ≡ (b || (a || c))
swap_or true true c = refl
swap_or true false c = refl
swap_or false true c = refl
swap_or false false c = refl

module _ {X : Type 0} (cmp : X → X → Ordering) (p : X → Bool) where
  any_put : (x : X) (xs : List X) → list_any p (put_in cmp x xs) ≡ (p x || list_any p xs)
  any_put x [] = refl
  any_put x (y ∷ ys) = by (is_gt (cmp x y)) (any_put x ys)
    where
      by : (b : Bool) → list_any p (put_in cmp x ys) ≡ (p x || list_any p ys)
          → list_any p (cond b (y ∷ put_in cmp x ys) (x ∷ (y ∷ ys))) ≡ (p x || (p y || list_any p ys))
      by true rest = ap (λ b. p y || b) rest ∙ swap_or (p y) (p x) (list_any p ys)
      by false rest = refl

  any_order : (xs : List X) → list_any p (in_order cmp xs) ≡ list_any p xs
  any_order [] = refl
  any_order (x ∷ xs) = any_put x (in_order cmp xs) ∙ ap (λ b. p x || b) (any_order xs)

-- ---- terms

abbrev AreOther : Term → List Term → Type 0
AreOther t ts = AllByRecursion (λ u. same_vertex t.vertex u.vertex ≡ false) ts

module _ (cmp : Term → Term → Ordering) (v : Vertex) where
  -- of two vertices that differ at most one is this one
  swap_at : (t u : Term) (o : Option (List State)) → same_vertex t.vertex u.vertex ≡ false
      → cond (same_vertex v u.vertex) (Some u.states) (cond (same_vertex v t.vertex) (Some t.states) o)
      ≡ cond (same_vertex v t.vertex) (Some t.states) (cond (same_vertex v u.vertex) (Some u.states) o)
  swap_at t u o apart = by (same_vertex v u.vertex) refl (same_vertex v t.vertex) refl
    where
      by : (a : Bool) → same_vertex v u.vertex ≡ a → (b : Bool) → same_vertex v t.vertex ≡ b
          → cond a (Some u.states) (cond b (Some t.states) o) ≡ cond b (Some t.states) (cond a (Some u.states) o)
      by true e true f =
          let same : t.vertex ≡ u.vertex = sym (vertex-same v t.vertex f) ∙ vertex-same v u.vertex e in
          absurd (true≢false (sym (vertex-refl t.vertex) ∙ ap (same_vertex t.vertex) same ∙ apart))
      by true e false f = refl
      by false e true f = refl
      by false e false f = refl

  put_at : (t : Term) (ts : List Term) → AreOther t ts
      → states_at (put_in cmp t ts) v ≡ cond (same_vertex v t.vertex) (Some t.states) (states_at ts v)
  put_at t [] apart = refl
  put_at t (u ∷ ts) apart = by (is_gt (cmp t u)) (put_at t ts apart.1)
    where
      by : (b : Bool) → states_at (put_in cmp t ts) v ≡ cond (same_vertex v t.vertex) (Some t.states) (states_at ts v)
          → states_at (cond b (u ∷ put_in cmp t ts) (t ∷ (u ∷ ts))) v ≡ cond (same_vertex v t.vertex) (Some t.states)
          (cond (same_vertex v u.vertex) (Some u.states) (states_at ts v))
      by true rest =
          ap (λ o. cond (same_vertex v u.vertex) (Some u.states) o) rest ∙ swap_at t u (states_at ts v) apart.0
      by false rest = refl

  order_at : (ts : List Term) → AreApart ts → states_at (in_order cmp ts) v ≡ states_at ts v
  order_at [] apart = refl
  order_at (t ∷ ts) apart =
      put_at t (in_order cmp ts) (each-in_order cmp (λ u. same_vertex t.vertex u.vertex ≡ false) ts apart.0)
      ∙ ap (λ o. cond (same_vertex v t.vertex) (Some t.states) o) (order_at ts apart.1)

others_ordered : (t : Term) (ts : List Term) → AreOther t ts → AreOther t (map ordered_term ts)
others_ordered t [] apart = tt
others_ordered t (u ∷ ts) apart = (apart.0, others_ordered t ts apart.1)

apart_ordered : (ts : List Term) → AreApart ts → AreApart (map ordered_term ts)
apart_ordered [] apart = tt
apart_ordered (t ∷ ts) apart = (others_ordered t ts apart.0, apart_ordered ts apart.1)

same_states : (v : Vertex) (ts : List Term) → SameAt (states_at (map ordered_term ts) v) (states_at ts v)
same_states v [] = tt
same_states v (t ∷ ts) = by (same_vertex v t.vertex) (same_states v ts)
  where
    by : (b : Bool) → SameAt (states_at (map ordered_term ts) v) (states_at ts v)
        → SameAt (cond b (Some (in_order state_cmp t.states)) (states_at (map ordered_term ts) v))
        (cond b (Some t.states) (states_at ts v))
    by true rest = λ s. any_order state_cmp (same_state s) t.states
    by false rest = rest

pub ordered_same : (ts : List Term) → AreApart ts → SameTerms (ordered_terms ts) ts
ordered_same ts apart v = subst (λ o. SameAt o (states_at ts v))
    (sym (order_at term_cmp v (map ordered_term ts) (apart_ordered ts apart))) (same_states v ts)
