-- Terms in an order, each with its states in an order, are one list where they say the same.
use Rattle.std.proofs.Common.{◌≡◌, List, [], ◌∷◌, false, Contains, Option, Some, None, Ordering, Less, Greater, sym, ap}
use Rattle.std.proofs.Common.{◌∙◌, subst}
use Rattle.std.specs.List.{All, AllPairs, AllByRecursion}
use Rattle.std.specs.List.Sorted.{IsStrictlySortedBy}
use Rattle.std.specs.Ordering.{ordering_reverse}
use Rattle.std.proofs.lemmas.List.Elements.{All-from_recursion}
use Rattle.std.proofs.lemmas.List.Kept.{AllPairs-cons}
use Rattle.model.specs.Vertices.{Vertex, State, same_vertex}
use Rattle.model.specs.Axioms.{Term, AreApart}
use Rattle.model.specs.Derivation.{SameStates, SameAt, SameTerms, states_at}
use Rattle.model.proofs.Lists.{all_first, all_rest, pairs_all, pairs_none, pairs_rest}
use Rattle.model.proofs.Permuted.{rising-same}
use Rattle.model.proofs.Same.{vertex-other}
use Rattle.model.proofs.Spaces.{state_in, state_from}
use Rattle.model.proofs.Members.{each_at}
use Rattle.model.specs.inner.Terms.{IsInOrder}
use Rattle.model.proofs.Reading.{Alike, alike}

-- what comes before another doesn't come after it
once_before : {X : Type 0} (cmp : X → X → Ordering) → ((x y : X) → cmp x y ≡ ordering_reverse (cmp y x)) → (x y : X)
    → cmp x y ≡ Less → cmp y x ≡ Less → ⊥
once_before cmp flips x y h k = let e : Less ≡ Greater = sym h ∙ flips x y ∙ ap ordering_reverse k in cc

-- what is sorted has each two in order
pub sorted_pairs : {X : Type 0} (cmp : X → X → Ordering) (xs : List X) → IsStrictlySortedBy cmp xs
    → AllPairs (λ x y. cmp x y ≡ Less) xs
unfolding IsStrictlySortedBy
sorted_pairs cmp [] h = pairs_none (λ x y. cmp x y ≡ Less)
sorted_pairs cmp (x ∷ xs) h = AllPairs-cons
    (λ x y. cmp x y ≡ Less) x xs (All-from_recursion (λ y. cmp x y ≡ Less) xs h.0) (sorted_pairs cmp xs h.1)

-- to say the same goes both ways
pub same_at-back : (x y : Option (List State)) → SameAt x y → SameAt y x
same_at-back None None h = tt
same_at-back None (Some b) h = h
same_at-back (Some a) None h = h
same_at-back (Some a) (Some b) h = λ s. sym (h s)

same-back : (a b : List Term) → SameTerms a b → SameTerms b a
same-back a b h v = same_at-back (states_at a v) (states_at b v) (h v)

module _ (by_vertex : Vertex → Vertex → Ordering) (by_state : State → State → Ordering)
    (vertex_flips : (v w : Vertex) → by_vertex v w ≡ ordering_reverse (by_vertex w v))
    (state_flips : (s r : State) → by_state s r ≡ ordering_reverse (by_state r s)) where
  abbrev Before : Term → Term → Type 0
  Before t u = by_vertex t.vertex u.vertex ≡ Less

  apart-in_order : (ts : List Term) → AllPairs Before ts → AreApart ts
  apart-in_order [] h = tt
  apart-in_order (t ∷ ts) h = (each ts (pairs_all Before t ts h), apart-in_order ts (pairs_rest Before t ts h))
    where
      each : (us : List Term) → All (Before t) us → AllByRecursion (λ u. same_vertex t.vertex u.vertex ≡ false) us
      each [] k = tt
      each (u ∷ us) k = (
        vertex-other t.vertex u.vertex
            (λ e. let before : by_vertex t.vertex u.vertex ≡ Less = all_first (Before t) u us k in
            let itself : by_vertex t.vertex t.vertex ≡ Less = subst (λ v. by_vertex t.vertex v ≡ Less) (sym e) before in
            once_before by_vertex vertex_flips t.vertex t.vertex itself itself),
        each us (all_rest (Before t) u us k),
      )

  states-one : (a b : List State) → AllPairs (λ s r. by_state s r ≡ Less) a
      → AllPairs (λ s r. by_state s r ≡ Less) b → SameStates a b → a ≡ b
  states-one a b h k same = rising-same (λ s r. by_state s r ≡ Less) (once_before by_state state_flips) a b h k
      (λ s c. state_from b s (sym (same s) ∙ state_in a s c)) (λ s c. state_from a s (same s ∙ state_in b s c))

  term-in : (a b : List Term) → IsInOrder by_vertex by_state a → IsInOrder by_vertex by_state b → Alike a b → (t : Term)
      → Contains a t → Contains b t
  term-in a b h k al t c =
      let r = al.forth t c in
      let states : t.states ≡ (r.0).states = states-one t.states (r.0).states (sorted_pairs by_state t.states
      (each_at (λ (t : Term). IsStrictlySortedBy by_state t.states) a t h.states c))
      (sorted_pairs by_state
      (r.0).states (each_at (λ (t : Term). IsStrictlySortedBy by_state t.states) b r.0 k.states r.1)) r.3 in
      let is : t ≡ r.0 = λ i. record { vertex = r.2 i; states = states i } in
      subst (Contains b) (sym is) r.1

  pub one_in_order : (a b : List Term) → IsInOrder by_vertex by_state a
      → IsInOrder by_vertex by_state b → SameTerms a b → a ≡ b
  one_in_order a b h k same =
      let a_pairs = sorted_pairs (λ t u. by_vertex t.vertex u.vertex) a h.vertices in
      let b_pairs = sorted_pairs (λ t u. by_vertex t.vertex u.vertex) b k.vertices in
      let x = apart-in_order a a_pairs in
      let y = apart-in_order b b_pairs in
      let to = alike a b x y same in
      rising-same Before (λ t u. once_before by_vertex vertex_flips t.vertex u.vertex) a b a_pairs b_pairs
      (term-in a b h k to) (term-in b a k h (alike b a y x (same-back a b same)))
