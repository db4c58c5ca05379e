-- Steps that are made from terms in any order (the written order is this project's).
use Rattle.std.specs.Prelude.{List, map}
use Rattle.std.specs.List.{All, IsDistinct}
use Rattle.std.specs.Ordering.{on}
use Rattle.model.specs.Vertices.{same_vertex, same_state}
use Rattle.model.specs.Axioms.{Term, at}
use Rattle.vertices.specs.Orders.{state_cmp}
use Rattle.vertices.specs.Texts.{IsReadVertex, IsReadState}
use Rattle.derivations.specs.inner.Derivations.{term_cmp}
use Rattle.model.specs.Order.{in_order}

-- ---- which terms a step can be made of

-- the vertex and its states are what their own texts read as, and no state stands twice
pub record IsNewTerm (t : Term) : Type 0 where
  pub vertex : IsReadVertex t.vertex
  pub states : All (λ s. IsReadState t.vertex s) t.states
  pub apart : IsDistinct same_state t.states

-- so they are in each term, and no vertex stands twice
pub record AreNewTerms (ts : List Term) : Type 0 where
  pub each : All IsNewTerm ts
  pub apart : IsDistinct (on (λ t. t.vertex) same_vertex) ts

-- ---- the terms that it then has

-- the states in the written order
abbrev pub ordered_term : Term → Term
ordered_term t = at t.vertex (in_order state_cmp t.states)

-- the terms in the written order, and so their states
abbrev pub ordered_terms : List Term → List Term
ordered_terms ts = in_order term_cmp (map ordered_term ts)
