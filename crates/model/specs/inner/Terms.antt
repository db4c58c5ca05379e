-- Lists of terms that are compared and combined by going over them (the rule of resolution of Dart pub's `solver.md`,
-- over sets of states).
use Rattle.std.specs.Prelude.{List, [], ◌∷◌, ◌++◌, Bool, true, false, not, ◌&&◌, Option, Some, None, is_some, map}
use Rattle.std.specs.Prelude.{filter}
use Rattle.std.specs.List.{list_all, AllByRecursion}
use Rattle.std.specs.List.Sorted.{IsStrictlySortedBy}
use Rattle.std.specs.declared.cmp.Ordering.{Ordering}
use Rattle.model.specs.Content.{Problem}
use Rattle.model.specs.Vertices.{Vertex, State, has_state}
use Rattle.model.specs.Axioms.{Term, at}
use Rattle.model.specs.Derivation.{states_at, combined_at}

-- each state of the one is one of the other
abbrev pub is_within : List State → List State → Bool
is_within a b = list_all (has_state b) a

-- two lists of states are one set
abbrev pub same_states : List State → List State → Bool
same_states a b = is_within a b && is_within b a

abbrev pub same_at : Option (List State) → Option (List State) → Bool
same_at None None = true
same_at (Some a) (Some b) = same_states a b
same_at None (Some b) = false
same_at (Some a) None = false

-- two lists of terms say the same of the term's vertex
abbrev pub agree : List Term → List Term → Term → Bool
agree a b t = same_at (states_at a t.vertex) (states_at b t.vertex)

-- and so of each vertex that one of them speaks of
abbrev pub same_terms : List Term → List Term → Bool
same_terms a b = list_all (agree a b) a && list_all (agree a b) b

-- terms in an order of vertices, each with its states in an order of states, none twice
pub record IsInOrder (by_vertex : Vertex → Vertex → Ordering) (by_state : State → State → Ordering)
    (ts : List Term) : Type 0 where
  pub vertices : IsStrictlySortedBy (λ t u. by_vertex t.vertex u.vertex) ts
  pub states : AllByRecursion (λ t. IsStrictlySortedBy by_state t.states) ts

abbrev pub speaks_of : List Term → Vertex → Bool
speaks_of ts v = is_some (states_at ts v)

-- the vertices of the one, and those of the other that aren't among them
abbrev pub vertices_of : List Term → List Term → List Vertex
vertices_of a b = map (λ t. t.vertex) a ++ filter (λ v. not (speaks_of a v)) (map (λ t. t.vertex) b)

-- a term before others, where there is something to say
abbrev pub with_term : Vertex → Option (List State) → List Term → List Term
with_term v None ts = ts
with_term v (Some ss) ts = at v ss ∷ ts

-- what is to be said at these vertices
abbrev pub terms_at : (Vertex → Option (List State)) → List Vertex → List Term
terms_at said [] = []
terms_at said (v ∷ vs) = with_term v (said v) (terms_at said vs)

-- the combination of two at a vertex: there the union, elsewhere the intersection, without full terms
abbrev pub combination : Problem → Vertex → List Term → List Term → List Term
combination q v a b = terms_at (combined_at q a b v) (vertices_of a b)

-- whether these terms are that combination
abbrev pub is_combination : Problem → Vertex → List Term → List Term → List Term → Bool
is_combination q v a b ts = same_terms ts (combination q v a b)
