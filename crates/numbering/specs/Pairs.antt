-- The vertex and the one state of an instance's first term, by which it is added on demand, and what is given for such
-- a pair.
use Rattle.std.specs.Prelude.{◌≡◌, ◌≢◌, ◌↔◌, List, [], ◌∷◌, true, Contains, map}
use Rattle.std.specs.List.{AllPairs}
use Rattle.terms.specs.Terms.{TermView}
use Rattle.model.specs.Content.{Problem}
use Rattle.model.specs.Selection.{class_of}
use Rattle.model.specs.Vertices.{Owner, the_root, version_of, Vertex, root, pkg, dep, feat, ask, State, absent, present}
use Rattle.model.specs.Vertices.{version, in_class}
use Rattle.model.specs.Axioms.{Kind}
use Rattle.model.specs.Causes.{Cause, of_root, of_need, of_target, of_feature, of_list, of_ask, of_entry}
use Rattle.model.specs.Causes.{of_enabling, of_asking, of_newest, of_weak, kind_of, is_cause, terms_of_cause}
use Rattle.numbering.specs.Numberings.{Numbering, Says}

abbrev pub Pair : Type 0
Pair = Vertex × State

-- the owner counts
abbrev pub owner_pair : Owner → Pair
owner_pair the_root = (root, present)
owner_pair (version_of name v) = (pkg name (class_of v), version v)

abbrev pub first_pair : Cause → Pair
first_pair of_root = (root, absent)
first_pair (of_need o i) = owner_pair o
first_pair (of_target o i k) = (dep o i, in_class k)
first_pair (of_feature name k f) = (feat name k f, present)
first_pair (of_list o i k g) = (dep o i, in_class k)
first_pair (of_ask name v i g k) = (ask name v i g, present)
first_pair (of_entry name v f g) = owner_pair (version_of name v)
first_pair (of_enabling name v f e i) = owner_pair (version_of name v)
first_pair (of_asking name v f g i) = owner_pair (version_of name v)
first_pair (of_newest o i j k m) = (dep o i, in_class k)
first_pair (of_weak name v f g i k) = owner_pair (version_of name v)

-- the pairs that an instance names with one state each of those for which it is kept back: it isn't broken before all
-- of them hold
abbrev pub pairs_of : Cause → List Pair
pairs_of (of_newest o i j k m) = (dep o i, in_class k) ∷ (dep o j, in_class m) ∷ []
pairs_of c = first_pair c ∷ []

-- a cause whose first term is that pair
abbrev pub IsCauseAt : Problem → Pair → Cause → Type 0
IsCauseAt q p c = (is_cause q c ≡ true) × (first_pair c ≡ p)

-- just the causes whose first term is that pair, each once
pub record AreCausesAt (q : Problem) (p : Pair) (cs : List Cause) : Type 0 where
  pub listed : (c : Cause) → Contains cs c ↔ ((is_cause q c ≡ true) × (first_pair c ≡ p))
  pub once : AllPairs (λ a b. a ≢ b) cs

-- just the causes of all instances, each once
pub record AreAllCauses (q : Problem) (cs : List Cause) : Type 0 where
  pub listed : (c : Cause) → Contains cs c ↔ (is_cause q c ≡ true)
  pub once : AllPairs (λ a b. a ≢ b) cs

-- a kind, and the terms of an incompatibility
abbrev pub Given : Type 0
Given = Kind × List TermView

-- at the place of each cause its instance
abbrev pub AreGiven : Problem → Numbering → List Cause → List Given → Type 0
AreGiven q vs [] [] = Unit {0}
AreGiven q vs (c ∷ cs) (x ∷ xs) = (x.0 ≡ kind_of c) × Says q vs x.1 (terms_of_cause q c) × AreGiven q vs cs xs
AreGiven q vs [] (x ∷ xs) = ⊥
AreGiven q vs (c ∷ cs) [] = ⊥

-- what is given for a pair: the instances of its causes
pub record IsGivenAt (q : Problem) (vs : Numbering) (p : Pair) (xs : List Given) : Type 0 where
  pub causes : List Cause
  pub are : AreCausesAt q p causes
  pub given : AreGiven q vs causes xs

-- the vertices of a cause's instance, those of full terms too
abbrev pub spoken_by : Problem → Cause → List Vertex
spoken_by q c = map (λ t. t.vertex) (terms_of_cause q c)

-- a vertex of the instance of such a cause
abbrev pub IsSpokenOf : Problem → (Cause → Type 0) → Vertex → Type 0
IsSpokenOf q Is v = (c : Cause) × Is c × Contains (spoken_by q c) v
