-- The instances of pairs of a vertex and a state, and those of all pairs.
use Rattle.std.specs.Prelude.{◌≡◌, ◌≢◌, ◌↔◌, List, true, Contains, map}
use Rattle.std.specs.List.{AllPairs, flat_map}
use Rattle.model.specs.Content.{Problem}
use Rattle.model.specs.Vertices.{Vertex, space}
use Rattle.model.specs.Axioms.{IsVertex}
use Rattle.model.specs.Causes.{Cause, is_cause}
use Rattle.numbering.specs.Numberings.{Numbering}
use Rattle.numbering.specs.Pairs.{AreAllCauses, AreCausesAt, AreGiven, Given, Pair, first_pair}

-- a vertex with each of its states
abbrev pub pairs_of : Problem → Vertex → List Pair
pairs_of q v = map (λ s. (v, s)) (space q v)

abbrev pub all_pairs : Problem → Numbering → List Pair
all_pairs q vs = flat_map (pairs_of q) vs

-- what is given for some pairs: the instances whose first term is one of these, each once
pub record IsGivenFor (q : Problem) (vs : Numbering) (ps : List Pair) (xs : List Given) : Type 0 where
  pub causes : List Cause
  pub listed : (c : Cause) → Contains causes c ↔ ((is_cause q c ≡ true) × Contains ps (first_pair c))
  pub once : AllPairs (λ a b. a ≢ b) causes
  pub given : AreGiven q vs causes xs

-- what is given altogether: all instances, each once
pub record IsGivenAll (q : Problem) (vs : Numbering) (xs : List Given) : Type 0 where
  pub causes : List Cause
  pub are : AreAllCauses q causes
  pub given : AreGiven q vs causes xs

-- a vertex, and one of its states
abbrev pub IsPair : Problem → Pair → Type 0
IsPair q p = IsVertex q p.0 × Contains (space q p.0) p.1

-- the cause is one of those whose instances are given for the pair
abbrev pub ComesFor : Problem → Pair → Cause → Type 0
ComesFor q p c = (cs : List Cause) × AreCausesAt q p cs × Contains cs c

-- the instance of the cause comes for one pair, and for no other
pub record ComesOnce (q : Problem) (c : Cause) : Type 0 where
  pub pair : Pair
  pub is : IsPair q pair
  pub comes : ComesFor q pair c
  pub only : (p : Pair) → ComesFor q p c → p ≡ pair
