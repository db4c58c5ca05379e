-- What each derivation keeps: the written order, references backwards, and texts that read (the format is this
-- project's).
use Rattle.std.specs.Prelude.{ℕ, ◌<◌, ◌+◌, List, [], ◌∷◌, ⊤}
use Rattle.std.specs.List.{AllByRecursion}
use Rattle.std.specs.List.Sorted.{IsStrictlySortedBy}
use Rattle.std.specs.declared.cmp.Ordering.{Ordering}
use Rattle.model.specs.Order.{text_cmp}
use Rattle.model.specs.Axioms.{Term}
use Rattle.model.specs.Derivation.{Step, given, combine, terms_of}
use Rattle.vertices.specs.Orders.{state_cmp}
use Rattle.vertices.specs.Texts.{vertex_text, IsReadVertex, IsReadState}

-- the states in the written order, none twice
pub record IsTerm (t : Term) : Type 0 where
  pub vertex : IsReadVertex t.vertex
  pub states : AllByRecursion (λ s. IsReadState t.vertex s) t.states
  pub order : IsStrictlySortedBy state_cmp t.states

-- terms by the bytes of their vertices' texts
abbrev pub term_cmp : Term → Term → Ordering
term_cmp t u = text_cmp (vertex_text t.vertex) (vertex_text u.vertex)

-- the terms in the written order, no vertex twice
abbrev pub AreTerms : List Term → Type 0
AreTerms ts = AllByRecursion IsTerm ts × IsStrictlySortedBy term_cmp ts

-- the step of this number refers to steps before it
abbrev pub RefersBack : ℕ → Step → Type 0
RefersBack n (given k ts) = ⊤
RefersBack n (combine a b v ts) = (a < n) × (b < n) × IsReadVertex v

abbrev pub IsStepAt : ℕ → Step → Type 0
IsStepAt n s = RefersBack n s × AreTerms (terms_of s)

-- the first of the steps has this number
abbrev pub AreStepsFrom : ℕ → List Step → Type 0
AreStepsFrom n [] = ⊤
AreStepsFrom n (s ∷ ss) = IsStepAt n s × AreStepsFrom (n + 1) ss

abbrev pub IsDerivation : List Step → Type 0
IsDerivation steps = AreStepsFrom 0 steps
