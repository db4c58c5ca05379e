-- Rows of incompatibilities over numbers as steps of a derivation.
use Rattle.std.specs.Prelude.{◌≡◌, ◌<◌, ℕ, length, List, [], ◌∷◌, Some, slice_get}
use Rattle.terms.specs.Terms.{TermView}
use Rattle.incompatibilities.specs.Stores.{EntryView, entry}
use Rattle.incompatibilities.specs.declared.origin.Origin.TheVariants as origins
use Rattle.solver.specs.inner.Flats.{FlatView}
use Rattle.solver.specs.declared.flat.Source.{Source}
use Rattle.solver.specs.declared.flat.Source.TheVariants.{Axiom, Combined}
use Rattle.model.specs.Content.{Problem}
use Rattle.model.specs.Axioms.{Term, IsInstance}
use Rattle.vertices.specs.Texts.{kind_at}
use Rattle.model.specs.Derivation.{SameTerms, Step, given, combine}
use Rattle.model.specs.Derivation as model
use Rattle.numbering.specs.Numberings.{Numbering, Says}
use Rattle.solver.specs.inner.Decoding.{terms_of}

-- an axiom is an instance of its kind
abbrev pub IsGiven : Problem → Numbering → ℕ → List TermView → Type 0
IsGiven q vs k ts = (us : List Term) × IsInstance q (kind_at k) us × Says q vs ts us

-- each axiom of a store is
abbrev pub AreGiven : Problem → Numbering → List EntryView → Type 0
AreGiven q vs es =
    (id k : ℕ) → id < length es → (entry es id).origin ≡ origins.Axiom k → IsGiven q vs k (entry es id).terms

-- the step is by the same kind, or of the same two of the row, at the vertex that has the number
abbrev pub IsBy : Numbering → Source → Step → Type 0
IsBy vs (Axiom n) (given k ts) = k ≡ kind_at n
IsBy vs (Axiom n) (combine a b v ts) = ⊥
IsBy vs (Combined i j n) (given k ts) = ⊥
IsBy vs (Combined i j n) (combine a b v ts) = (a ≡ i) × (b ≡ j) × (slice_get vs n ≡ Some v)

-- the step says what one of the row says, in any order
pub record IsStepOf (q : Problem) (vs : Numbering) (f : FlatView) (s : Step) : Type 0 where
  pub by : IsBy vs f.source s
  pub terms : SameTerms (model.terms_of s) (terms_of q vs f.terms)

abbrev pub AreStepsOf : Problem → Numbering → List FlatView → List Step → Type 0
AreStepsOf q vs [] [] = Unit {0}
AreStepsOf q vs (f ∷ fs) (s ∷ steps) = IsStepOf q vs f s × AreStepsOf q vs fs steps
AreStepsOf q vs [] (s ∷ steps) = ⊥
AreStepsOf q vs (f ∷ fs) [] = ⊥
