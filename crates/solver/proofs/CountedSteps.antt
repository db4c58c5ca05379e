-- A derivation has just the steps of a row, so no more of a kind than the store.
use Rattle.std.proofs.Common.{◌≡◌, ℕ, suc, ◌+◌, ◌≤◌, List, [], ◌∷◌, if◌then◌else◌, length, refl, arith}
use Rattle.incompatibilities.specs.Stores.{EntryView}
use Rattle.propagation.specs.Promises.{most}
use Rattle.solver.specs.inner.Flats.{FlatView, IsUnrolled, combined_by, combined_in, given_by, given_of}
use Rattle.solver.specs.declared.flat.Source.{Source}
use Rattle.solver.specs.declared.flat.Source.TheVariants.{Axiom, Combined}
use Rattle.model.specs.Content.{Problem}
use Rattle.model.specs.Derivation.{Step, given, combine}
use Rattle.numbering.specs.Numberings.{Numbering}
use Rattle.solver.specs.inner.Steps.{AreStepsOf, IsBy}
use Rattle.solver.specs.Refusing.{HasNoMore, axioms_of, combinations_of, is_given_step}

module _ (q : Problem) (vs : Numbering) where
  axiom_step : (o : Source) (s : Step) (n : ℕ) → IsBy vs o s
      → (if is_given_step s then suc n else n) ≡ given_by o + n
  axiom_step (Axiom k) (given kind ts) n by = omega arith
  axiom_step (Axiom k) (combine a b v ts) n by = absurd by
  axiom_step (Combined i j m) (given kind ts) n by = absurd by
  axiom_step (Combined i j m) (combine a b v ts) n by = omega arith

  combined_step : (o : Source) (s : Step) (n : ℕ) → IsBy vs o s
      → (if is_given_step s then n else suc n) ≡ combined_by o + n
  combined_step (Axiom k) (given kind ts) n by = omega arith
  combined_step (Axiom k) (combine a b v ts) n by = absurd by
  combined_step (Combined i j m) (given kind ts) n by = absurd by
  combined_step (Combined i j m) (combine a b v ts) n by = omega arith

  axioms_are : (fs : List FlatView) (steps : List Step) → AreStepsOf q vs fs steps → axioms_of steps ≡ given_of fs
  axioms_are [] [] are = refl
  axioms_are [] (s ∷ steps) are = absurd are
  axioms_are (f ∷ fs) [] are = absurd are
  axioms_are (f ∷ fs) (s ∷ steps) are =
      omega (arith, axiom_step f.source s (axioms_of steps) (are.0).by, axioms_are fs steps are.1)

  combined_are : (fs : List FlatView) (steps : List Step) → AreStepsOf q vs fs steps
      → combinations_of steps ≡ combined_in fs
  combined_are [] [] are = refl
  combined_are [] (s ∷ steps) are = absurd are
  combined_are (f ∷ fs) [] are = absurd are
  combined_are (f ∷ fs) (s ∷ steps) are =
      omega (arith, combined_step f.source s (combinations_of steps) (are.0).by, combined_are fs steps are.1)

  combined_le : (steps : List Step) → combinations_of steps ≤ length steps
  combined_le [] = omega arith
  combined_le (given k ts ∷ steps) = omega (arith, combined_le steps)
  combined_le (combine a b v ts ∷ steps) = omega (arith, combined_le steps)

  pub no_more : (es : List EntryView) (last : ℕ) (fs : List FlatView) (steps : List Step) → IsUnrolled es last fs
      → AreStepsOf q vs fs steps → length steps ≤ most → HasNoMore es steps
  no_more es last fs steps row are long =
      let few_combined = row.few_combined in
      let few_given = row.few_given in
      record {
        few_axioms = omega (arith, few_given, axioms_are fs steps are);
        few_combined = omega (arith, few_combined, combined_are fs steps are);
        short = omega (arith, long, combined_le steps);
      }
