-- What a row says can be put into a derivation one after another.
use Rattle.std.proofs.Common.{◌≡◌, ℕ, zero, suc, ◌+◌, ◌<◌, ◌≤◌, List, [], ◌∷◌, ◌++◌, length, take}
use Rattle.std.proofs.Common.{refl, sym, ap, ◌∙◌, subst, arith}
use Rattle.std.proofs.Math.Seq.{take-suc}
use Rattle.std.proofs.lemmas.List.{take_all}
use Rattle.incompatibilities.specs.Stores.{EntryView}
use Rattle.solver.specs.inner.Flats.{AreFlat, FlatView, SourceFits, flat}
use Rattle.solver.specs.declared.flat.Source.{Source}
use Rattle.solver.specs.declared.flat.Source.TheVariants.{Axiom, Combined}
use Rattle.model.specs.Content.{Problem}
use Rattle.model.specs.Order.{IsCatalogue}
use Rattle.model.specs.Derivation.{Step}
use Rattle.numbering.specs.Numberings.{IsNumbering, Numbering}
use Rattle.solver.specs.inner.Steps.{AreGiven, AreStepsOf, IsStepOf}
use Rattle.solver.proofs.Accepting.{over, vertex_of}
use Rattle.solver.specs.Refusing.{AreThere, IsNext}

take_long : {X : Type 0} (n : ℕ) (xs : List X) → n ≤ length xs → length (take n xs) ≡ n
take_long zero xs le = refl
take_long (suc n) [] le = absurd (omega (arith, le))
take_long (suc n) (x ∷ xs) le = ap suc (take_long n xs (omega (arith, le)))

module _ (q : Problem) (vs : Numbering) where
  -- the steps so far, one more
  steps_more : (fs : List FlatView) (steps : List Step) (f : FlatView) (s : Step) → AreStepsOf q vs fs steps
      → IsStepOf q vs f s → AreStepsOf q vs (fs ++ f ∷ []) (steps ++ s ∷ [])
  steps_more [] [] f s are is = (is, tt)
  steps_more [] (r ∷ steps) f s are is = absurd are
  steps_more (g ∷ fs) [] f s are is = absurd are
  steps_more (g ∷ fs) (r ∷ steps) f s are is = (are.0, steps_more fs steps f s are.1 is)

  steps_long : (fs : List FlatView) (steps : List Step) → AreStepsOf q vs fs steps → length steps ≡ length fs
  steps_long [] [] are = refl
  steps_long [] (r ∷ steps) are = absurd are
  steps_long (f ∷ fs) [] are = absurd are
  steps_long (f ∷ fs) (r ∷ steps) are = ap suc (steps_long fs steps are.1)

  pub more_at : (fs : List FlatView) (k : ℕ) (steps new : List Step) → k < length fs
      → AreStepsOf q vs (take k fs) steps → ((s : Step) × (new ≡ steps ++ s ∷ []) × IsStepOf q vs (flat fs k) s)
      → AreStepsOf q vs (take (k + 1) fs) new
  more_at fs k steps new lt are s =
      let after : k + 1 ≡ suc k = omega arith in
      let next : take (k + 1) fs ≡ take k fs ++ flat fs k ∷ [] =
      ap (λ n. take n fs) after ∙ take-suc fs k (record { terms = []; source = Axiom 0 }) lt in
      subst (λ l. AreStepsOf q vs l new) (sym next) (subst (AreStepsOf q vs (take k fs ++ flat fs k ∷ []))
      (sym s.1) (steps_more (take k fs) steps (flat fs k) s.0 are s.2))

  pub all_at : (fs : List FlatView) (k : ℕ) (steps : List Step) → length fs ≤ k → AreStepsOf q vs (take k fs) steps
      → AreStepsOf q vs fs steps
  all_at fs k steps past are = subst (λ l. AreStepsOf q vs l steps) (take_all k fs past) are

  module _ (known : IsCatalogue q) (ok : IsNumbering q vs) (es : List EntryView) (axioms : AreGiven q vs es)
      (fs : List FlatView) (founded : AreFlat es fs) where
    there_at : (k : ℕ) → k < length fs → (o : Source) → SourceFits es fs k (flat fs k).terms o → AreThere vs k o
    there_at k lt (Axiom m) fits = tt
    there_at k lt (Combined i j m) fits =
        let first = fits.0 in
        let v = vertex_of q vs known ok es axioms fs founded (flat fs i).terms m
        (over q vs known ok es axioms fs founded i (omega (arith, first, lt))) fits.2 in
        (fits.0, fits.1, v.0, v.1)

    pub next_at : (k : ℕ) (steps : List Step) → k < length fs → AreStepsOf q vs (take k fs) steps
        → IsNext q vs (flat fs k) (length steps)
    next_at k steps lt are = record {
      over = over q vs known ok es axioms fs founded k lt;
      there = subst (λ n. AreThere vs n (flat fs k).source)
          (sym (steps_long (take k fs) steps are ∙ take_long k fs (omega (arith, lt))))
          (there_at k lt (flat fs k).source (founded k lt));
    }
