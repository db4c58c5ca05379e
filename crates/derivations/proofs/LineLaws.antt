-- A line that is read is one more step, or the fault of all lines so far.
use Rattle.std.proofs.Common.{◌≡◌, ℕ, List, [], ◌∷◌, ◌++◌, length, true, false, nat_lt, Ok, refl, sym, ap, subst}
use Rattle.std.proofs.lemmas.List.{length-map}
use Rattle.derivations.specs.inner.Derivations.{IsDerivation}
use Rattle.derivations.specs.inner.Earlier.{IsReading}
use Rattle.derivations.specs.Files.{most_steps, with_line}
use Rattle.trees.specs.Trees.{is_blank}
use Rattle.derivations.specs.Steps.{step_of_line}
use Rattle.derivations.specs.inner.Tables.{TablesView, IsStepOf, IsGrown, step_at, steps_at}
use Rattle.derivations.specs.declared.step.Step.{Step}
use Rattle.derivations.proofs.ReadLaws.{line-is, one-after}
use Rattle.derivations.proofs.TableLaws.{more-steps}

module _ (s : TablesView) (ss : List Step) (line : List ℕ) (n : ℕ) (text : is_blank line ≡ false) where
  module _ (t : TablesView) (x : Step) (is : step_of_line (length ss) line ≡ Ok (step_at t x)) where
    pub one-read : IsGrown s t → IsReading s ss → IsStepOf t x → nat_lt (length ss) most_steps ≡ true
        → IsReading t (ss ++ x ∷ []) × (with_line n line (steps_at s ss) ≡ Ok (steps_at t (ss ++ x ∷ [])))
    one-read g h in_t room =
        let long = length-map ss (step_at s) in
        let read : step_of_line (length (steps_at s ss)) line ≡ Ok (step_at t x) = rw long is in
        let more = more-steps s t ss x (step_at t x) g h.0 in_t refl in
        let next =
        one-after (steps_at s ss) (step_at t x) h.1 (line-is (length (steps_at s ss)) line (step_at t x) read) in
        ((more.0, subst IsDerivation (sym more.1) next), rw (text, read, long, room) (ap Ok (sym more.1)))
