use Rattle.std.proofs.lemmas.Result.{IfOk-weaker}
use Rattle.model.specs.Derivation.{IsAccepted}
use Rattle.numbering.specs.inner.KnownProblem.{problem}
use Rattle.model.specs.Selected.{IsUnsolvable}
use Rattle.solver.proofs.solving.why_unsolvable.Goals as goal

pub returns-clause-unsolvable : goal.returns-clause-unsolvable
returns-clause-unsolvable g c =
    let q = problem c.args.known.now in
    IfOk-weaker c.refusal.result (λ d. IsAccepted q d) (λ d. IsUnsolvable q d)
    (λ d is. record { accepted = is; none = λ content valid. c.accepted_derivations_refute.ensures content d is valid })
    c.refusal.ensures.accepted
