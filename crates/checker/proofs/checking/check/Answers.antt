use Rattle.std.proofs.Common.{◌∙◌, sym, ap}
use Rattle.std.proofs.lemmas.Result.{IfOk-weaker}
use Rattle.catalogue.specs.Problems.{problem_in}
use Rattle.checker.specs.inner.Answers.{check_view}
use Rattle.checker.proofs.RefusedLaws.{proves_where, refuses_where}
use Rattle.checker.proofs.StepLaws.{are_plain}
use Rattle.checker.proofs.checking.check.Goals as goal

pub returns-clause-proves : goal.returns-clause-proves
returns-clause-proves c =
    let q = problem_in c.args.manifest.now c.args.catalogue.now in
    let plain = are_plain 0 c.args.derivation.now c.refused_step_of.ensures.derivation in
    IfOk-weaker c.refused_step_of.result _ _
    (λ k h. proves_where q c.args.derivation.now plain k h) c.refused_step_of.ensures.refused_step

pub returns-clause-refused : goal.returns-clause-refused
returns-clause-refused c =
    let q = problem_in c.args.manifest.now c.args.catalogue.now in
    let plain = are_plain 0 c.args.derivation.now c.refused_step_of.ensures.derivation in
    IfOk-weaker c.refused_step_of.result _ _
    (λ k h n r. refuses_where q c.args.derivation.now plain k h n r) c.refused_step_of.ensures.refused_step

pub returns-clause-refutes : goal.returns-clause-refutes
returns-clause-refutes c =
    let plain = are_plain 0 c.args.derivation.now c.refused_step_of.ensures.derivation in
    IfOk-weaker c.refused_step_of.result _ _
    (λ k h is content valid.
    c.unrefused_derivations_refute.ensures (problem_in c.args.manifest.now c.args.catalogue.now) content
    c.args.derivation.now c.catalogues_are_well_formed.ensures plain (sym h ∙ ap check_view is) valid)
    c.refused_step_of.ensures.refused_step
