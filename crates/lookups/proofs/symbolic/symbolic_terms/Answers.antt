use Rattle.std.proofs.Common.{[], ◌∷◌, ap, ◌∙◌}
use Rattle.std.proofs.lemmas.Result.{IfOk-weaker}
use Rattle.semver.specs.Identifiers.{parts_of}
use Rattle.model.specs.Causes.{feature_holds}
use Rattle.lookups.specs.inner.Views.{problem_view}
use Rattle.lookups.proofs.symbolic.symbolic_terms.Goals as goal

pub returns-in-Entry : goal.returns-in-Entry
returns-in-Entry c =
    let q = problem_view c.args.problem.now in
    let e = c.in-Entry in
    rw e.is (IfOk-weaker c.without.result _ _
    (λ v h. h q
    ∙ ap (λ t. feature_holds e.name.now (parts_of e.version.now) e.f.now (t ∷ [])) (c.own_feature.ensures q))
    c.without.ensures)

pub returns-in-Enabling : goal.returns-in-Enabling
returns-in-Enabling c = rw c.in-Enabling.is
    (IfOk-weaker c.without-in-Enabling.result _ _ (λ v h. h (problem_view c.args.problem.now))
    c.without-in-Enabling.ensures)

pub returns-in-Asking : goal.returns-in-Asking
returns-in-Asking c = rw c.in-Asking.is
    (IfOk-weaker c.without-in-Asking.result _ _
    (λ v h. h (problem_view c.args.problem.now)) c.without-in-Asking.ensures)
