use Rattle.std.proofs.Common.{◌≡◌, sym, subst, ◌∙◌}
use Rattle.std.specs.List.Sorted.{IsNonDecreasing}
use Rattle.explainer.specs.Explanations.{needed}
use Rattle.explainer.proofs.Counts.{needed-rises}
use Rattle.explainer.proofs.explanation.explain.Goals as goal

pub lines-requires-clause-needed : goal.lines-requires-clause-needed
lines-requires-clause-needed c =
    let all = c.args.derivation.now in
    let same : c.deref.result.now ≡ needed all = c.deref.ensures.value ∙ c.in_ok-needed.ensures in
    subst IsNonDecreasing (sym same) (needed-rises all)
