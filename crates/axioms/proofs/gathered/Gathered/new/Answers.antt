use Rattle.std.proofs.Common.{◌∙◌, ap}
use Rattle.std.specs.List.{list_any}
use Rattle.axioms.specs.inner.Asking.{row_names}
use Rattle.axioms.proofs.Asked.{rows_ask}
use Rattle.axioms.proofs.gathered.Gathered.new.Goals as goal

pub invariant_of-result-clause-root_asks_are : goal.invariant_of-result-clause-root_asks_are
invariant_of-result-clause-root_asks_are c = λ d g.
    c.in_ok-asked_by_root.ensures d g ∙ ap (list_any (row_names d g)) c.features.ensures
    ∙ rows_ask d g c.args.manifest.now.brings.features
