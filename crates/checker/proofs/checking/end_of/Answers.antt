use Rattle.std.proofs.Common.{◌∙◌, ◌-◌, length, sym, ap}
use Rattle.model.specs.inner.Checks.{end_if}
use Rattle.checker.proofs.StepLaws.{end_first}
use Rattle.checker.proofs.checking.end_of.Goals as goal

pub returns-then-has_no_term : goal.returns-then-has_no_term
returns-then-has_no_term c t =
    let test = rw c.deref.ensures.value at c.has_no_term.ensures t in
    ap (end_if (length c.args.steps.now - 1)) (sym c.if-has_no_term.true ∙ test)
    ∙ end_first t c.args.steps.now c.in-Some.last.now c.in-Some.ensures.value

pub returns-else-has_no_term : goal.returns-else-has_no_term
returns-else-has_no_term c t =
    let test = rw c.deref.ensures.value at c.has_no_term.ensures t in
    ap (end_if (length c.args.steps.now - 1)) (sym c.if-has_no_term.false ∙ test)
    ∙ end_first t c.args.steps.now c.in-Some.last.now c.in-Some.ensures.value
