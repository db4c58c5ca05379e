use Rattle.std.proofs.Common.{◌≡◌, Ok, length, sym, ap, ◌∙◌, rules}
use Rattle.trees.specs.Trees.{tree_view}
use Rattle.derivations.specs.Steps.{step_by, step_of}
use Rattle.derivations.specs.inner.StepViews.{origin_view}
use Rattle.derivations.specs.inner.Tables.{terms_at}
use Rattle.derivations.proofs.EarlierLaws.{step-put}
use Rattle.derivations.proofs.TableLaws.{kept-terms}
use Rattle.derivations.proofs.line.step.Goals as goal

pub returns-clause-within : goal.returns-clause-within
returns-clause-within c = (
  c.in_ok-origin-2.ensures.within,
  (kept-terms c.terms.new.tables c.keep_origin.new.tables
      c.in_ok-origin-2.ensures.grown c.in_ok-terms.terms.items c.in_ok-terms.ensures.within).0,
)

pub returns-clause-step : goal.returns-clause-step
unfolding step_of
returns-clause-step c =
    let t = c.terms.new.tables in
    let u = c.keep_origin.new.tables in
    let ts = c.in_ok-terms.terms.items in
    let kept = kept-terms t u c.in_ok-origin-2.ensures.grown ts c.in_ok-terms.ensures.within in
    let put = step-put u c.in_ok-origin-2.origin c.in_ok-origin.origin (terms_at u ts) c.in_ok-origin-2.ensures.origin
    ∙ ap (step_by (origin_view c.in_ok-origin.origin)) kept.1 in
    let whole : step_of (length c.args.steps.now) (tree_view c.args.value.now)
    ≡ Ok (step_by (origin_view c.in_ok-origin.origin) (terms_at t ts)) = search rules in
    whole ∙ ap Ok (sym put)
