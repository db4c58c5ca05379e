use Rattle.std.proofs.Common.{sym, ap, subst, ◌∙◌, rules}
use Rattle.trees.specs.Trees.{tree_view}
use Rattle.model.specs.Outcome.{◌>>=◌, Faults}
use Rattle.derivations.specs.inner.Earlier.{term_from}
use Rattle.derivations.specs.Lines.{line_wants_memory}
use Rattle.derivations.specs.Steps.{term_of}
use Rattle.derivations.proofs.EarlierLaws.{faults-then, term-split, with-text}
use Rattle.derivations.proofs.line.term.Goals as goal

pub returns-in_err-term-clause-term : goal.returns-in_err-term-clause-term
returns-in_err-term-clause-term c =
    let e = c.in_err-term.field-0.0 in
    let text = c.in_ok-text.text.now in
    let split = term-split (tree_view c.args.value.now) (
      tree_view c.in_ok-vertex.vertex,
      tree_view c.in_ok-vertex.states,
    ) text c.in_ok-vertex.ensures c.in_ok-text.ensures in
    let fault : Faults (line_wants_memory e) e (term_of (tree_view c.args.value.now)) =
    subst (λ m. Faults (line_wants_memory e) e m) (sym split) (faults-then (line_wants_memory e) e
    (term_from text (tree_view c.in_ok-vertex.states)) (with-text text) c.in_err-term.ensures.term) in
    search rules

pub returns-clause-term : goal.returns-clause-term
returns-clause-term c =
    let text = c.in_ok-text.text.now in
    term-split (tree_view c.args.value.now) (
      tree_view c.in_ok-vertex.vertex,
      tree_view c.in_ok-vertex.states,
    ) text c.in_ok-vertex.ensures c.in_ok-text.ensures
    ∙ ap (λ r. r >>= with-text text) c.in_ok-term.ensures.term
