use Rattle.std.proofs.Common.{◌≡◌, sym, subst, ◌∙◌}
use Rattle.trees.specs.Trees.{tree_view}
use Rattle.model.proofs.Same.{text-same}
use Rattle.vertices.specs.Texts.{vertex_text}
use Rattle.derivations.specs.inner.Earlier.{AreWritten}
use Rattle.derivations.specs.inner.Tables.{states_at, term_at, vertex_at}
use Rattle.derivations.proofs.EarlierLaws.{same-unless, term-known}
use Rattle.derivations.proofs.earlier.known.Goals as goal

pub returns-then-are_written-clause-term : goal.returns-then-are_written-clause-term
returns-then-are_written-clause-term c =
    let t = c.args.tables.now in
    let equal = same-unless _ (sym c.if-ne.false ∙ c.ne.ensures) in
    let same : c.args.text.now ≡ vertex_text (vertex_at t c.args.term.now.vertex) =
    sym (text-same c.vertex_text.result.now c.args.text.now equal) ∙ c.vertex_text.ensures in
    let written = subst (λ ns. AreWritten (tree_view c.args.states.now) (states_at t ns)) c.set.ensures
    (c.are_written.ensures c.if-are_written.true) in
    term-known (term_at t c.args.term.now) c.args.text.now (tree_view c.args.states.now) same written c.requires.reads
