use Rattle.std.proofs.Common.{◌∙◌, find, ap, arith}
use Rattle.std.proofs.lemmas.List.{take_rest}
use Rattle.lockfile.specs.inner.Views.{package_view}
use Rattle.numbering.specs.inner.KnownProblem.{problem}
use Rattle.guiding.specs.inner.Found.{is_sourceless}
use Rattle.guiding.proofs.Named.{find_past, lower_is_sourced}
use Rattle.guiding.proofs.in_content.root_in.Goals as goal

pub returns : goal.returns
returns c =
    let content = c.args.content.now in
    c.first_sourceless.ensures ∙ ap (find (λ p. is_sourceless (package_view p))) (take_rest content c.lower.result)
    ∙ find_past (λ p. is_sourceless (package_view p)) content c.lower.result c.lower.ensures.few
    (λ k e l u. lower_is_sourced (problem c.args.known.now) content c.requires k e
    (omega (arith, u, c.lower.ensures.few)) (rw c.name.ensures at c.lower.ensures.place.0 k e l u))
