use Rattle.std.proofs.Common.{ap, ◌∷◌, ◌∙◌, true, false, map}
use Rattle.model.specs.Vertices.{dep}
use Rattle.model.specs.inner.Listed.{classes_if}
use Rattle.numbering.specs.inner.KnownProblem.{problem}
use Rattle.vertices.specs.inner.RefViews.{owner_ref_view}
use Rattle.numbering.proofs.Tested.{no_class_is}
use Rattle.numbering.proofs.tested_terms.absent.Goals as goal

pub returns-in_ok-lone-in-Some : goal.returns-in_ok-lone-in-Some
returns-in_ok-lone-in-Some c =
    let o = owner_ref_view c.args.owner in
    c.dependency_term.ensures ∙ ap (λ m. (dep o c.args.number, m)) (c.in_ok-lone-in-Some.ensures
    ∙ ap (λ ks. true ∷ map (λ k. false) ks) (ap (classes_if (problem c.args.known.now)) c.in-Some.ensures)
    ∙ no_class_is (problem c.args.known.now) o c.args.number)
