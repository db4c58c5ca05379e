use Rattle.std.proofs.Common.{ap, ◌∷◌, ◌∙◌, false, map, sym}
use Rattle.classes.specs.Classes.{class_view}
use Rattle.model.specs.Vertices.{dep}
use Rattle.model.specs.inner.Listed.{classes_if}
use Rattle.numbering.specs.inner.KnownProblem.{problem}
use Rattle.numbering.specs.inner.TestedTerms.{is_class}
use Rattle.vertices.specs.inner.RefViews.{owner_ref_view}
use Rattle.numbering.proofs.Tested.{class_is}
use Rattle.numbering.proofs.tested_terms.leads_to.Goals as goal

pub returns : goal.returns
returns c =
    let o = owner_ref_view c.args.owner in
    let k = class_view c.args.class in
    c.dependency_term.ensures ∙ ap (λ m. (dep o c.args.number, m)) (c.in_ok-lone.ensures
    ∙ ap (λ ks. false ∷ map (is_class k) ks) (ap (classes_if (problem c.args.known.now)) (sym c.requires))
    ∙ class_is (problem c.args.known.now) o c.args.number k)
