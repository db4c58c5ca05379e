use Rattle.std.proofs.Common.{refl, ap, ◌∙◌}
use Rattle.features.specs.Views.{dependency_view}
use Rattle.classes.specs.Classes.{class_view}
use Rattle.model.specs.Vertices.{pkg}
use Rattle.numbering.proofs.Tested.{left_at}
use Rattle.numbering.proofs.tested_terms.left.Goals as goal

pub returns : goal.returns
returns c =
    let held = c.args.known.now.problem in
    let d = dependency_view c.args.dependency.now in
    c.package_term.ensures ∙ ap (λ m. (pkg d.real_name (class_view c.args.class), m))
    ((rw c.deref.ensures at c.in_ok-tests.ensures)
    ∙ left_at held.manifest.now held.catalogue.now d (class_view c.args.class) (class_view c.args.class)
    c.class_versions-versions.result.now refl c.class_versions-versions.ensures.versions)
