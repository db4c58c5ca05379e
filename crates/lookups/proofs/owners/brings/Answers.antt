use Rattle.std.proofs.Common.{◌∙◌, sym, ap}
use Rattle.semver.specs.Identifiers.{parts_of}
use Rattle.model.specs.Vertices.{owner_brings}
use Rattle.catalogue.specs.Stores.{said_by}
use Rattle.lookups.specs.inner.Views.{problem_view}
use Rattle.features.specs.Views.{brings_view}
use Rattle.vertices.specs.inner.RefViews.{owner_ref_view}
use Rattle.lookups.proofs.Brought.{not_there, is_there}
use Rattle.lookups.proofs.owners.brings.Goals as goal

pub returns-in_err-candidate-in-Version : goal.returns-in_err-candidate-in-Version
returns-in_err-candidate-in-Version c =
    let k = c.args.problem.now in
    let n = c.in-Version.name.now in
    let v = parts_of c.in-Version.version.now in
    ap brings_view c.from_residual.ensures
    ∙ not_there k.catalogue.now k.manifest.now n v c.in_err-candidate-in-Version.ensures
    ∙ ap (λ o. owner_brings (problem_view k) (owner_ref_view o)) (sym c.in-Version.is)

pub returns-in_ok-candidate-in-Version : goal.returns-in_ok-candidate-in-Version
returns-in_ok-candidate-in-Version c =
    let k = c.args.problem.now in
    let n = c.in-Version.name.now in
    let v = parts_of c.in-Version.version.now in
    is_there k.catalogue.now k.manifest.now n v
    (said_by c.in_ok-candidate-in-Version.candidate.now) c.in_ok-candidate-in-Version.ensures
    ∙ ap (λ o. owner_brings (problem_view k) (owner_ref_view o)) (sym c.in-Version.is)
