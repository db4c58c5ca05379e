use Rattle.std.proofs.Common.{◌∙◌, ◌++◌}
use Rattle.features.specs.Views.{dependency_view}
use Rattle.axioms.proofs.Spaces.{classes_full}
use Rattle.checker.proofs.space.has_matched.Goals as goal

pub returns : goal.returns
returns c =
    let k = c.args.problem.now in
    (rw c.deref.ensures at c.has_matching.ensures) ∙ classes_full k.manifest.now k.catalogue.now
    (dependency_view c.args.dependency.now) (c.args.a.now ++ c.args.b.now)
    c.versions.result.now c.versions.ensures.versions
