use Rattle.std.proofs.Common.{◌∙◌, ap, not}
use Rattle.features.specs.Views.{dependency_view}
use Rattle.lookups.proofs.Versions.{matched_is}
use Rattle.lookups.proofs.matching.is_unmatched.Goals as goal

pub returns : goal.returns
returns c =
    ap not ((rw c.deref.ensures at c.some_within.ensures) ∙ matched_is c.args.problem.now.catalogue.now
    (dependency_view c.args.dependency.now) c.versions-versions.result.now c.versions-versions.ensures.versions)
