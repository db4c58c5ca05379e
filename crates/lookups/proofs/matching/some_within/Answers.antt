use Rattle.std.proofs.Common.{◌∙◌}
use Rattle.semver.specs.EvalViews.{matches_views}
use Rattle.features.specs.Views.{requirement_view}
use Rattle.lookups.proofs.Narrowed.{same_any}
use Rattle.lookups.proofs.matching.some_within.Goals as goal

pub returns : goal.returns
returns c =
    c.some_matched.ensures ∙ same_any (matches_views (requirement_view c.args.requirement.now)) c.within.result.now
    c.args.versions.now c.within.ensures.matched
