use Rattle.std.proofs.Common.{◌∙◌, sym}
use Rattle.features.specs.Views.{requirement_view}
use Rattle.lookups.proofs.Convex.{range_is}
use Rattle.lookups.proofs.narrowing.matched_range.Goals as goal

pub returns : goal.returns
returns c =
    let cs = requirement_view c.args.requirement.now in
    let vs = c.args.versions.now in
    range_is cs vs c.before_first-first.result c.up_to_last-count.result c.requires.rising
    c.before_first-first.ensures.few c.before_first-first.ensures.before
    (λ l. (
      sym c.is_whole.ensures ∙ c.if-not-is_whole.false,
      (c.requires.releases, c.before_first-first.ensures.first l),
    ))
    c.up_to_last-count.ensures.few c.up_to_last-count.ensures.after c.up_to_last-count.ensures.last
