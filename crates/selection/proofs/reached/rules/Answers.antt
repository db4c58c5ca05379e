use Rattle.std.proofs.Common.{◌++◌, ◌∙◌, sym, ap}
use Rattle.lockfile.specs.inner.Views.{package_view, package_views}
use Rattle.lockfile.specs.declared.package.Package as code
use Rattle.selection.specs.inner.Places.{rules_at}
use Rattle.selection.proofs.Reaching.{rules_step}
use Rattle.selection.proofs.Seconds.{view_at}
use Rattle.selection.proofs.reached.rules.Goals as goal

pub places-preserved : goal.places-preserved
places-preserved c =
    rules_step c.places.at (package_views c.args.content.now) (package_view c.index-content-at.result)
    (view_at c.args.content.now c.places.at c.index-content-at.result c.places-test.true (sym c.index-content-at.is))
    c.places.rules.items c.add_rules.new.rules.items c.places.invariant
    (c.in_ok-add_rules.ensures ∙ ap (λ l. c.places.rules.items ++ rules_at c.places.at l) c.as_slice.ensures.value ∙ ap
    (λ (x : code.Package). c.places.rules.items ++ rules_at c.places.at x.list.items) (sym c.index-content-at.is))
