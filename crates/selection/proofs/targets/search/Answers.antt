use Rattle.std.proofs.Common.{◌-◌, arith, sym, ◌∙◌}
use Rattle.features.specs.Views.{dependency_view}
use Rattle.lockfile.specs.inner.Views.{package_views}
use Rattle.selection.proofs.TargetSearch.{last_serves, last_fails, none_after, none_before}
use Rattle.selection.proofs.targets.search.Goals as goal

pub places-init : goal.places-init
places-init c = record {
  within = c.requires.after;
  told = none_after (package_views c.args.content.now)
      (dependency_view c.args.dependency.now) c.args.list.now c.args.after c.requires.behind;
}

pub returns-then-serves_at : goal.returns-then-serves_at
returns-then-serves_at c =
    last_serves (package_views c.args.content.now) (dependency_view c.args.dependency.now) c.args.list.now
    (c.places.left - 1) c.places.left (omega (arith, c.places-test.true)) c.places.invariant.within
    (sym c.serves_at.ensures ∙ c.if-serves_at.true)
    ∙ c.places.invariant.told

pub places-preserved : goal.places-preserved
places-preserved c = record {
  within = omega (arith, c.places.invariant.within);
  told = last_fails (package_views c.args.content.now) (dependency_view c.args.dependency.now) c.args.list.now
      (c.places.left - 1) c.places.left (omega (arith, c.places-test.true)) c.places.invariant.within
      (sym c.serves_at.ensures ∙ c.if-serves_at.false)
      ∙ c.places.invariant.told;
}

pub returns : goal.returns
returns c =
    sym (none_before (package_views c.args.content.now)
    (dependency_view c.args.dependency.now) c.args.list.now c.places.left c.places.invariant.within
    (λ k e l u. c.requires.before k e l (omega (arith, u, c.places-test.false))))
    ∙ c.places.invariant.told
