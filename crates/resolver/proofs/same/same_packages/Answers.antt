use Rattle.std.proofs.Common.{◌∙◌}
use Rattle.lockfile.specs.inner.Views.{package_view}
use Rattle.resolver.specs.inner.Same.{same_package}
use Rattle.resolver.proofs.Sameness.{place_by_place}
use Rattle.resolver.proofs.same.same_packages.Goals as goal

pub returns-then-a-b : goal.returns-then-a-b
returns-then-a-b c =
    c.all_same.ensures ∙ place_by_place package_view same_package c.args.a.now c.args.b.now c.if-a-b.true
