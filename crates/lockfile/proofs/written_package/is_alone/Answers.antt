use Rattle.lockfile.specs.inner.Views.{package_views}
use Rattle.lockfile.proofs.Alone.{alone-first, alone-last, alone-before}
use Rattle.lockfile.proofs.written_package.is_alone.Goals as goal

pub returns-then-place-eq0 : goal.returns-then-place-eq0
returns-then-place-eq0 c = alone-first c.args.wanted (package_views c.args.packages.now) c.args.place _
    c.if-place-eq0.true c.requires.ordered c.requires.wanted c.is_wanted_at-follows.ensures

pub returns-then-not-follows : goal.returns-then-not-follows
returns-then-not-follows c =
    alone-last c.args.wanted
    (package_views c.args.packages.now) c.args.place _ _ c.if-place-eq0.false c.requires.ordered c.requires.wanted
    c.is_wanted_at-follows.ensures c.is_wanted_at-precedes.ensures c.if-not-follows.true

pub returns-else-not-follows : goal.returns-else-not-follows
returns-else-not-follows c = alone-before c.args.wanted (package_views c.args.packages.now) c.args.place _
    c.if-place-eq0.false c.requires.ordered c.requires.wanted c.is_wanted_at-follows.ensures c.if-not-follows.false
