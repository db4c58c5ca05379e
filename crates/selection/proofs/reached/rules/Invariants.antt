use Rattle.std.proofs.Common.{◌≡◌, take}
use Rattle.lockfile.specs.inner.Views.{package_views}
use Rattle.selection.specs.inner.Places.{rules_from}
use Rattle.selection.proofs.reached.rules.Given as goal

-- the rules of the packages so far
abbrev pub invariant-places : goal.invariant-places
invariant-places l = l.rules.items ≡ rules_from 0 (take l.at (package_views l.content))
