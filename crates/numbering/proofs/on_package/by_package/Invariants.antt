use Rattle.std.proofs.Common.{◌≡◌, ◌++◌, ℕ, List, drop}
use Rattle.std.specs.Borrow.{Bor}
use Rattle.features.specs.Views.{dependency_views}
use Rattle.numbering.specs.inner.Called.{numbered_from}
use Rattle.numbering.specs.inner.OnPackage.{on_in, on_package}
use Rattle.numbering.proofs.on_package.by_package.Given as goal

-- those on a package among the dependencies so far, with those among the ones that are left, are all
abbrev pub invariant-dependencies : goal.invariant-dependencies
invariant-dependencies l = (x : Bor (List ℕ)) →
    on_in l.on x ++ on_package x.now (numbered_from l.number (dependency_views (drop l.number l.dependencies)))
    ≡ on_package x.now (numbered_from 0 (dependency_views l.dependencies))
