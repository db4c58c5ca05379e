use Rattle.std.proofs.Common.{◌≡◌, ◌++◌, ℕ, List, drop}
use Rattle.std.specs.Borrow.{Bor}
use Rattle.features.specs.Views.{dependency_views}
use Rattle.numbering.specs.inner.Called.{called_in, called_so, numbered_from}
use Rattle.numbering.proofs.called.by_name.Given as goal

-- those called so among the dependencies so far, with those among the ones that are left, are all
abbrev pub invariant-dependencies : goal.invariant-dependencies
invariant-dependencies l = (x : Bor (List ℕ)) →
    called_in l.called x ++ called_so x.now (numbered_from l.number (dependency_views (drop l.number l.dependencies)))
    ≡ called_so x.now (numbered_from 0 (dependency_views l.dependencies))
