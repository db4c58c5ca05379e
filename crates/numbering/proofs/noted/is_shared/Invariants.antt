use Rattle.std.proofs.Common.{◌≡◌, ◌≤◌, ℕ, true, Some, slice_get}
use Rattle.features.specs.Views.{dependency_views}
use Rattle.model.specs.Summary.{Dependency}
use Rattle.numbering.specs.inner.OnPackage.{is_other}
use Rattle.numbering.proofs.noted.is_shared.Given as goal

-- another one on the package is one of those that are left
abbrev pub invariant-dependencies : goal.invariant-dependencies
invariant-dependencies l = (j : ℕ) (e : Dependency) → slice_get (dependency_views l.dependencies) j ≡ Some e
    → is_other l.number l.name j e ≡ true → l.place ≤ j
