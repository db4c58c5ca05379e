use Rattle.std.proofs.Common.{◌≡◌, ◌<◌, ℕ, Some, false, slice_get}
use Rattle.model.specs.Content.{Package, is_root}
use Rattle.lockfile.specs.inner.Views.{package_views}
use Rattle.catalogue.specs.Problems.{problem_in}
use Rattle.catalogue.specs.Stores.{CatalogueView}
use Rattle.selection.proofs.roots.root_of.Given as goal

-- no package so far is the root
abbrev pub invariant-places : goal.invariant-places
invariant-places l = (index : CatalogueView) (k : ℕ) (p : Package) → k < l.at
    → slice_get (package_views l.content) k ≡ Some p → is_root (problem_in l.manifest index) p ≡ false
