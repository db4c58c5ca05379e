-- What references to the packages of a lock stand for.
use Rattle.std.specs.Prelude.{List, map}
use Rattle.std.specs.Borrow.{Bor}
use Rattle.model.specs.Content as model
use Rattle.lockfile.specs.inner.Views.{package_view}
use Rattle.lockfile.specs.declared.package.Package.{Package}

abbrev pub lent_views : List (Bor Package) → List model.Package
lent_views ps = map (λ p. package_view p.now) ps
