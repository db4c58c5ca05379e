use Rattle.std.proofs.Common.{◌≡◌, take, map}
use Rattle.features.specs.inner.Tables.{dep_names_view}
use Rattle.features.specs.Views.{dependency_views}
use Rattle.manifest.specs.Manifests.{dep_name}
use Rattle.manifest.proofs.root_features.dep_names.Given as goal

-- the names so far are those of the dependencies so far
abbrev pub invariant-dependencies : goal.invariant-dependencies
invariant-dependencies l =
    dep_names_view l.names.items ≡ map dep_name (dependency_views (take l.dependency-index l.fn.dependencies))
