use Rattle.std.proofs.Common.{◌≡◌, take}
use Rattle.features.specs.inner.Tables.{dep_names_view}
use Rattle.index_lines.specs.inner.ShapeViews.{line_dependency_views}
use Rattle.index_lines.specs.Records.{dep_names_of}
use Rattle.index_lines.proofs.written.dep_names.Given as goal

-- the names so far are those of the dependencies so far
abbrev pub invariant-dependencies : goal.invariant-dependencies
invariant-dependencies l =
    dep_names_view l.found.items ≡ dep_names_of (line_dependency_views (take l.dependency-index l.dependencies))
