-- What the borrowed structs of a manifest's shape stand for, without where they lie in memory.
use Rattle.std.specs.Prelude.{List, [], map, option_map}
use Rattle.semver.specs.Identifiers.{parts_of}
use Rattle.classes.specs.Classes.{rust_version_view}
use Rattle.features.specs.inner.Tables.{rows_of}
use Rattle.manifest.specs.Packages.{PackageView}
use Rattle.manifest.specs.Dependencies.{DependencyShapeView}
use Rattle.manifest.specs.Shapes.{ShapeView}
use Rattle.manifest.specs.declared.dependency.DependencyShape.{DependencyShape}
use Rattle.manifest.specs.declared.package.Package.{Package}
use Rattle.manifest.specs.declared.shape.Shape.{Shape}

abbrev pub dependency_view : DependencyShape → DependencyShapeView
dependency_view d = record {
  parts = record {
    name = d.name;
    real_name = d.real_name;
    requirement = [];
    optional = d.optional;
    default_features = d.default_features;
    features = d.features.items;
  };
  text = d.requirement.now;
  unsupported = d.unsupported;
}

abbrev pub dependency_views : List DependencyShape → List DependencyShapeView
dependency_views ds = map dependency_view ds

abbrev pub package_view : Package → PackageView
package_view p =
    record { name = p.name; version = parts_of p.version; rust_version = option_map rust_version_view p.rust_version }

abbrev pub shape_view : Shape → ShapeView
shape_view s = record {
  own = option_map package_view s.own;
  dependencies = dependency_views s.dependencies.items;
  features = rows_of s.features.entries;
  has_members = s.has_members;
  patches = s.patches;
  replaces = s.replaces;
}
