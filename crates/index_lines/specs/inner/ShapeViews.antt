-- What the borrowed structs of a line stand for (Cargo book, "Registry Index").
use Rattle.std.specs.Prelude.{List, option_map, map}
use Rattle.classes.specs.Classes.{rust_version_view}
use Rattle.features.specs.Views.{text_views}
use Rattle.index_lines.specs.Shapes.{FeatureView, ValuesView, PartView, DependencyView, dev, part, ShapeView}
use Rattle.trees.specs.Trees.{tree_view}
use Rattle.index_lines.specs.inner.PartMembers.{LineValuesView}
use Rattle.index_lines.specs.declared.parts.DependencyValues.{DependencyValues}
use Rattle.index_lines.specs.declared.parts.LineValues.{LineValues}
use Rattle.index_lines.specs.declared.shape.FeatureShape.{FeatureShape}
use Rattle.index_lines.specs.declared.shape.PartShape.{PartShape}
use Rattle.index_lines.specs.declared.shape.DependencyShape.{DependencyShape}
use Rattle.index_lines.specs.declared.shape.DependencyShape.TheVariants.{Dev, Part}
use Rattle.index_lines.specs.declared.shape.LineShape.{LineShape}

abbrev pub feature_view : FeatureShape → FeatureView
feature_view f = record { name = f.name.now; entries = text_views f.entries.items }

abbrev pub feature_views : List FeatureShape → List FeatureView
feature_views fs = map feature_view fs

abbrev pub part_view : PartShape → PartView
part_view p = record {
  name = p.name;
  real_name = p.real_name;
  requirement = p.requirement.now;
  optional = p.optional;
  default_features = p.default_features;
  features = text_views p.features.items;
  registry = option_map (λ s. s.now) p.registry;
}

abbrev pub line_dependency_view : DependencyShape → DependencyView
line_dependency_view (Dev name) = dev name
line_dependency_view (Part p) = part (part_view p)

abbrev pub line_dependency_views : List DependencyShape → List DependencyView
line_dependency_views ds = map line_dependency_view ds

abbrev pub shape_view : LineShape → ShapeView
shape_view s = record {
  name = s.name.now;
  version = s.version.now;
  checksum = s.checksum.now;
  dependencies = line_dependency_views s.dependencies.items;
  features = feature_views s.features.items;
  features2 = feature_views s.features2.items;
  yanked = s.yanked;
  format = s.format;
  rust_version = option_map rust_version_view s.rust_version;
}

abbrev pub values_view : DependencyValues → ValuesView
values_view v = record {
  name_value = option_map tree_view v.name;
  kind_value = option_map tree_view v.kind;
  package_value = option_map tree_view v.package;
  requirement_value = option_map tree_view v.requirement;
  optional_value = option_map tree_view v.optional;
  default_features_value = option_map tree_view v.default_features;
  features_value = option_map tree_view v.features;
  registry_value = option_map tree_view v.registry;
}

abbrev pub line_values_view : LineValues → LineValuesView
line_values_view v = record {
  name_value = option_map tree_view v.name;
  version_value = option_map tree_view v.version;
  checksum_value = option_map tree_view v.checksum;
  dependencies_value = option_map tree_view v.dependencies;
  features_value = option_map tree_view v.features;
  features2_value = option_map tree_view v.features2;
  yanked_value = option_map tree_view v.yanked;
  format_value = option_map tree_view v.format;
  rust_version_value = option_map tree_view v.rust_version;
}
