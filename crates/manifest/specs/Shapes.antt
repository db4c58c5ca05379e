-- The shape of a manifest: what its tables say before requirements are read, part by part (Cargo book, "The Manifest
-- Format" and "Features").
use Rattle.std.specs.Prelude.{ℕ, Bool, List, [], ◌∷◌, ◌++◌, Option, Ok, codes, option_map}
use Rattle.toml.specs.Data.{Data, as_array, get_member, Items, no_items, item, Members}
use Rattle.model.specs.Outcome.{◌>>=◌}
use Rattle.model.specs.Summary.{Entry, dependency_feature, weak_feature, Table}
use Rattle.features.specs.Names.{entry_of}
use Rattle.manifest.specs.Values.{Shaped, wanted, or_absent, each_member, text_of, table_of, feature_name_of}
use Rattle.manifest.specs.Packages.{PackageView, package_of, workspace_of, is_written}
use Rattle.manifest.specs.Dependencies.{DependencyShapeView, sections_of, targets_of}
use Rattle.manifest.specs.declared.fault.Part.TheVariants as part
use Rattle.manifest.specs.declared.section.SectionPlace.TheVariants.{Top}

-- the root counts with all its dependencies, so in a manifest `d?/g` says what `d/g` does
abbrev pub strong : Entry → Entry
strong (weak_feature d g) = dependency_feature d g
strong e = e

-- the entries of a feature
unfoldable pub entries_in : Items → Shaped (List Entry)
entries_in no_items = Ok []
entries_in (item d ds) = do
  text ← text_of part.Features d
  first ← wanted part.Features (option_map strong (entry_of text))
  others ← entries_in ds
  Ok (first ∷ others)

-- a feature with its entries
unfoldable pub feature_of : List ℕ → Data → Shaped (List ℕ × List Entry)
feature_of key d = do
  name ← feature_name_of part.Features key
  items ← wanted part.Features (as_array d)
  entries ← entries_in items
  Ok (name, entries)

-- `[features]`
abbrev pub features_of : Members → Shaped Table
features_of top =
    or_absent [] (λ d. table_of part.Features d >>= each_member feature_of) (get_member (codes "features") top)

-- the dependencies by number: those at the top, then those of the targets
unfoldable pub all_dependencies : Members → Shaped (List DependencyShapeView)
all_dependencies top = do
  at_top ← sections_of Top top
  targets ← targets_of top
  Ok (at_top ++ targets)

pub record ShapeView : Type 0 where
  -- none where its name or version is left to a workspace, or where it is absent beside a workspace with members
  pub own : Option PackageView
  -- by number
  pub dependencies : List DependencyShapeView
  -- the features that are written
  pub features : Table
  -- the workspace has members
  pub has_members : Bool
  -- there are patches
  pub patches : Bool
  -- there are replacements
  pub replaces : Bool

-- the shape of a manifest, or the first part that has another one
unfoldable pub shape_of : Members → Shaped ShapeView
shape_of top = do
  own ← package_of top
  dependencies ← all_dependencies top
  features ← features_of top
  has_members ← workspace_of top
  patches ← is_written part.Patch (codes "patch") top
  replaces ← is_written part.Replace (codes "replace") top
  Ok (record {
    own = own;
    dependencies = dependencies;
    features = features;
    has_members = has_members;
    patches = patches;
    replaces = replaces;
  })
