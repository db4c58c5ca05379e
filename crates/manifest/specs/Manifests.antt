-- What a manifest says: a function of its bytes, or the first fault (Cargo book, "The Manifest Format", "Specifying
-- Dependencies" and "Features").
use Rattle.std.specs.Prelude.{ℕ, Bool, true, false, not, ◌||◌, List, [], ◌∷◌, map, Option, Result}
use Rattle.std.specs.Prelude.{Ok, length, nat_le}
use Rattle.std.specs.List.{list_any, flat_map}
use Rattle.std.specs.Option.{ok_or, option_map_or}
use Rattle.std.specs.Result.{result_ok, result_map_both}
use Rattle.toml.specs.Data.{Members}
use Rattle.toml.specs.Parse.{parse_document}
use Rattle.semver.specs.Parse.{Parts, req_of}
use Rattle.model.specs.Outcome.{◌>>=◌, guard}
use Rattle.model.specs.Content.{of_utf8}
use Rattle.model.specs.Summary.{Dependency, Summary, Entry, dependency_feature, weak_feature}
use Rattle.model.specs.Summary.{Table}
use Rattle.model.specs.Tables.{DepName, TableFault, no_such_feature, no_such_dependency, not_optional, table_of}
use Rattle.manifest.specs.Dependencies.{DependencyShapeView}
use Rattle.manifest.specs.Shapes.{shape_of}
use Rattle.manifest.specs.declared.fault.ManifestFault.{ManifestFault}
use Rattle.manifest.specs.declared.fault.ManifestFault.TheVariants.{TooLarge, NotToml, UnsupportedSource}
use Rattle.manifest.specs.declared.fault.ManifestFault.TheVariants.{BadRequirement, RootFeature}
use Rattle.manifest.specs.declared.fault.TableFault.TheVariants.{NoSuchFeature, NoSuchDependency, NotOptional}
use Rattle.manifest.specs.declared.fault.Unsupported.{Unsupported}
use Rattle.manifest.specs.declared.fault.Unsupported.TheVariants.{Patch, Replace, Workspace, Git, Path, Registry}

-- what a manifest says of its package, and what the package brings
pub record ManifestView : Type 0 where
  pub name : List ℕ
  pub version : Parts
  pub rust_version : Option (ℕ × ℕ × ℕ)
  pub brings : Summary

-- ---- sources that are unsupported

abbrev pub same_source : Unsupported → Unsupported → Bool
same_source Patch Patch = true
same_source Replace Replace = true
same_source Workspace Workspace = true
same_source Git Git = true
same_source Path Path = true
same_source Registry Registry = true
same_source a b = false

-- some dependency is from this source
abbrev pub uses : Unsupported → List DependencyShapeView → Bool
uses s ds = list_any (λ d. option_map_or (same_source s) d.unsupported false) ds

-- no workspace has members, and each dependency is from the registry; or the first source, in this order, that isn't
unfoldable pub sources_allowed : Bool → List DependencyShapeView → Result (Unit {0}) ManifestFault
sources_allowed has_members ds = do
  alone ← guard (not (has_members || uses Workspace ds)) (UnsupportedSource Workspace)
  no_git ← guard (not (uses Git ds)) (UnsupportedSource Git)
  no_path ← guard (not (uses Path ds)) (UnsupportedSource Path)
  guard (not (uses Registry ds)) (UnsupportedSource Registry)

-- ---- requirements

-- a dependency with its requirement read
unfoldable pub dependency_with : DependencyShapeView → Result Dependency ManifestFault
dependency_with d = do
  requirement ← ok_or (result_ok (req_of d.text)) (BadRequirement (d.parts).name)
  Ok (record (d.parts) { requirement = requirement })

-- the dependencies by number, with their requirements read
unfoldable pub dependencies_of : List DependencyShapeView → Result (List Dependency) ManifestFault
dependencies_of [] = Ok []
dependencies_of (d ∷ ds) = do
  first ← dependency_with d
  others ← dependencies_of ds
  Ok (first ∷ others)

-- ---- features

-- what the manifest calls a dependency
abbrev pub dep_name : Dependency → DepName
dep_name d = record { name = d.name; optional = d.optional }

-- what is wrong with the feature table, as a fault of the manifest
abbrev pub fault_as : TableFault → List ℕ → ManifestFault
fault_as no_such_feature f = RootFeature NoSuchFeature f
fault_as no_such_dependency f = RootFeature NoSuchDependency f
fault_as not_optional f = RootFeature NotOptional f

-- the feature table of the root: of all its dependencies, dev ones too, and of the features that it writes
abbrev pub features_with : List Dependency → Table → Result Table ManifestFault
features_with ds written = result_map_both (λ t. t) (λ e. fault_as e.0 e.1) (table_of (map dep_name ds) written)

-- what an entry `d/g` or `d?/g` asks of each dependency called d: all dependencies of the root are enabled
abbrev pub asked_by : Entry → List (List ℕ × List ℕ)
asked_by (dependency_feature d g) = (d, g) ∷ []
asked_by (weak_feature d g) = (d, g) ∷ []
asked_by _ = []

-- what the root asks of its dependencies by its features, in the order of the table
abbrev pub root_asks : Table → List (List ℕ × List ℕ)
root_asks table = flat_map (λ row. flat_map asked_by row.1) table

-- ---- the whole

-- the table that the bytes are
abbrev pub table_of_bytes : List ℕ → Result Members ManifestFault
table_of_bytes bytes = ok_or (of_utf8 parse_document bytes) NotToml

-- what a table says as a manifest
unfoldable pub manifest_of : Members → Result ManifestView ManifestFault
manifest_of top = do
  shape ← shape_of top
  unpatched ← guard (not shape.patches) (UnsupportedSource Patch)
  unreplaced ← guard (not shape.replaces) (UnsupportedSource Replace)
  own ← ok_or shape.own (UnsupportedSource Workspace)
  allowed ← sources_allowed shape.has_members shape.dependencies
  dependencies ← dependencies_of shape.dependencies
  features ← features_with dependencies shape.features
  Ok (record {
    name = own.name;
    version = own.version;
    rust_version = own.rust_version;
    brings = record { dependencies = dependencies; features = features };
  })

-- a manifest has at most 1 MiB
abbrev pub limit : ℕ
limit = 1048576

-- what bytes say as a manifest
unfoldable pub manifest_of_bytes : List ℕ → Result ManifestView ManifestFault
manifest_of_bytes bytes = do
  small ← guard (nat_le (length bytes) limit) TooLarge
  top ← table_of_bytes bytes
  manifest_of top
