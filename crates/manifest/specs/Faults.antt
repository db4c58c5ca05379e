-- The faults of a manifest, and the words for its parts, for the sources that are unsupported and for the faults of its
-- features (Cargo book, "The Manifest Format", "Specifying Dependencies" and "Features").
use Rattle.std.specs.Prelude.{ℕ, List, Bool, true, false, codes}
use Rattle.features.specs.declared.table.FeatureFault.{FeatureFault}
use Rattle.features.specs.declared.table.FeatureFault.TheVariants as feature
use Rattle.manifest.specs.declared.fault.ManifestFault.{ManifestFault}
use Rattle.manifest.specs.declared.fault.ManifestFault.TheVariants.{OutOfMemory, TooLarge, NotToml, Shape}
use Rattle.manifest.specs.declared.fault.ManifestFault.TheVariants.{UnsupportedSource, BadRequirement, RootFeature}
use Rattle.manifest.specs.declared.fault.Part.{Part}
use Rattle.manifest.specs.declared.fault.Part.TheVariants as part
use Rattle.manifest.specs.declared.fault.TableFault.{TableFault}
use Rattle.manifest.specs.declared.fault.TableFault.TheVariants.{NoSuchFeature, NoSuchDependency, NotOptional}
use Rattle.manifest.specs.declared.fault.Unsupported.{Unsupported}
use Rattle.manifest.specs.declared.fault.Unsupported.TheVariants as source

abbrev pub wants_memory : ManifestFault → Bool
wants_memory OutOfMemory = true
wants_memory TooLarge = false
wants_memory NotToml = false
wants_memory (Shape p) = false
wants_memory (UnsupportedSource s) = false
wants_memory (BadRequirement name) = false
wants_memory (RootFeature fault f) = false

-- the name of a part: the key of its table
abbrev pub part_name : Part → List ℕ
part_name part.Package = codes "package"
part_name part.Dependencies = codes "dependencies"
part_name part.DevDependencies = codes "dev-dependencies"
part_name part.BuildDependencies = codes "build-dependencies"
part_name part.Target = codes "target"
part_name part.Features = codes "features"
part_name part.Workspace = codes "workspace"
part_name part.Patch = codes "patch"
part_name part.Replace = codes "replace"

-- the word for a source that is unsupported
abbrev pub source_name : Unsupported → List ℕ
source_name source.Patch = codes "Patch"
source_name source.Replace = codes "Replace"
source_name source.Workspace = codes "Workspace"
source_name source.Git = codes "Git"
source_name source.Path = codes "Path"
source_name source.Registry = codes "Registry"

-- the code of a fault of the features
abbrev pub table_fault_code : TableFault → List ℕ
table_fault_code NoSuchFeature = codes "F1"
table_fault_code NoSuchDependency = codes "F2"
table_fault_code NotOptional = codes "F3"

-- what a fault of the feature table is as a fault of the manifest
abbrev pub root_fault : FeatureFault → ManifestFault
root_fault feature.OutOfMemory = OutOfMemory
root_fault (feature.NoSuchFeature f) = RootFeature NoSuchFeature f
root_fault (feature.NoSuchDependency f) = RootFeature NoSuchDependency f
root_fault (feature.NotOptional f) = RootFeature NotOptional f
