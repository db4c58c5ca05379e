-- What is wrong with a part of a manifest, and of which fault that is (Cargo book, "The Manifest Format", "Specifying
-- Dependencies" and "Features").
use Rattle.std.specs.Prelude.{ℕ, Bool, true, false, not, if◌then◌else◌, List, [], ◌∷◌, Option, Some, None}
use Rattle.std.specs.Prelude.{codes, is_err, is_some, is_none, option_copied, option_and_then}
use Rattle.toml.specs.Data.{Data, as_str, as_bool, as_array}
use Rattle.toml.specs.Data.{as_table, get, at, get_member, Members, no_members, member}
use Rattle.toml.specs.Text.{has_items}
use Rattle.semver.specs.Parse.{version_parts, req_of}
use Rattle.model.specs.Summary.{same_text, Entry, feature, dependency, dependency_feature, weak_feature}
use Rattle.features.specs.Names.{entry_of, is_package_name, is_feature_name}
use Rattle.tables.specs.Rows.{has_rows}
use Rattle.manifest.specs.Values.{has_key}
use Rattle.manifest.specs.Packages.{is_inherited}
use Rattle.manifest.specs.Dependencies.{unsupported_in}
use Rattle.manifest.specs.Manifests.{same_source}
use Rattle.manifest.specs.declared.fault.ManifestFault.{ManifestFault}
use Rattle.manifest.specs.declared.fault.ManifestFault.TheVariants as fault
use Rattle.manifest.specs.declared.fault.Part.{Part}
use Rattle.manifest.specs.declared.fault.Part.TheVariants as part
use Rattle.manifest.specs.declared.fault.TableFault.{TableFault}
use Rattle.manifest.specs.declared.fault.TableFault.TheVariants as table_fault
use Rattle.manifest.specs.declared.fault.Unsupported.{Unsupported}
use Rattle.manifest.specs.declared.fault.Unsupported.TheVariants as source
use Rattle.manifest_faults.specs.inner.Places.{twin_at}
use Rattle.manifest_faults.specs.declared.place.Place.{Place}
use Rattle.manifest_faults.specs.declared.why.Kind.{Kind}
use Rattle.manifest_faults.specs.declared.why.Kind.TheVariants as kind
use Rattle.manifest_faults.specs.declared.why.Sort.{Sort}
use Rattle.manifest_faults.specs.declared.why.Sort.TheVariants as sort
use Rattle.manifest_faults.specs.declared.why.Why.{Why}
use Rattle.manifest_faults.specs.declared.why.Why.TheVariants as why

abbrev pub on_some : {A : Type 0} → (A → Bool) → Option A → Bool
on_some test None = false
on_some test (Some a) = test a

-- ---- what a value isn't

-- a table that says neither a version nor another source
abbrev pub lacks_source : Members → Bool
lacks_source t = if has_key (codes "workspace") t then false
    else if has_key (codes "version") t then false
    else is_none (unsupported_in t)

abbrev pub is_table : Data → Bool
is_table d = is_some (as_table d)

abbrev pub is_text : Data → Bool
is_text d = is_some (as_str d)

-- a value isn't what it has to be
abbrev pub is_not : Kind → Data → Bool
is_not kind.Table d = not (is_table d)
is_not kind.Dependency d = if is_text d then false else not (is_table d)
is_not kind.Sourced d = on_some lacks_source (as_table d)
is_not kind.Text d = not (is_text d)
is_not kind.OwnText d = if is_text d then false else not (is_inherited (as_table d))
is_not kind.Flag d = is_none (as_bool d)
is_not kind.List d = is_none (as_array d)

abbrev pub no_asked_feature : List ℕ → Bool
no_asked_feature [] = false
no_asked_feature (b ∷ bs) = not (is_feature_name (b ∷ bs))

-- a text isn't what it has to be
abbrev pub is_no : Sort → List ℕ → Bool
is_no sort.PackageName text = not (is_package_name text)
is_no sort.FeatureName text = not (is_feature_name text)
is_no sort.AskedFeature text = no_asked_feature text
is_no sort.Version text = is_err (version_parts text)
is_no sort.Requirement text = is_err (req_of text)
is_no sort.Entry text = is_none (entry_of text)

-- ---- dependencies

-- a dependency that another source than the registry is asked for first
abbrev pub is_source : Unsupported → Option Unsupported → Bool
is_source s None = false
is_source s (Some t) = same_source s t

abbrev pub is_foreign : Unsupported → Members → Bool
is_foreign s t = if has_key (codes "workspace") t then false else is_source s (unsupported_in t)

abbrev pub is_on : Option Bool → Bool
is_on None = false
is_on (Some b) = b

abbrev pub is_dev : List ℕ → Bool
is_dev section =
    if same_text section (codes "dev-dependencies") then true else same_text section (codes "dev_dependencies")

-- ---- what the manifest calls dependencies

abbrev pub is_optional : Data → Bool
is_optional d = is_on (option_and_then as_bool (get (codes "optional") d))

-- what a dependency that is optional, or any one, has to be
abbrev pub passes : Bool → Data → Bool
passes true d = is_optional d
passes false d = true

abbrev pub has_in : Bool → List ℕ → List ℕ → Members → Bool
has_in optional name section t = on_some (passes optional) (option_and_then (get name) (get_member section t))

-- a dependency of a table is called so
abbrev pub has_among : Bool → List ℕ → Members → Bool
has_among optional name t = if has_in optional name (codes "dependencies") t then true
    else if has_in optional name (codes "dev-dependencies") t then true
    else if has_in optional name (codes "dev_dependencies") t then true
    else if has_in optional name (codes "build-dependencies") t then true
    else has_in optional name (codes "build_dependencies") t

-- a dependency of a target is called so
unfoldable pub has_in_targets : Bool → List ℕ → Members → Bool
has_in_targets optional name no_members = false
has_in_targets optional name (member target d rest) =
    if on_some (has_among optional name) (as_table d) then true else has_in_targets optional name rest

abbrev pub has_in_target : Bool → List ℕ → Members → Bool
has_in_target optional name top =
    on_some (has_in_targets optional name) (option_and_then as_table (get_member (codes "target") top))

-- a dependency of the manifest is called so, an optional one if that is asked
abbrev pub is_called : Bool → List ℕ → Members → Bool
is_called optional name top = if has_among optional name top then true else has_in_target optional name top

-- ---- entries of features

-- `[features]` has the feature, or it is `default`
abbrev pub is_written : List ℕ → Members → Bool
is_written g top = if same_text g (codes "default") then true
    else is_some (option_and_then (get g) (get_member (codes "features") top))

-- the feature that an entry is
abbrev pub feature_in : Entry → Option (List ℕ)
feature_in (feature g) = Some g
feature_in (dependency d) = None
feature_in (dependency_feature d g) = None
feature_in (weak_feature d g) = None

-- the dependency that an entry `dep:d` names, and that any entry names
abbrev pub dependency_in : Entry → Option (List ℕ)
dependency_in (feature g) = None
dependency_in (dependency d) = Some d
dependency_in (dependency_feature d g) = None
dependency_in (weak_feature d g) = None

abbrev pub named_in : Entry → Option (List ℕ)
named_in (feature g) = None
named_in (dependency d) = Some d
named_in (dependency_feature d g) = Some d
named_in (weak_feature d g) = Some d

-- a feature that isn't there, nor is the implicit one of an optional dependency
abbrev pub is_unknown : Members → List ℕ → Bool
is_unknown top g = if is_written g top then false else not (is_called true g top)

abbrev pub is_no_feature : Members → Option Entry → Bool
is_no_feature top e = on_some (is_unknown top) (option_and_then feature_in e)

abbrev pub is_dependency : Option Entry → List ℕ → Bool
is_dependency e g = on_some (same_text g) (option_and_then dependency_in e)

abbrev pub entry_in : Option Data → Option Entry
entry_in d = option_and_then entry_of (option_and_then as_str d)

-- a feature that isn't there, and that the given entry, if it is `dep:g`, keeps from being an implicit one
abbrev pub is_taken_by : Members → Option Entry → List ℕ → Bool
is_taken_by top by g = if is_written g top then false else is_dependency by g

abbrev pub is_taken : Members → Option Entry → Option Entry → Bool
is_taken top by e = on_some (is_taken_by top by) (option_and_then feature_in e)

-- no dependency is called so, no optional one if that is asked
abbrev pub is_uncalled : Bool → Members → List ℕ → Bool
is_uncalled optional top d = not (is_called optional d top)

-- an entry that names no dependency
abbrev pub names_none : Members → Option Entry → Bool
names_none top e = on_some (is_uncalled false top) (option_and_then named_in e)

-- an entry `dep:d` for a dependency that isn't optional
abbrev pub names_required : Members → Option Entry → Bool
names_required top e = on_some (is_uncalled true top) (option_and_then dependency_in e)

-- ---- the whole

-- what stands at a place of the list of a feature
abbrev pub entry_at : List ℕ → ℕ → Members → Option Data
entry_at f n top = option_and_then (at n) (option_and_then (get f) (get_member (codes "features") top))

-- it is wrong of what stands at the place
abbrev pub is_wrong : Why → Place → Members → Data → Bool
is_wrong why.Absent p top d = false
is_wrong (why.NoSuch k) p top d = is_not k d
is_wrong (why.NoText s) p top d = on_some (is_no s) (as_str d)
is_wrong (why.NoKey s) p top d = on_some (is_no s) (option_copied p.name)
is_wrong why.Twice p top d = is_some (twin_at p top)
is_wrong why.DevOptional p top d = if is_dev p.section.now then is_on (as_bool d) else false
is_wrong why.HasRows p top d = on_some has_rows (as_table d)
is_wrong why.HasItems p top d = on_some has_items (as_array d)
is_wrong why.Inherited p top d = is_inherited (as_table d)
is_wrong (why.Foreign s) p top d = on_some (is_foreign s) (as_table d)
is_wrong why.NoFeature p top d = is_no_feature top (entry_in (Some d))
is_wrong (why.Taken f n) p top d = is_taken top (entry_in (entry_at f.now n top)) (entry_in (Some d))
is_wrong why.NoSuchDependency p top d = names_none top (entry_in (Some d))
is_wrong why.NotOptional p top d = names_required top (entry_in (Some d))

-- ---- which fault it is

abbrev pub is_at : List ℕ → Place → Bool
is_at section p = if is_some p.target then false else same_text p.section.now section

abbrev pub is_at_either : List ℕ → List ℕ → Place → Bool
is_at_either dashed underscored p = if is_at dashed p then true else is_at underscored p

-- a place is in a part
abbrev pub is_in : Part → Place → Bool
is_in part.Package p = is_at (codes "package") p
is_in part.Dependencies p = is_at (codes "dependencies") p
is_in part.DevDependencies p = is_at_either (codes "dev-dependencies") (codes "dev_dependencies") p
is_in part.BuildDependencies p = is_at_either (codes "build-dependencies") (codes "build_dependencies") p
is_in part.Target p = if is_some p.target then true else same_text p.section.now (codes "target")
is_in part.Features p = is_at (codes "features") p
is_in part.Workspace p = is_at (codes "workspace") p
is_in part.Patch p = is_at (codes "patch") p
is_in part.Replace p = is_at (codes "replace") p

-- what is wrong with a shape: no requirement, source or entry that leads nowhere
abbrev pub is_shape : Why → Bool
is_shape why.Absent = true
is_shape (why.NoSuch k) = true
is_shape (why.NoText s) = true
is_shape (why.NoKey s) = true
is_shape why.Twice = true
is_shape why.DevOptional = true
is_shape why.HasRows = false
is_shape why.HasItems = false
is_shape why.Inherited = false
is_shape (why.Foreign s) = false
is_shape why.NoFeature = false
is_shape (why.Taken f n) = false
is_shape why.NoSuchDependency = false
is_shape why.NotOptional = false

abbrev pub is_called_by : List ℕ → Place → Bool
is_called_by name p = on_some (same_text name) (option_copied p.name)

-- what a fault of sources says of a place
abbrev pub is_of_rows : Unsupported → Place → Bool
is_of_rows source.Patch p = is_in part.Patch p
is_of_rows source.Replace p = is_in part.Replace p
is_of_rows source.Workspace p = false
is_of_rows source.Git p = false
is_of_rows source.Path p = false
is_of_rows source.Registry p = false

abbrev pub is_of_source : Unsupported → Place → Why → Bool
is_of_source s p why.HasRows = is_of_rows s p
is_of_source s p why.HasItems = if same_source s source.Workspace then is_in part.Workspace p else false
is_of_source s p why.Inherited = same_source s source.Workspace
is_of_source s p (why.Foreign t) = same_source s t
is_of_source s p w = false

abbrev pub is_requirement : Sort → Bool
is_requirement sort.Requirement = true
is_requirement s = false

abbrev pub is_of_requirement : Why → Bool
is_of_requirement (why.NoText s) = is_requirement s
is_of_requirement w = false

-- what a fault of the features says
abbrev pub is_of_feature : TableFault → Why → Bool
is_of_feature table_fault.NoSuchFeature why.NoFeature = true
is_of_feature table_fault.NoSuchFeature (why.Taken g n) = true
is_of_feature table_fault.NoSuchDependency why.NoSuchDependency = true
is_of_feature table_fault.NotOptional why.NotOptional = true
is_of_feature f w = false

-- an element of the list of a feature
abbrev pub is_entry_of : List ℕ → Place → Bool
is_entry_of f p = if is_at (codes "features") p then
    (if is_some p.key then false else is_called_by f p) else false

-- it is what the fault says of a place
abbrev pub is_meant : ManifestFault → Place → Why → Bool
is_meant fault.OutOfMemory p w = false
is_meant fault.TooLarge p w = false
is_meant fault.NotToml p w = false
is_meant (fault.Shape s) p w = if is_shape w then is_in s p else false
is_meant (fault.UnsupportedSource s) p w = is_of_source s p w
is_meant (fault.BadRequirement name) p w = if is_of_requirement w then is_called_by name p else false
is_meant (fault.RootFeature f g) p w = if is_of_feature f w then is_entry_of g p else false
