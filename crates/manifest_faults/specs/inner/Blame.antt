-- Which part of a manifest has a fault, and for which reason (Cargo book, "The Manifest Format", "Specifying
-- Dependencies" and "Features").
use Rattle.std.specs.Prelude.{ℕ, Bool, true, false, not, if◌then◌else◌, List, Option, Some, None, codes, is_some}
use Rattle.std.specs.Prelude.{option_copied, option_and_then}
use Rattle.toml.specs.Data.{Data, as_table, Members}
use Rattle.model.specs.Summary.{same_text}
use Rattle.manifest.specs.Packages.{is_inherited}
use Rattle.manifest.specs.declared.fault.ManifestFault.{ManifestFault}
use Rattle.manifest_faults.specs.inner.Places.{named_value, value_at}
use Rattle.manifest_faults.specs.inner.Reasons.{is_meant, is_wrong}
use Rattle.manifest_faults.specs.declared.place.Place.{Place}
use Rattle.manifest_faults.specs.declared.due.Form.{Form}
use Rattle.manifest_faults.specs.declared.due.Form.TheVariants as form
use Rattle.manifest_faults.specs.declared.why.Kind.{Kind}
use Rattle.manifest_faults.specs.declared.why.Kind.TheVariants as kind
use Rattle.manifest_faults.specs.declared.why.Sort.{Sort}
use Rattle.manifest_faults.specs.declared.why.Sort.TheVariants as sort
use Rattle.manifest_faults.specs.declared.why.Why.{Why}
use Rattle.manifest_faults.specs.declared.why.Why.TheVariants as why

-- ---- what stands at a place

abbrev pub form_of_key : List ℕ → Form
form_of_key key = if same_text key (codes "version") then form.Requirement
    else if same_text key (codes "package") then form.RealName
    else if same_text key (codes "optional") then form.Optional
    else if same_text key (codes "default-features") then form.Defaults
    else if same_text key (codes "default_features") then form.Defaults
    else if same_text key (codes "features") then form.Asked
    else form.Other

abbrev pub form_of_dependency : Option (List ℕ) → Form
form_of_dependency None = form.Dependency
form_of_dependency (Some key) = form_of_key key

abbrev pub is_of_dependencies : List ℕ → Bool
is_of_dependencies section = if same_text section (codes "dependencies") then true
    else if same_text section (codes "dev-dependencies") then true
    else if same_text section (codes "dev_dependencies") then true
    else if same_text section (codes "build-dependencies") then true
    else same_text section (codes "build_dependencies")

abbrev pub form_in_package : List ℕ → Form
form_in_package name = if same_text name (codes "name") then form.Name
    else if same_text name (codes "version") then form.Version
    else form.Other

abbrev pub form_in_workspace : List ℕ → Form
form_in_workspace name = if same_text name (codes "members") then form.Members else form.Other

-- what stands at a name in a table at the top that isn't one of dependencies
abbrev pub form_at_top : List ℕ → List ℕ → Form
form_at_top section name = if same_text section (codes "features") then form.Feature
    else if same_text section (codes "package") then form_in_package name
    else if same_text section (codes "workspace") then form_in_workspace name
    else if same_text section (codes "target") then form.Table
    else form.Other

abbrev pub form_of_named : Place → List ℕ → Form
form_of_named p name = if is_of_dependencies p.section.now then form_of_dependency (option_copied p.key)
    else if is_some p.target then form.Other
    else if is_some p.key then form.Other
    else form_at_top p.section.now name

abbrev pub form_named : Place → Option (List ℕ) → Form
form_named p None = form.Table
form_named p (Some name) = form_of_named p name

-- an element of the features that a dependency asks for, or of a feature
abbrev pub form_of_item : Form → Form
form_of_item form.Asked = form.AskedItem
form_of_item form.Feature = form.Entry
form_of_item f = form.Other

abbrev pub form_numbered : Option ℕ → Form → Form
form_numbered None f = f
form_numbered (Some n) f = form_of_item f

abbrev pub form_of : Place → Form
form_of p = form_numbered p.item (form_named p (option_copied p.name))

-- ---- what may be wrong with what stands there

abbrev pub is_kind_due : Kind → Form → Bool
is_kind_due kind.Table form.Table = true
is_kind_due kind.Dependency form.Dependency = true
is_kind_due kind.Sourced form.Dependency = true
is_kind_due kind.Text form.Requirement = true
is_kind_due kind.Text form.RealName = true
is_kind_due kind.Text form.AskedItem = true
is_kind_due kind.Text form.Entry = true
is_kind_due kind.OwnText form.Name = true
is_kind_due kind.OwnText form.Version = true
is_kind_due kind.Flag form.Optional = true
is_kind_due kind.Flag form.Defaults = true
is_kind_due kind.List form.Asked = true
is_kind_due kind.List form.Feature = true
is_kind_due kind.List form.Members = true
is_kind_due k f = false

abbrev pub is_sort_due : Sort → Form → Bool
is_sort_due sort.PackageName form.RealName = true
is_sort_due sort.PackageName form.Name = true
is_sort_due sort.AskedFeature form.AskedItem = true
is_sort_due sort.Version form.Version = true
is_sort_due sort.Requirement form.Dependency = true
is_sort_due sort.Requirement form.Requirement = true
is_sort_due sort.Entry form.Entry = true
is_sort_due s f = false

abbrev pub is_due : Why → Form → Bool
is_due why.Absent form.Table = true
is_due why.Absent form.Name = true
is_due (why.NoSuch k) f = is_kind_due k f
is_due (why.NoText s) f = is_sort_due s f
is_due (why.NoKey sort.PackageName) form.Dependency = true
is_due (why.NoKey sort.FeatureName) form.Feature = true
is_due why.Twice form.Table = true
is_due why.Twice form.Defaults = true
is_due why.DevOptional form.Optional = true
is_due why.HasRows form.Table = true
is_due why.HasItems form.Members = true
is_due why.Inherited form.Name = true
is_due why.Inherited form.Version = true
is_due why.Inherited form.Dependency = true
is_due (why.Foreign s) form.Dependency = true
is_due why.NoFeature form.Entry = true
is_due (why.Taken f n) form.Entry = true
is_due why.NoSuchDependency form.Entry = true
is_due why.NotOptional form.Entry = true
is_due w f = false

-- ---- the whole

-- what the place is a part of isn't left to a workspace, of which nothing else is read
abbrev pub is_own : Option (List ℕ) → Option Data → Bool
is_own None owner = true
is_own (Some key) owner = not (is_inherited (option_and_then as_table owner))

-- only the package and its name have to be there
abbrev pub is_needed : Why → Place → Bool
is_needed why.Absent p = same_text p.section.now (codes "package")
is_needed w p = false

abbrev pub is_so : Why → Place → Members → Option Data → Bool
is_so w p top None = is_needed w p
is_so w p top (Some d) = is_wrong w p top d

abbrev pub is_so_of_own : Why → Place → Members → Bool
is_so_of_own w p top =
    if is_own (option_copied p.key) (named_value p top) then is_so w p top (value_at p top) else false

-- the part of a manifest at this place has the fault, for this reason
abbrev pub is_blamed : ManifestFault → Members → Place → Why → Bool
is_blamed f top p w = if is_meant f p w then
    (if is_due w (form_of p) then is_so_of_own w p top else false) else false
