-- The shape of a line of an index file: what its JSON object holds, before the texts in it are read (Cargo book,
-- "Registry Index", "JSON schema").
use Rattle.std.specs.Prelude.{ℕ, Bool, true, false, if◌then◌else◌, List, [], ◌∷◌, Option, Some, None, option_map}
use Rattle.std.specs.Prelude.{option_and_then, Result, Ok, Err, codes}
use Rattle.std.specs.Option.{ok_or}
use Rattle.serde_json.specs.Data.{Data, null, boolean, number, string, array, object, Items, no_items, item, Members}
use Rattle.serde_json.specs.Data.{no_members, member}
use Rattle.serde_json.specs.Find.{get, as_str, as_bool, as_array, as_object, as_number, as_u64}
use Rattle.model.specs.Outcome.{◌>>=◌}
use Rattle.model.specs.Summary.{same_text}
use Rattle.features.specs.Names.{is_package_name}
use Rattle.features.specs.declared.dependency.DependencyKind.{DependencyKind}
use Rattle.features.specs.declared.dependency.DependencyKind.TheVariants.{Normal, Build, Dev}
use Rattle.classes.specs.Classes.{rust_version_of}
use Rattle.trees.specs.Trees as trees
use Rattle.index_lines.specs.declared.fault.LineFault.{LineFault}
use Rattle.index_lines.specs.declared.fault.LineFault.TheVariants.{OutOfMemory, Skipped}
use Rattle.index_lines.specs.declared.fault.SkipReason.TheVariants as reason

abbrev pub wants_memory : LineFault → Bool
wants_memory OutOfMemory = true
wants_memory (Skipped r) = false

abbrev pub Line : Type 0 → Type 0
Line A = Result A LineFault

-- the JSON value that the bytes are
abbrev pub data_of_bytes : List ℕ → Line Data
data_of_bytes bytes = ok_or (trees.data_of_bytes bytes) (Skipped reason.NotJson)

-- what has to be there, and of its kind
abbrev pub needed : {A : Type 0} → Option A → Line A
needed o = ok_or o (Skipped reason.Shape)

-- null counts as absent
abbrev pub unless_null : Option Data → Option Data
unless_null None = None
unless_null (Some null) = None
unless_null (Some (boolean b)) = Some (boolean b)
unless_null (Some (number n)) = Some (number n)
unless_null (Some (string s)) = Some (string s)
unless_null (Some (array ds)) = Some (array ds)
unless_null (Some (object ms)) = Some (object ms)

-- the value at a key of an object: none in what is no object
abbrev pub value_at : List ℕ → Data → Option Data
value_at key d = unless_null (get key d)

-- what may be absent, and is of its kind where it is there
abbrev pub optional : {A : Type 0} → A → (Data → Option A) → Option Data → Line A
optional absent kind None = Ok absent
optional absent kind (Some d) = needed (kind d)

abbrev pub text_at : List ℕ → Data → Line (List ℕ)
text_at key d = needed (option_and_then as_str (value_at key d))

abbrev pub text_of : Data → Option (Option (List ℕ))
text_of d = option_map Some (as_str d)

abbrev pub flag_at : List ℕ → Bool → Data → Line Bool
flag_at key absent d = optional absent as_bool (value_at key d)

abbrev pub as_whole : Data → Option ℕ
as_whole d = option_and_then as_u64 (as_number d)

abbrev pub whole_at : List ℕ → ℕ → Data → Line ℕ
whole_at key absent d = optional absent as_whole (value_at key d)

-- a list of texts
unfoldable pub texts_in : Items → Line (List (List ℕ))
texts_in no_items = Ok []
texts_in (item d ds) = do
  first ← needed (as_str d)
  others ← texts_in ds
  Ok (first ∷ others)

unfoldable pub texts_of : Data → Line (List (List ℕ))
texts_of d = do
  ds ← needed (as_array d)
  texts_in ds

abbrev pub texts_or_none : Option Data → Line (List (List ℕ))
texts_or_none None = Ok []
texts_or_none (Some d) = texts_of d

-- features: each name with its list of texts
pub record FeatureView : Type 0 where
  pub name : List ℕ
  pub entries : List (List ℕ)

unfoldable pub features_in : Members → Line (List FeatureView)
features_in no_members = Ok []
features_in (member key d ms) = do
  entries ← texts_of d
  others ← features_in ms
  Ok (record { name = key; entries = entries } ∷ others)

abbrev pub features_or_none : Option Data → Line (List FeatureView)
features_or_none None = Ok []
features_or_none (Some d) = needed (as_object d) >>= features_in

abbrev pub features_at : List ℕ → Data → Line (List FeatureView)
features_at key d = features_or_none (value_at key d)

-- a text that is a package name
abbrev pub package_name_of : Data → Line (List ℕ)
package_name_of d = needed (as_str d) >>= λ text. if is_package_name text then Ok text else Err (Skipped reason.Shape)

abbrev pub needed_name : Option Data → Line (List ℕ)
needed_name o = needed o >>= package_name_of

abbrev pub package_name_at : List ℕ → Data → Line (List ℕ)
package_name_at key d = needed_name (value_at key d)

abbrev pub package_name_or_none : Option Data → Line (Option (List ℕ))
package_name_or_none None = Ok None
package_name_or_none (Some d) = package_name_of d >>= λ name. Ok (Some name)

abbrev pub kind_of_text : List ℕ → Option DependencyKind
kind_of_text text = if same_text text (codes "normal") then Some Normal
    else if same_text text (codes "build") then Some Build
    else if same_text text (codes "dev") then Some Dev
    else None

abbrev pub kind_of : Data → Option DependencyKind
kind_of d = option_and_then kind_of_text (as_str d)

abbrev pub kind_at : Data → Line DependencyKind
kind_at d = optional Normal kind_of (value_at (codes "kind") d)

abbrev pub is_dev : DependencyKind → Bool
is_dev Normal = false
is_dev Build = false
is_dev Dev = true

-- a dependency that takes part, with its texts as they stand
pub record PartView : Type 0 where
  pub name : List ℕ
  pub real_name : Option (List ℕ)
  pub requirement : List ℕ
  pub optional : Bool
  pub default_features : Bool
  pub features : List (List ℕ)
  pub registry : Option (List ℕ)

-- of a dev dependency only name and kind are read
pub data DependencyView : Type 0 where
  dev : List ℕ → DependencyView
  part : PartView → DependencyView

-- what stands at the keys of a dependency
pub record ValuesView : Type 0 where
  pub name_value : Option Data
  pub kind_value : Option Data
  pub package_value : Option Data
  pub requirement_value : Option Data
  pub optional_value : Option Data
  pub default_features_value : Option Data
  pub features_value : Option Data
  pub registry_value : Option Data

abbrev pub values_by : (List ℕ → Option Data) → ValuesView
values_by at = record {
  name_value = at (codes "name");
  kind_value = at (codes "kind");
  package_value = at (codes "package");
  requirement_value = at (codes "req");
  optional_value = at (codes "optional");
  default_features_value = at (codes "default_features");
  features_value = at (codes "features");
  registry_value = at (codes "registry");
}

abbrev pub values_of : Data → ValuesView
values_of d = values_by (λ key. value_at key d)

unfoldable pub part_with : List ℕ → ValuesView → Line PartView
part_with name values = do
  real_name ← package_name_or_none values.package_value
  requirement ← needed (option_and_then as_str values.requirement_value)
  optional_flag ← optional false as_bool values.optional_value
  default_flag ← optional true as_bool values.default_features_value
  features ← texts_or_none values.features_value
  registry ← optional None text_of values.registry_value
  Ok (record {
    name = name;
    real_name = real_name;
    requirement = requirement;
    optional =
        optional_flag;
    default_features = default_flag;
    features = features;
    registry = registry;
  })

abbrev pub by_kind : List ℕ → DependencyKind → ValuesView → Line DependencyView
by_kind name kind values = if is_dev kind then Ok (dev name) else (part_with name values >>= λ p. Ok (part p))

unfoldable pub dependency_of : Data → Line DependencyView
dependency_of d = do
  name ← package_name_at (codes "name") d
  kind ← kind_at d
  by_kind name kind (values_of d)

unfoldable pub dependencies_in : Items → Line (List DependencyView)
dependencies_in no_items = Ok []
dependencies_in (item d ds) = do
  first ← dependency_of d
  others ← dependencies_in ds
  Ok (first ∷ others)

abbrev pub needed_dependencies : Option Data → Line (List DependencyView)
needed_dependencies o = needed (option_and_then as_array o) >>= dependencies_in

unfoldable pub dependencies_at : Data → Line (List DependencyView)
dependencies_at d = needed_dependencies (value_at (codes "deps") d)

-- a whole line, with its texts as they stand
pub record ShapeView : Type 0 where
  pub name : List ℕ
  pub version : List ℕ
  pub checksum : List ℕ
  pub dependencies : List DependencyView
  pub features : List FeatureView
  pub features2 : List FeatureView
  pub yanked : Bool
  pub format : ℕ
  pub rust_version : Option (ℕ × ℕ × ℕ)

-- whatever is no Rust version counts as absent
abbrev pub rust_version_in : Option Data → Option (ℕ × ℕ × ℕ)
rust_version_in o = option_and_then rust_version_of (option_and_then as_str o)

abbrev pub rust_version_at : Data → Option (ℕ × ℕ × ℕ)
rust_version_at d = rust_version_in (value_at (codes "rust_version") d)

unfoldable pub shape_of : Data → Line ShapeView
shape_of d = do
  name ← text_at (codes "name") d
  version ← text_at (codes "vers") d
  checksum ← text_at (codes "cksum") d
  dependencies ← dependencies_at d
  features ← features_at (codes "features") d
  features2 ← features_at (codes "features2") d
  yanked ← flag_at (codes "yanked") false d
  format ← whole_at (codes "v") 1 d
  Ok (record {
    name = name;
    version = version;
    checksum = checksum;
    dependencies = dependencies;
    features =
        features;
    features2 = features2;
    yanked = yanked;
    format = format;
    rust_version = rust_version_at d;
  })
