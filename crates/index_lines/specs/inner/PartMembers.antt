-- What stands at the keys of a line or of a dependency, from its members one after another.
use Rattle.std.specs.Prelude.{ℕ, if◌then◌else◌, List, Option, codes}
use Rattle.serde_json.specs.Data.{Data, Members}
use Rattle.serde_json.specs.Find.{get_member}
use Rattle.model.specs.Summary.{same_text}
use Rattle.index_lines.specs.Shapes.{ValuesView, values_by, unless_null, value_at}

-- what stands at the keys of a line
pub record LineValuesView : Type 0 where
  pub name_value : Option Data
  pub version_value : Option Data
  pub checksum_value : Option Data
  pub dependencies_value : Option Data
  pub features_value : Option Data
  pub features2_value : Option Data
  pub yanked_value : Option Data
  pub format_value : Option Data
  pub rust_version_value : Option Data

abbrev pub line_values_by : (List ℕ → Option Data) → LineValuesView
line_values_by at = record {
  name_value = at (codes "name");
  version_value = at (codes "vers");
  checksum_value = at (codes "cksum");
  dependencies_value = at (codes "deps");
  features_value = at (codes "features");
  features2_value = at (codes "features2");
  yanked_value = at (codes "yanked");
  format_value = at (codes "v");
  rust_version_value = at (codes "rust_version");
}

abbrev pub line_values_of : Data → LineValuesView
line_values_of d = line_values_by (λ key. value_at key d)

-- what stands at the keys of an object with these members
abbrev pub values_in : Members → ValuesView
values_in ms = values_by (λ key. unless_null (get_member key ms))

abbrev pub line_values_in : Members → LineValuesView
line_values_in ms = line_values_by (λ key. unless_null (get_member key ms))

-- this at one key, and at the others what stood there
abbrev pub value_put : List ℕ → Option Data → (List ℕ → Option Data) → List ℕ → Option Data
value_put key value at other = if same_text key other then value else at other
