-- A line that is read by its parts, so that what the line before has too need not be read again.
use Rattle.std.specs.Prelude.{ℕ, ◌≡◌, Bool, true, false, not, ◌==◌, ◌&&◌, ◌||◌, List, [], ◌∷◌, Option, Some, None}
use Rattle.std.specs.Prelude.{is_none, Ok, codes, drop, length}
use Rattle.std.specs.List.{list_all}
use Rattle.std.specs.Option.{ok_or}
use Rattle.semver.specs.Parse.{version_parts}
use Rattle.serde_json.specs.Data.{Data}
use Rattle.serde_json.specs.Find.{get}
use Rattle.model.specs.Outcome.{◌>>=◌}
use Rattle.model.specs.Summary as model
use Rattle.model.specs.Summary.{Entry, Table}
use Rattle.model.specs.Tables.{DepName, table_of}
use Rattle.features.specs.Names.{is_package_name}
use Rattle.trees.specs.inner.Parts.{data_within, is_plain, line_of, member_text, part_depth}
use Rattle.index_lines.specs.Records.{RecordView, dependencies_read, dependency_read, is_of_index, required}
use Rattle.index_lines.specs.Records.{required_part, semver_or, unless, dep_name_of, dep_names_of, feature_read}
use Rattle.index_lines.specs.Records.{unless_faulty, with_features}
use Rattle.index_lines.specs.Shapes.{Line, DependencyView, dev, part, FeatureView, data_of_bytes, dependency_of}
use Rattle.index_lines.specs.Shapes.{features_or_none, flag_at, needed_dependencies, rust_version_at, unless_null}
use Rattle.index_lines.specs.Shapes.{texts_of, whole_at}
use Rattle.index_lines.specs.declared.fault.LineFault.TheVariants.{Skipped}
use Rattle.index_lines.specs.declared.fault.SkipReason.TheVariants as reason
use Rattle.index_lines.specs.declared.shortcuts.split.LineParts.{LineParts}

-- a line of a package is cut into these parts
pub record IsCut (name : List ℕ) (p : LineParts) (line : List ℕ) : Type 0 where
  pub named : is_package_name name ≡ true
  pub whole : line ≡ line_of name p.version.now p.dependencies.now p.checksum.now p.features.now p.rest.now
  pub version : is_plain p.version.now ≡ true
  pub checksum : is_plain p.checksum.now ≡ true

-- what bytes are that are to stand at a key of a line
abbrev pub part_of_bytes : List ℕ → Line Data
part_of_bytes bytes = ok_or (data_within part_depth bytes) (Skipped reason.NotJson)

-- the dependencies that take part of these
abbrev pub dependencies_of_shapes : List DependencyView → Line (List model.Dependency)
dependencies_of_shapes shapes = required shapes >>= dependencies_read

-- the dependencies of such bytes, and what those of each kind are called
unfoldable pub dependencies_of_bytes : List ℕ → Line (List DepName × List model.Dependency)
dependencies_of_bytes bytes = do
  d ← part_of_bytes bytes
  shapes ← needed_dependencies (unless_null (Some d))
  registries ← unless (list_all is_of_index shapes) reason.OtherRegistry
  dependencies ← dependencies_of_shapes shapes
  Ok (dep_names_of shapes, dependencies)

-- how deep an item of such a list may nest: one level less than the list
abbrev pub item_depth : ℕ
item_depth = 125

-- the dependency that one of a line is, if it takes part
abbrev pub taking_part : DependencyView → Line (Option model.Dependency)
taking_part (dev name) = Ok None
taking_part (part p) = required_part p >>= λ required. dependency_read required >>= λ d. Ok (Some d)

-- the dependency that the bytes of an item are, if it takes part, and what it is called
unfoldable pub item_of_bytes : List ℕ → Line (DepName × Option model.Dependency)
item_of_bytes bytes = do
  d ← ok_or (data_within item_depth bytes) (Skipped reason.NotJson)
  shape ← dependency_of d
  registry ← unless (is_of_index shape) reason.OtherRegistry
  dependency ← taking_part shape
  Ok (dep_name_of shape, dependency)

-- the table that features make with no further ones, where dependencies are called so
abbrev pub table_alone : List DepName → List FeatureView → Line Table
table_alone names features = with_features [] features >>= λ written. unless_faulty (table_of names written)

-- the table of the features of such bytes
unfoldable pub table_of_bytes : List DepName → List ℕ → Line Table
table_of_bytes names bytes = do
  d ← part_of_bytes bytes
  features ← features_or_none (unless_null (Some d))
  table_alone names features

-- the feature that a key and the bytes behind it are, with its entries
unfoldable pub row_of_member : List ℕ → List ℕ → Line (List ℕ × List Entry)
row_of_member key bytes = do
  d ← ok_or (data_within item_depth bytes) (Skipped reason.NotJson)
  texts ← texts_of d
  feature_read (record { name = key; entries = texts })

-- what stands behind the key of a member
abbrev pub value_behind : List ℕ → List ℕ → List ℕ
value_behind key bytes = drop 2 (drop (length key) (drop 1 bytes))

-- bytes are the member of this feature
abbrev pub IsRow : List ℕ → List ℕ → List Entry → Type 0
IsRow bytes name entries = (is_plain name ≡ true) × (bytes ≡ member_text (name, value_behind name bytes))
    × (row_of_member name (value_behind name bytes) ≡ Ok (name, entries))

-- what a line says behind its features
pub record RestView : Type 0 where
  pub yanked : Bool
  pub format : ℕ
  pub rust_version : Option (ℕ × ℕ × ℕ)

abbrev pub lacks : List ℕ → Data → Bool
lacks key rest = is_none (get key rest)

-- it says nothing again that stands before it, and has no further features
abbrev pub lacks_parts : Data → Bool
lacks_parts rest = lacks (codes "name") rest && (lacks (codes "vers") rest && (lacks (codes "deps") rest
    && (lacks (codes "cksum") rest && (lacks (codes "features") rest && lacks (codes "features2") rest))))

unfoldable pub rest_of : Data → Line RestView
rest_of rest = do
  yanked_there ← unless (not (lacks (codes "yanked") rest)) reason.Shape
  parts_not_there ← unless (lacks_parts rest) reason.Shape
  yanked ← flag_at (codes "yanked") false rest
  format ← whole_at (codes "v") 1 rest
  Ok (record { yanked = yanked; format = format; rust_version = rust_version_at rest })

-- the bytes of a rest are an object's once `{` (123) stands before them
abbrev pub rest_of_bytes : List ℕ → Line RestView
rest_of_bytes bytes = data_of_bytes (123 ∷ bytes) >>= rest_of

-- what a line says by its parts
unfoldable pub record_of_parts : LineParts → Line RecordView
record_of_parts line = do
  rest ← rest_of_bytes line.rest.now
  format ← unless (rest.format == 1 || rest.format == 2) reason.NewerFormat
  version ← semver_or reason.BadVersion (version_parts line.version.now)
  dependencies ← dependencies_of_bytes line.dependencies.now
  table ← table_of_bytes dependencies.0 line.features.now
  Ok (record {
    version = version;
    checksum = line.checksum.now;
    yanked = rest.yanked;
    rust_version = rest.rust_version;
    brings =
        record { dependencies = dependencies.1; features = table };
  })
