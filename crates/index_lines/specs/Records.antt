-- Which lines of an index file are records, and why the others are skipped (Cargo book, "Registry Index").
use Rattle.std.specs.Prelude.{ℕ, Bool, true, false, ◌&&◌, if◌then◌else◌, List, [], ◌∷◌, ◌++◌, map, Option, Some, None}
use Rattle.std.specs.Prelude.{Result, Ok, Err, ◌==◌, ◌||◌, is_none, unwrap_or, length}
use Rattle.std.specs.Map.{set_value}
use Rattle.std.specs.Option.{ok_or}
use Rattle.std.specs.Ordering.{is_lt}
use Rattle.model.specs.Outcome.{◌>>=◌, guard}
use Rattle.model.specs.Order.{text_cmp}
use Rattle.model.specs.Summary.{Entry, Table, entries_at, same_text}
use Rattle.model.specs.Tables.{DepName, TableFault, Written, table_of, with_row}
use Rattle.features.specs.Names.{entry_of, is_feature_name, is_between}
use Rattle.index_lines.specs.Shapes.{Line, FeatureView, DependencyView, dev, part, ShapeView, PartView, data_of_bytes}
use Rattle.index_lines.specs.Shapes.{shape_of}
use Rattle.features.specs.declared.table.FeatureFault.{FeatureFault}
use Rattle.index_lines.specs.declared.fault.LineFault.{LineFault}
use Rattle.index_lines.specs.declared.fault.LineFault.TheVariants.{OutOfMemory, Skipped}
use Rattle.index_lines.specs.declared.fault.SkipReason.TheVariants.{BadFeatures}
use Rattle.std.specs.List.{list_all}
use Rattle.semver.specs.Parse.{Parts, Held, version_parts, req_of}
use Rattle.semver.specs.declared.error.Error.{Error}
use Rattle.index_lines.specs.declared.fault.SkipReason.{SkipReason}
use Rattle.features.specs.declared.table.FeatureFault.TheVariants as feature
use Rattle.model.specs.Summary as model
use Rattle.index_lines.specs.declared.fault.SkipReason.TheVariants as reason

-- ---- The features that a line writes, and the table that they make (Cargo book, "Registry Index", "JSON schema", and
-- "Features"; what stands in both `features` and `features2` is joined, which is our own).

-- a text that names a feature
abbrev pub feature_name_of : List ℕ → Line (List ℕ)
feature_name_of text = if is_feature_name text then Ok text else Err (Skipped BadFeatures)

-- the entry that a text is
abbrev pub entry_read : List ℕ → Line Entry
entry_read text = ok_or (entry_of text) (Skipped BadFeatures)

unfoldable pub entries_read : List (List ℕ) → Line (List Entry)
entries_read [] = Ok []
entries_read (text ∷ texts) = do
  first ← entry_read text
  others ← entries_read texts
  Ok (first ∷ others)

-- a feature with its entries
unfoldable pub feature_read : FeatureView → Line (List ℕ × List Entry)
feature_read f = do
  name ← feature_name_of f.name
  entries ← entries_read f.entries
  Ok (name, entries)

-- these entries behind those that the feature has, if it has any
abbrev pub with_more : Option (List Entry) → Written → List ℕ → List Entry → Written
with_more None written f es = with_row written f es
with_more (Some before) written f es = set_value (same_text f) written (before ++ es)

-- a row more: the entries of a feature that is there already are joined, those that were there first
abbrev pub joined : Written → List ℕ × List Entry → Written
joined written row = with_more (entries_at row.0 written) written row.0 row.1

-- with a feature of the line too
abbrev pub with_feature : Written → FeatureView → Line Written
with_feature written f = feature_read f >>= λ row. Ok (joined written row)

-- with these features of the line too, one after another
unfoldable pub with_features : Written → List FeatureView → Line Written
with_features written [] = Ok written
with_features written (f ∷ fs) = do
  next ← with_feature written f
  with_features next fs

-- features with their entries, one after another
unfoldable pub features_read : List FeatureView → Line Written
features_read [] = Ok []
features_read (f ∷ fs) = do
  first ← feature_read f
  others ← features_read fs
  Ok (first ∷ others)

-- each name comes after the one before it, and the first after this one
abbrev pub names_rise : List ℕ → List FeatureView → Bool
names_rise name [] = true
names_rise name (f ∷ fs) = is_lt (text_cmp name f.name) && names_rise f.name fs

-- the features of a line, in the order of their bytes: `features`, then `features2`, whatever the line's format is
abbrev pub written_of : ShapeView → Line Written
written_of s = with_features [] s.features >>= λ written. with_features written s.features2

-- what a dependency is called, of whatever kind: a dev dependency isn't optional
abbrev pub dep_name_of : DependencyView → DepName
dep_name_of (dev name) = record { name = name; optional = false }
dep_name_of (part p) = record { name = p.name; optional = p.optional }

abbrev pub dep_names_of : List DependencyView → List DepName
dep_names_of ds = map dep_name_of ds

-- a line with a fault in its table is skipped
abbrev pub unless_faulty : Result Table (TableFault × List ℕ) → Line Table
unless_faulty (Ok table) = Ok table
unless_faulty (Err e) = Err (Skipped BadFeatures)

-- the feature table of a line
unfoldable pub features_of : ShapeView → Line Table
features_of s = do
  written ← written_of s
  unless_faulty (table_of (dep_names_of s.dependencies) written)

-- a fault of a table as a reason to skip
abbrev pub skip_of : FeatureFault → LineFault
skip_of feature.OutOfMemory = OutOfMemory
skip_of (feature.NoSuchFeature f) = Skipped BadFeatures
skip_of (feature.NoSuchDependency f) = Skipped BadFeatures
skip_of (feature.NotOptional f) = Skipped BadFeatures

-- ---- The record of a line.

-- a version of a package, as its line has it
pub record RecordView : Type 0 where
  pub version : Parts
  pub checksum : List ℕ
  pub yanked : Bool
  pub rust_version : Option (ℕ × ℕ × ℕ)
  pub brings : model.Summary

-- the line goes on only where the test passes
abbrev pub unless : Bool → SkipReason → Line (Unit {0})
unless test why = guard test (Skipped why)

-- what semver doesn't read is skipped
abbrev pub semver_or : {A : Type 0} → SkipReason → Result A Error → Line A
semver_or why (Ok p) = Ok p
semver_or why (Err e) = Err (Skipped why)

-- a dependency with the requirement that its text is
abbrev pub required_part : PartView → Line (PartView × List Held)
required_part p = semver_or reason.BadRequirement (req_of p.requirement) >>= λ requirement. Ok (p, requirement)

-- the dependencies that take part, in the line's order, each with its requirement
unfoldable pub required : List DependencyView → Line (List (PartView × List Held))
required [] = Ok []
required (dev name ∷ ds) = required ds
required (part p ∷ ds) = do
  first ← required_part p
  others ← required ds
  Ok (first ∷ others)

abbrev pub is_empty_text : List ℕ → Bool
is_empty_text text = length text == 0

abbrev pub before : {A : Type 0} → Line A → Line (List A) → Line (List A)
before first others = first >>= λ x. others >>= λ xs. Ok (x ∷ xs)

-- empty texts are left out
unfoldable pub feature_names : List (List ℕ) → Line (List (List ℕ))
feature_names [] = Ok []
feature_names (text ∷ texts) =
    if is_empty_text text then feature_names texts else before (feature_name_of text) (feature_names texts)

unfoldable pub dependency_read : PartView × List Held → Line model.Dependency
dependency_read d = do
  features ← feature_names d.0.features
  Ok (record {
    name = d.0.name;
    real_name = unwrap_or d.0.real_name d.0.name;
    requirement = d.1;
    optional =
        d.0.optional;
    default_features = d.0.default_features;
    features = features;
  })

unfoldable pub dependencies_read : List (PartView × List Held) → Line (List model.Dependency)
dependencies_read [] = Ok []
dependencies_read (d ∷ ds) = do
  first ← dependency_read d
  others ← dependencies_read ds
  Ok (first ∷ others)

-- a dependency that takes part isn't of another registry
abbrev pub is_of_index : DependencyView → Bool
is_of_index (dev name) = true
is_of_index (part p) = is_none p.registry

-- a lower-case hexadecimal digit
abbrev pub is_hexadecimal : ℕ → Bool
is_hexadecimal b = is_between 48 57 b || is_between 97 102 b

abbrev pub is_checksum : List ℕ → Bool
is_checksum text = length text == 64 && list_all is_hexadecimal text

-- what a line of this shape says, whatever its checksum is, or the first reason to skip it, where the records of this
-- name are asked for
unfoldable pub unchecked_of_shape : List ℕ → ShapeView → Line RecordView
unchecked_of_shape asked s = do
  format ← unless (s.format == 1 || s.format == 2) reason.NewerFormat
  name ← unless (same_text s.name asked) reason.OtherName
  version ← semver_or reason.BadVersion (version_parts s.version)
  parts ← required s.dependencies
  dependencies ← dependencies_read parts
  features ← features_of s
  registries ← unless (list_all is_of_index s.dependencies) reason.OtherRegistry
  Ok (record {
    version = version;
    checksum = s.checksum;
    yanked = s.yanked;
    rust_version = s.rust_version;
    brings =
        record { dependencies = dependencies; features = features };
  })

-- what a line says, whatever its checksum is
unfoldable pub unchecked_of_line : List ℕ → List ℕ → Line RecordView
unchecked_of_line asked line = do
  d ← data_of_bytes line
  s ← shape_of d
  unchecked_of_shape asked s

-- a record with a checksum that is one
unfoldable pub checked : RecordView → Line RecordView
checked r = do
  checksum ← unless (is_checksum r.checksum) reason.BadChecksum
  Ok r

-- what a line says, or the first reason to skip it
unfoldable pub record_of_line : List ℕ → List ℕ → Line RecordView
record_of_line asked line = do
  r ← unchecked_of_line asked line
  checked r
