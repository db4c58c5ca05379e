-- The texts of an index's records: names that are names, versions of SemVer 2.0.0 and checksums.
use Rattle.std.proofs.Common.{◌≡◌, ℕ, ◌+◌, ◌==◌, ◌||◌, Bool, true, false, cond, List, [], ◌∷◌, ◌++◌, Option, Some, None}
use Rattle.std.proofs.Common.{unwrap_or, option_and_then, Result, Ok, Err, codes, refl}
use Rattle.std.specs.Bool.{⊤}
use Rattle.std.specs.List.{AllByRecursion, list_all, slice_split}
use Rattle.serde_json.specs.Data.{Data, Items, no_items, item}
use Rattle.serde_json.specs.Find.{as_str, as_bool, as_array}
use Rattle.semver.specs.Grammar.{IsValid}
use Rattle.semver.specs.Parse.{Parts, Held, version_parts, req_of}
use Rattle.semver.specs.declared.error.Error.{Error}
use Rattle.semver.proofs.Grammar.{version_parts-sound}
use Rattle.model.specs.Outcome.{◌>>=◌}
use Rattle.model.specs.Summary as model
use Rattle.model.specs.Summary.{same_text}
use Rattle.features.specs.Names.{is_package_name}
use Rattle.index_lines.specs.Shapes.{Line, ShapeView, PartView, DependencyView, dev, part, data_of_bytes, needed}
use Rattle.index_lines.specs.Shapes.{value_at, text_at, text_of, flag_at, whole_at, texts_or_none, features_at}
use Rattle.index_lines.specs.Shapes.{optional, package_name_of, package_name_at, package_name_or_none, kind_at, is_dev}
use Rattle.index_lines.specs.Shapes.{ValuesView, values_of, part_with, dependency_of, dependencies_in}
use Rattle.index_lines.specs.Shapes.{dependencies_at, shape_of}
use Rattle.index_lines.specs.Records.{RecordView, unless, semver_or, required_part, required, dependency_read}
use Rattle.index_lines.specs.Records.{dependencies_read, is_of_index, is_checksum, feature_names, unchecked_of_shape}
use Rattle.index_lines.specs.Records.{unchecked_of_line, features_of}
use Rattle.index_reader.specs.Files.{FileView, has_version, no_lines, with_skip, with_record, with_found, with_read}
use Rattle.index_reader.specs.Files.{with_line, with_lines, records_of_file}
use Rattle.trees.specs.Trees.{is_line_end, is_blank}
use Rattle.index_lines.specs.declared.fault.SkipReason.{SkipReason}
use Rattle.index_lines.specs.declared.fault.SkipReason.TheVariants.{BadChecksum, BadRequirement, BadVersion, Duplicate}
use Rattle.index_lines.specs.declared.fault.SkipReason.TheVariants.{NewerFormat, OtherName, OtherRegistry}
use Rattle.index_lines.specs.declared.fault.LineFault.TheVariants.{OutOfMemory, Skipped}
use Rattle.resolver.proofs.Given.{Given, IfSome, any, next, tested, either, each-append}

abbrev pub IsName : List ℕ → Type 0
IsName name = is_package_name name ≡ true

abbrev IsPart : PartView → Type 0
IsPart p = IsName p.name × IfSome IsName p.real_name

abbrev IsNamed : DependencyView → Type 0
IsNamed (dev name) = ⊤
IsNamed (part p) = IsPart p

abbrev pub MeansName : model.Dependency → Type 0
MeansName d = IsName d.real_name

name-of : (d : Data) → Given IsName (package_name_of d)
name-of d = any IsName (needed (as_str d)) _ (λ text. tested IsName (is_package_name text) text _ (λ is. is))

name-or-none : (o : Option Data) → Given (IfSome IsName) (package_name_or_none o)
name-or-none None = tt
name-or-none (Some d) = next IsName (IfSome IsName) (package_name_of d) _ (name-of d) (λ name is. is)

part-named : (name : List ℕ) (values : ValuesView) → IsName name → Given IsPart (part_with name values)
unfolding part_with
part-named name values is = next (IfSome IsName) IsPart (package_name_or_none values.package_value) _
    (name-or-none values.package_value) (λ real real_is.
    any IsPart (needed (option_and_then as_str values.requirement_value)) _
    (λ requirement. any IsPart (optional false as_bool values.optional_value) _ (λ may_lack.
    any IsPart (optional true as_bool values.default_features_value) _
    (λ default. any IsPart (texts_or_none values.features_value) _ (λ features.
    any IsPart (optional None text_of values.registry_value) _ (λ registry. (is, real_is)))))))

dependency-named : (d : Data) → Given IsNamed (dependency_of d)
unfolding dependency_of
dependency-named d = next IsName IsNamed (package_name_at (codes "name") d) _
    (any IsName (needed (value_at (codes "name") d)) package_name_of name-of) (λ name is.
    any IsNamed (kind_at d) _
    (λ kind. either IsNamed (is_dev kind) (Ok (dev name)) (part_with name (values_of d) >>= λ p. Ok (part p)) tt
    (next IsPart IsNamed (part_with name (values_of d)) (λ p. Ok (part p)) (part-named name (values_of d) is)
    (λ p named. named))))

dependencies-named : (ds : Items) → Given (AllByRecursion IsNamed) (dependencies_in ds)
unfolding dependencies_in
dependencies-named no_items = tt
dependencies-named (item d ds) =
    next IsNamed (AllByRecursion IsNamed) (dependency_of d) _ (dependency-named d) (λ first is.
    next (AllByRecursion IsNamed) (AllByRecursion IsNamed) (dependencies_in ds) _ (dependencies-named ds)
    (λ others are. (is, are)))

abbrev HasNamed : ShapeView → Type 0
HasNamed s = AllByRecursion IsNamed s.dependencies

at-named : (d : Data) → Given (AllByRecursion IsNamed) (dependencies_at d)
unfolding dependencies_at
at-named d = any (AllByRecursion IsNamed)
    (needed (option_and_then as_array (value_at (codes "deps") d))) dependencies_in dependencies-named

shape-named : (d : Data) → Given HasNamed (shape_of d)
unfolding shape_of
shape-named d = any HasNamed (text_at (codes "name") d) _ (λ name.
    any HasNamed (text_at (codes "vers") d) _ (λ version. any HasNamed (text_at (codes "cksum") d) _ (λ checksum.
    next (AllByRecursion IsNamed) HasNamed (dependencies_at d) _ (at-named d) (λ dependencies are.
    any HasNamed (features_at (codes "features") d) _
    (λ features. any HasNamed (features_at (codes "features2") d) _ (λ features2.
    any HasNamed (flag_at (codes "yanked") false d) _
    (λ yanked. any HasNamed (whole_at (codes "v") 1 d) _ (λ format. are))))))))

-- ---- a record

abbrev IsPartRead : PartView × List Held → Type 0
IsPartRead d = IsPart d.0

required-named : (ds : List DependencyView) → AllByRecursion IsNamed ds
    → Given (AllByRecursion IsPartRead) (required ds)
unfolding required
required-named [] h = tt
required-named (dev name ∷ ds) h = required-named ds h.1
required-named (part p ∷ ds) h =
    next IsPartRead (AllByRecursion IsPartRead) (required_part p) _
    (any IsPartRead (semver_or BadRequirement (req_of p.requirement)) _ (λ requirement. h.0)) (λ first is.
    next (AllByRecursion IsPartRead) (AllByRecursion IsPartRead) (required ds) _ (required-named ds h.1)
    (λ others are. (is, are)))

real-named : (o : Option (List ℕ)) (name : List ℕ) → IfSome IsName o → IsName name → IsName (unwrap_or o name)
real-named None name h is = is
real-named (Some real) name h is = h

read-named : (d : PartView × List Held) → IsPartRead d → Given MeansName (dependency_read d)
unfolding dependency_read
read-named d h = any MeansName (feature_names d.0.features) _ (λ features. real-named d.0.real_name d.0.name h.1 h.0)

all-read-named : (ds : List (PartView × List Held)) → AllByRecursion IsPartRead ds
    → Given (AllByRecursion MeansName) (dependencies_read ds)
unfolding dependencies_read
all-read-named [] h = tt
all-read-named (d ∷ ds) h =
    next MeansName (AllByRecursion MeansName) (dependency_read d) _ (read-named d h.0) (λ first is.
    next (AllByRecursion MeansName) (AllByRecursion MeansName) (dependencies_read ds) _ (all-read-named ds h.1)
    (λ others are. (is, are)))

version-valid : (why : SkipReason) (text : List ℕ) → Given IsValid (semver_or why (version_parts text))
version-valid why text = by (version_parts text) refl
  where
    by : (r : Result Parts Error) → version_parts text ≡ r → Given IsValid (semver_or why r)
    by (Ok p) is = (version_parts-sound text p is).1
    by (Err e) is = tt

abbrev pub HasTexts : RecordView → Type 0
HasTexts r = IsValid r.version × AllByRecursion MeansName r.brings.dependencies

shape-texts : (asked : List ℕ) (s : ShapeView) → HasNamed s → Given HasTexts (unchecked_of_shape asked s)
unfolding unchecked_of_shape
shape-texts asked s h = any HasTexts (unless (s.format == 1 || s.format == 2) NewerFormat) _
    (λ format. any HasTexts (unless (same_text s.name asked) OtherName) _ (λ name.
    next IsValid HasTexts (semver_or BadVersion (version_parts s.version)) _
    (version-valid BadVersion s.version) (λ version valid.
    next (AllByRecursion IsPartRead) HasTexts (required s.dependencies) _
    (required-named s.dependencies h) (λ parts are.
    next (AllByRecursion MeansName) HasTexts (dependencies_read parts) _
    (all-read-named parts are) (λ dependencies named.
    any HasTexts (features_of s) _ (λ features. any HasTexts
    (unless (list_all is_of_index s.dependencies) OtherRegistry) _ (λ registries. (valid, named))))))))

line-texts : (asked line : List ℕ) → Given HasTexts (unchecked_of_line asked line)
unfolding unchecked_of_line
line-texts asked line = any HasTexts (data_of_bytes line) _
    (λ d. next HasNamed HasTexts (shape_of d) _ (shape-named d) (λ s h. shape-texts asked s h))

-- ---- a file

abbrev pub IsRecord : RecordView → Type 0
IsRecord r = HasTexts r × (is_checksum r.checksum ≡ true)

abbrev AreRecords : FileView → Type 0
AreRecords file = AllByRecursion IsRecord file.records

found-kept : (name : List ℕ) (n : ℕ) (r : RecordView) (file : FileView) → AreRecords file → HasTexts r
    → AreRecords (with_found name n r file)
found-kept name n r file h texts = by (is_checksum r.checksum) refl
  where
    recorded : (b : Bool) → IsRecord r → AreRecords (cond b (with_skip name n Duplicate file)
        (record { records = file.records ++ r ∷ []; skips = file.skips }))
    recorded true is = h
    recorded false is = each-append IsRecord file.records (r ∷ []) h (is, tt)

    by : (b : Bool) → is_checksum r.checksum ≡ b
        → AreRecords (cond b (with_record name n r file)
        (with_skip name n (cond (has_version file.records r.version) Duplicate BadChecksum) file))
    by true is = recorded (has_version file.records r.version) (texts, is)
    by false is = h

read-kept : (name : List ℕ) (n : ℕ) (r : Line RecordView) (file : FileView) → AreRecords file → Given HasTexts r
    → AreRecords (with_read name n r file)
read-kept name n (Ok r) file h texts = found-kept name n r file h texts
read-kept name n (Err (Skipped why)) file h texts = h
read-kept name n (Err OutOfMemory) file h texts = h

line-kept : (name : List ℕ) (n : ℕ) (text : List ℕ) (file : FileView) → AreRecords file
    → AreRecords (with_line name n text file)
line-kept name n text file h = by (is_blank text)
  where
    by : (b : Bool) → AreRecords (cond b file (with_read name n (unchecked_of_line name text) file))
    by true = h
    by false = read-kept name n (unchecked_of_line name text) file h (line-texts name text)

lines-kept : (name : List ℕ) (n : ℕ) (texts : List (List ℕ)) (file : FileView) → AreRecords file
    → AreRecords (with_lines name n texts file)
unfolding with_lines
lines-kept name n [] file h = h
lines-kept name n (text ∷ texts) file h =
    lines-kept name (n + 1) texts (with_line name n text file) (line-kept name n text file h)

-- the records of each file have such texts
pub file-texts : (name bytes : List ℕ) → AllByRecursion IsRecord (records_of_file name bytes).records
file-texts name bytes = lines-kept name 1 (slice_split is_line_end bytes) no_lines tt
