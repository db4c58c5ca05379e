-- What a record of a file brings is of names that are names, and it has no more dependencies than its line has bytes.
use Rattle.std.proofs.Common.{◌≡◌, ℕ, suc, ◌+◌, ◌≤◌, ◌==◌, ◌||◌, Bool, true, false, cond, List, [], ◌∷◌, ◌++◌, length}
use Rattle.std.proofs.Common.{Option, Some, None, option_and_then, codes, Result, Ok, Err, IfOk, IfSome, All}
use Rattle.std.proofs.Common.{refl, ◌<◌}
use Rattle.std.proofs.Common.{sym, subst, arith, Ordering, Less, Equal, Greater, nat_cmp}
use Rattle.std.proofs.lemmas.List.Elements.{All-append, All-cons, All-head, All-map, All-nil, All-tail, All-weaker}
use Rattle.std.specs.Cmp.Lexicographic.{slice_cmp}
use Rattle.std.specs.List.{list_all, onto_first, slice_split}
use Rattle.std.specs.Map.{set_value}
use Rattle.std.specs.Option.{ok_or}
use Rattle.std.specs.Ordering.{match_ordering}
use Rattle.std.proofs.lemmas.List.Splits.{slice_split-cons_yes, slice_split-cons_no}
use Rattle.semver.specs.Parse.{Held, version_parts}
use Rattle.serde_json.specs.Data.{Data, null, boolean, number, string, array, object, Items, no_items, item, Members}
use Rattle.serde_json.specs.Data.{no_members, member}
use Rattle.serde_json.specs.Find.{get, get_member, as_str, as_bool}
use Rattle.model.specs.Outcome.{◌>>=◌}
use Rattle.model.specs.Summary as model
use Rattle.model.specs.Summary.{Entry, Table, entries_at, same_text}
use Rattle.model.specs.Tables.{TableFault, Written, table_of}
use Rattle.trees.specs.Trees.{is_blank, is_line_end}
use Rattle.trees.specs.Trees as trees
use Rattle.trees.proofs.Sizes.{size, items_size, members_size, size-some, data-few}
use Rattle.features.specs.Names.{entry_of, is_package_name, is_feature_name}
use Rattle.features.specs.inner.Valid.{IsPackageName, IsFeatureName, IsValidEntry, IsValidRow, IsValidDependency}
use Rattle.features.specs.inner.Valid.{BringsValid}
use Rattle.features.proofs.ValidLemmas.{entry-valid, row-valid, built-valid}
use Rattle.index_lines.specs.Shapes.{Line, needed, unless_null, value_at, text_at, flag_at, whole_at}
use Rattle.index_lines.specs.Shapes.{texts_or_none, features_at, package_name_of, needed_name, package_name_at}
use Rattle.index_lines.specs.Shapes.{kind_at, is_dev, PartView, DependencyView, dev, part, ValuesView, values_of}
use Rattle.index_lines.specs.Shapes.{part_with}
use Rattle.index_lines.specs.Shapes.{package_name_or_none, optional, text_of, dependency_of}
use Rattle.index_lines.specs.Shapes.{dependencies_in, needed_dependencies, dependencies_at, FeatureView, ShapeView}
use Rattle.index_lines.specs.Shapes.{shape_of}
use Rattle.index_lines.specs.Records.{feature_name_of, entry_read, entries_read, feature_read, with_more, joined}
use Rattle.index_lines.specs.Records.{with_feature, with_features, written_of, dep_name_of, dep_names_of, unless_faulty}
use Rattle.index_lines.specs.Records.{features_of, RecordView, unless, semver_or, required_part, required}
use Rattle.index_lines.specs.Records.{is_empty_text, before, feature_names, dependency_read, dependencies_read}
use Rattle.index_lines.specs.Records.{is_of_index, is_checksum, unchecked_of_shape, unchecked_of_line}
use Rattle.index_reader.specs.Files.{FileView, has_version, no_lines, with_skip, with_found, with_read, with_line}
use Rattle.index_reader.specs.Files.{with_lines, records_of_file}
use Rattle.index_lines.specs.declared.fault.LineFault.TheVariants.{OutOfMemory, Skipped}
use Rattle.index_lines.specs.declared.fault.SkipReason.TheVariants as reason

-- ---- one step after another

module _ {A B : Type 0} where
  after : (P : A → Type 0) (Q : B → Type 0) (m : Line A) (f : A → Line B) → IfOk m P
      → ((x : A) → P x → IfOk (f x) Q) → IfOk (m >>= f) Q
  after P Q (Ok x) f h g = g x h
  after P Q (Err e) f h g = tt

  -- a step of which nothing need be known
  past : (Q : B → Type 0) (m : Line A) (f : A → Line B) → ((x : A) → IfOk (f x) Q) → IfOk (m >>= f) Q
  past Q (Ok x) f g = g x
  past Q (Err e) f g = tt

-- ---- the dependencies of a line's shape

abbrev IsNamed : DependencyView → Type 0
IsNamed (dev name) = IsPackageName name
IsNamed (part p) = IsPackageName p.name

-- so many at most, and each called by a name
record AreFew (most : ℕ) (ds : List DependencyView) : Type 0 where
  few : length ds ≤ most
  named : All IsNamed ds

package-named : (d : Data) → IfOk (package_name_of d) IsPackageName
package-named d = past IsPackageName (needed (as_str d)) _ (λ text. by text (is_package_name text) refl)
  where
    by : (text : List ℕ) (b : Bool) → is_package_name text ≡ b
        → IfOk (cond b (Ok text) (Err (Skipped reason.Shape))) IsPackageName
    by text true e = e
    by text false e = tt

name-named : (o : Option Data) → IfOk (needed_name o) IsPackageName
name-named o = past IsPackageName (needed o) package_name_of package-named

part-named : (name : List ℕ) (v : ValuesView) → IsPackageName name
    → IfOk (part_with name v) (λ p. IsPackageName p.name)
unfolding part_with
part-named name v h =
    past (λ (p : PartView). IsPackageName p.name) (package_name_or_none v.package_value) _ (λ real_name.
    past (λ (p : PartView). IsPackageName p.name) (needed (option_and_then as_str v.requirement_value)) _
    (λ requirement.
    past (λ (p : PartView). IsPackageName p.name) (optional false as_bool v.optional_value) _ (λ optional_flag.
    past (λ (p : PartView). IsPackageName p.name) (optional true as_bool v.default_features_value) _
    (λ default_flag.
    past (λ (p : PartView). IsPackageName p.name) (texts_or_none v.features_value) _ (λ features.
    past (λ (p : PartView). IsPackageName p.name) (optional None text_of v.registry_value) _ (λ registry. h))))))

dependency-named : (d : Data) → IfOk (dependency_of d) IsNamed
unfolding dependency_of
dependency-named d =
    after IsPackageName IsNamed (package_name_at (codes "name") d) _ (name-named (value_at (codes "name") d)) (λ name h.
    past IsNamed (kind_at d) _ (λ kind. by name h (is_dev kind)))
  where
    by : (name : List ℕ) → IsPackageName name → (b : Bool)
        → IfOk (cond b (Ok (dev name)) (part_with name (values_of d) >>= λ p. Ok (part p))) IsNamed
    by name h true = h
    by name h false = after (λ (p : PartView). IsPackageName p.name) IsNamed (part_with name (values_of d))
        (λ p. Ok (part p)) (part-named name (values_of d) h) (λ p g. g)

dependencies-few : (ds : Items) → IfOk (dependencies_in ds) (AreFew (items_size ds))
unfolding dependencies_in
dependencies-few no_items = record { few = omega arith; named = All-nil IsNamed }
dependencies-few (item d ds) =
    after IsNamed (AreFew (items_size (item d ds))) (dependency_of d) _ (dependency-named d) (λ first h.
    after (AreFew (items_size ds)) (AreFew (items_size (item d ds))) (dependencies_in ds) _ (dependencies-few ds)
    (λ others g.
    record { few = omega (arith, g.few, size-some d); named = All-cons IsNamed first others h g.named }))

abbrev IsWithin : ℕ → Data → Type 0
IsWithin n d = size d ≤ n

member-within : (k : List ℕ) (ms : Members) → IfSome (get_member k ms) (IsWithin (members_size ms))
member-within k no_members = tt
member-within k (member l d ms) = by (slice_cmp nat_cmp k l) (get_member k ms) (member-within k ms)
  where
    by : (c : Ordering) (o : Option Data) → IfSome o (IsWithin (members_size ms))
        → IfSome (match_ordering c o (Some d) o) (IsWithin (members_size (member l d ms)))
    by Less None h = tt
    by Less (Some e) h = omega (arith, h)
    by Equal o h = omega arith
    by Greater None h = tt
    by Greater (Some e) h = omega (arith, h)

got-within : (k : List ℕ) (d : Data) (n : ℕ) → size d ≤ n → IfSome (get k d) (IsWithin n)
got-within k null n le = tt
got-within k (boolean b) n le = tt
got-within k (number m) n le = tt
got-within k (string s) n le = tt
got-within k (array ds) n le = tt
got-within k (object ms) n le = by (get_member k ms) (member-within k ms)
  where
    by : (o : Option Data) → IfSome o (IsWithin (members_size ms)) → IfSome o (IsWithin n)
    by None h = tt
    by (Some e) h = omega (arith, le, h)

items-few : (n : ℕ) (o : Option Data) → IfSome o (IsWithin n) → IfOk (needed_dependencies (unless_null o)) (AreFew n)
items-few n None h = tt
items-few n (Some null) h = tt
items-few n (Some (boolean b)) h = tt
items-few n (Some (number m)) h = tt
items-few n (Some (string s)) h = tt
items-few n (Some (array ds)) h = by (dependencies_in ds) (dependencies-few ds)
  where
    by : (m : Line (List DependencyView)) → IfOk m (AreFew (items_size ds)) → IfOk m (AreFew n)
    by (Ok es) g = record { few = omega (arith, g.few, h); named = g.named }
    by (Err e) g = tt
items-few n (Some (object ms)) h = tt

at-few : (d : Data) (n : ℕ) → size d ≤ n → IfOk (dependencies_at d) (AreFew n)
unfolding dependencies_at
at-few d n le = items-few n (get (codes "deps") d) (got-within (codes "deps") d n le)

shape-few : (d : Data) (n : ℕ) → size d ≤ n → IfOk (shape_of d) (λ s. AreFew n s.dependencies)
unfolding shape_of
shape-few d n le =
    past (λ (s : ShapeView). AreFew n s.dependencies) (text_at (codes "name") d) _ (λ name.
    past (λ (s : ShapeView). AreFew n s.dependencies) (text_at (codes "vers") d) _ (λ version.
    past (λ (s : ShapeView). AreFew n s.dependencies) (text_at (codes "cksum") d) _ (λ checksum.
    after (AreFew n) (λ (s : ShapeView). AreFew n s.dependencies) (dependencies_at d) _ (at-few d n le)
    (λ dependencies h.
    past (λ (s : ShapeView). AreFew n s.dependencies) (features_at (codes "features") d) _ (λ features.
    past (λ (s : ShapeView). AreFew n s.dependencies) (features_at (codes "features2") d) _ (λ features2.
    past (λ (s : ShapeView). AreFew n s.dependencies) (flag_at (codes "yanked") false d) _ (λ yanked.
    past (λ (s : ShapeView). AreFew n s.dependencies) (whole_at (codes "v") 1 d) _ (λ format. h))))))))

-- ---- dependencies that are read

required-few : (ds : List DependencyView) → IfOk (required ds) (λ ps. length ps ≤ length ds)
unfolding required
required-few [] = omega arith
required-few (dev name ∷ ds) = by (required ds) (required-few ds)
  where
    by : (m : Line (List (PartView × List Held))) → IfOk m (λ ps. length ps ≤ length ds)
        → IfOk m (λ ps. length ps ≤ suc (length ds))
    by (Ok ps) h = omega (arith, h)
    by (Err e) h = tt
required-few (part p ∷ ds) =
    past (λ (ps : List (PartView × List Held)). length ps ≤ suc (length ds)) (required_part p) _ (λ first.
    after (λ (ps : List (PartView × List Held)). length ps ≤ length ds)
    (λ (ps : List (PartView × List Held)). length ps ≤ suc (length ds)) (required ds) _ (required-few ds)
    (λ others h. omega (arith, h)))

feature-named : (text : List ℕ) → IfOk (feature_name_of text) IsFeatureName
feature-named text = by (is_feature_name text) refl
  where
    by : (b : Bool) → is_feature_name text ≡ b
        → IfOk (cond b (Ok text) (Err (Skipped reason.BadFeatures))) IsFeatureName
    by true e = e
    by false e = tt

names-named : (texts : List (List ℕ)) → IfOk (feature_names texts) (All IsFeatureName)
unfolding feature_names
names-named [] = All-nil IsFeatureName
names-named (text ∷ texts) = by (is_empty_text text) (names-named texts)
  where
    by : (b : Bool) → IfOk (feature_names texts) (All IsFeatureName)
        → IfOk (cond b (feature_names texts) (before (feature_name_of text) (feature_names texts))) (All IsFeatureName)
    by true h = h
    by false h = after IsFeatureName (All IsFeatureName) (feature_name_of text)
        (λ x. feature_names texts >>= λ xs. Ok (x ∷ xs)) (feature-named text) (λ x g.
        after (All IsFeatureName) (All IsFeatureName) (feature_names texts) (λ xs. Ok (x ∷ xs)) h
        (λ xs f. All-cons IsFeatureName x xs g f))

read-named : (d : PartView × List Held) → IfOk (dependency_read d) IsValidDependency
unfolding dependency_read
read-named d = after (All IsFeatureName) IsValidDependency (feature_names d.0.features) _ (names-named d.0.features)
    (λ features h. h)

record AreRead (n : ℕ) (ds : List model.Dependency) : Type 0 where
  few : length ds ≤ n
  valid : All IsValidDependency ds

all-read : (ds : List (PartView × List Held)) → IfOk (dependencies_read ds) (AreRead (length ds))
unfolding dependencies_read
all-read [] = record { few = omega arith; valid = All-nil IsValidDependency }
all-read (d ∷ ds) =
    after IsValidDependency (AreRead (suc (length ds))) (dependency_read d) _ (read-named d) (λ first h.
    after (AreRead (length ds)) (AreRead (suc (length ds))) (dependencies_read ds) _ (all-read ds) (λ others g.
    record { few = omega (arith, g.few); valid = All-cons IsValidDependency first others h g.valid }))

-- ---- features that are read

entry-read : (text : List ℕ) → IfOk (entry_read text) IsValidEntry
entry-read text = by (entry_of text) (entry-valid text)
  where
    by : (o : Option Entry) → IfSome o IsValidEntry → IfOk (ok_or o (Skipped reason.BadFeatures)) IsValidEntry
    by None h = tt
    by (Some e) h = h

entries-valid : (texts : List (List ℕ)) → IfOk (entries_read texts) (All IsValidEntry)
unfolding entries_read
entries-valid [] = All-nil IsValidEntry
entries-valid (text ∷ texts) =
    after IsValidEntry (All IsValidEntry) (entry_read text) _ (entry-read text) (λ first h.
    after (All IsValidEntry) (All IsValidEntry) (entries_read texts) _ (entries-valid texts) (λ others g.
    All-cons IsValidEntry first others h g))

feature-valid : (f : FeatureView) → IfOk (feature_read f) IsValidRow
unfolding feature_read
feature-valid f = after IsFeatureName IsValidRow (feature_name_of f.name) _ (feature-named f.name) (λ name h.
    after (All IsValidEntry) IsValidRow (entries_read f.entries) _ (entries-valid f.entries) (λ entries g. (h, g)))

entries-there : (f : List ℕ) (table : Table) → All IsValidRow table → IfSome (entries_at f table) (All IsValidEntry)
entries-there f [] h = tt
entries-there f (row ∷ rows) h = by (same_text f row.0) (entries-there f rows (All-tail IsValidRow row rows h))
  where
    by : (b : Bool) → IfSome (entries_at f rows) (All IsValidEntry)
        → IfSome (cond b (Some row.1) (entries_at f rows)) (All IsValidEntry)
    by true more = (All-head IsValidRow row rows h).1
    by false more = more

set-valid : (f : List ℕ) (table : Table) (es : List Entry) → All IsValidRow table → All IsValidEntry es
    → All IsValidRow (set_value (same_text f) table es)
set-valid f [] es h g = h
set-valid f (row ∷ rows) es h g = by (same_text f row.0) (set-valid f rows es (All-tail IsValidRow row rows h) g)
  where
    by : (b : Bool) → All IsValidRow (set_value (same_text f) rows es)
        → All IsValidRow (cond b ((row.0, es) ∷ rows) (row ∷ set_value (same_text f) rows es))
    by true more = All-cons IsValidRow (row.0, es) rows ((All-head IsValidRow row rows h).0, g)
        (All-tail IsValidRow row rows h)
    by false more = All-cons IsValidRow row (set_value (same_text f) rows es) (All-head IsValidRow row rows h) more

joined-valid : (written : Written) (row : List ℕ × List Entry) → All IsValidRow written → IsValidRow row
    → All IsValidRow (joined written row)
joined-valid written row h g = by (entries_at row.0 written) (entries-there row.0 written h)
  where
    by : (o : Option (List Entry)) → IfSome o (All IsValidEntry)
        → All IsValidRow (with_more o written row.0 row.1)
    by None there = row-valid written row.0 row.1 g.0 g.1 h
    by (Some es) there =
        set-valid row.0 written (es ++ row.1) h (All-append IsValidEntry es row.1 there g.1)

written-valid : (written : Written) (fs : List FeatureView) → All IsValidRow written
    → IfOk (with_features written fs) (All IsValidRow)
unfolding with_features
written-valid written [] h = h
written-valid written (f ∷ fs) h =
    after (All IsValidRow) (All IsValidRow) (with_feature written f) _
    (after IsValidRow (All IsValidRow) (feature_read f) (λ row. Ok (joined written row)) (feature-valid f)
    (λ row g. joined-valid written row h g))
    (λ next g. written-valid next fs g)

named-names : (ds : List DependencyView) → All IsNamed ds → All (λ d. IsPackageName d.name) (dep_names_of ds)
named-names ds h = All-map (λ d. IsPackageName d.name) dep_name_of ds
    (All-weaker IsNamed (λ d. IsPackageName (dep_name_of d).name) one ds h)
  where
    one : (d : DependencyView) → IsNamed d → IsPackageName (dep_name_of d).name
    one (dev name) h = h
    one (part p) h = h

table-valid : (s : ShapeView) → All IsNamed s.dependencies → IfOk (features_of s) (All IsValidRow)
unfolding features_of
table-valid s named =
    after (All IsValidRow) (All IsValidRow) (written_of s) _
    (after (All IsValidRow) (All IsValidRow) (with_features [] s.features)
    (λ written. with_features written s.features2) (written-valid [] s.features (All-nil IsValidRow))
    (λ written h. written-valid written s.features2 h))
    (λ written h. by written h (table_of (dep_names_of s.dependencies) written) refl)
  where
    by : (written : Written) → All IsValidRow written → (r : Result Table (TableFault × List ℕ))
        → table_of (dep_names_of s.dependencies) written ≡ r → IfOk (unless_faulty r) (All IsValidRow)
    by written h (Ok t) is = built-valid (dep_names_of s.dependencies) written t
        (named-names s.dependencies named) h is
    by written h (Err e) is = tt

-- ---- lines and files

abbrev Brings : RecordView → Type 0
Brings r = BringsValid r.brings

shape-valid : (asked : List ℕ) (s : ShapeView) → AreFew 4294967296 s.dependencies
    → IfOk (unchecked_of_shape asked s) Brings
unfolding unchecked_of_shape
shape-valid asked s h =
    past Brings (unless (s.format == 1 || s.format == 2) reason.NewerFormat) _ (λ format.
    past Brings (unless (same_text s.name asked) reason.OtherName) _ (λ name.
    past Brings (semver_or reason.BadVersion (version_parts s.version)) _ (λ version.
    after (λ (ps : List (PartView × List Held)). length ps ≤ length s.dependencies) Brings (required s.dependencies) _
    (required-few s.dependencies) (λ parts few.
    after (AreRead (length parts)) Brings (dependencies_read parts) _ (all-read parts) (λ dependencies d.
    after (All IsValidRow) Brings (features_of s) _ (table-valid s h.named) (λ features f.
    past Brings (unless (list_all is_of_index s.dependencies) reason.OtherRegistry) _ (λ registries.
    record { few = omega (arith, d.few, few, h.few); dependencies = d.valid; features = f })))))))

-- what a line below 4 GiB says brings valid parts
line-valid : (asked line : List ℕ) → suc (length line) ≤ 4294967296 → IfOk (unchecked_of_line asked line) Brings
unfolding unchecked_of_line
line-valid asked line short = by (trees.data_of_bytes line) refl
  where
    by : (o : Option Data) → trees.data_of_bytes line ≡ o → IfOk (ok_or o (Skipped reason.NotJson) >>= λ d.
        shape_of d >>= λ s. unchecked_of_shape asked s) Brings
    by None is = tt
    by (Some d) is = after (λ (s : ShapeView). AreFew 4294967296 s.dependencies) Brings (shape_of d)
        (unchecked_of_shape asked)
        (shape-few d 4294967296 (omega (arith, short, data-few line d is))) (shape-valid asked)

record-valid : (name : List ℕ) (n : ℕ) (r : RecordView) (file : FileView) → All Brings file.records → Brings r
    → All Brings (with_found name n r file).records
record-valid name n r file h g = by (is_checksum r.checksum) (has_version file.records r.version)
  where
    by : (b c : Bool) → All Brings (cond b (cond c (with_skip name n reason.Duplicate file)
        (record { records = file.records ++ r ∷ []; skips = file.skips }))
        (with_skip name n (cond c reason.Duplicate reason.BadChecksum) file)).records
    by true true = h
    by true false = All-append Brings file.records (r ∷ []) h (All-cons Brings r [] g (All-nil Brings))
    by false c = h

read-valid : (name : List ℕ) (n : ℕ) (m : Line RecordView) (file : FileView) → All Brings file.records → IfOk m Brings
    → All Brings (with_read name n m file).records
read-valid name n (Ok r) file h g = record-valid name n r file h g
read-valid name n (Err (Skipped why)) file h g = h
read-valid name n (Err OutOfMemory) file h g = h

abbrev IsShort : List ℕ → Type 0
IsShort text = suc (length text) ≤ 4294967296

lines-valid : (name : List ℕ) (n : ℕ) (texts : List (List ℕ)) (file : FileView) → All IsShort texts
    → All Brings file.records → All Brings (with_lines name n texts file).records
unfolding with_lines
lines-valid name n [] file short h = h
lines-valid name n (text ∷ texts) file short h =
    lines-valid name (n + 1) texts (with_line name n text file) (All-tail IsShort text texts short)
    (by (is_blank text))
  where
    by : (b : Bool) → All Brings (cond b file (with_read name n (unchecked_of_line name text) file)).records
    by true = h
    by false = read-valid name n (unchecked_of_line name text) file h
        (line-valid name text (All-head IsShort text texts short))

-- no line is longer than the whole
abbrev AreWithin : ℕ → List (List ℕ) → Type 0
AreWithin n parts = All (λ part. length part ≤ n) parts

parts-short : (p : ℕ → Bool) (bytes : List ℕ) → AreWithin (length bytes) (slice_split p bytes)
parts-short p [] = All-cons (λ part. length part ≤ 0) [] [] (omega arith) (All-nil (λ part. length part ≤ 0))
parts-short p (b ∷ bytes) = by (p b) refl (parts-short p bytes)
  where
    longer : (parts : List (List ℕ)) → AreWithin (length bytes) parts → AreWithin (suc (length bytes)) parts
    longer parts h = All-weaker (λ part. length part ≤ length bytes) (λ part. length part ≤ suc (length bytes))
        (λ part le. omega (arith, le)) parts h

    onto : (parts : List (List ℕ)) → AreWithin (length bytes) parts
        → AreWithin (suc (length bytes)) (onto_first b parts)
    onto [] h = All-cons (λ part. length part ≤ suc (length bytes)) (b ∷ []) []
        (omega arith) (All-nil (λ part. length part ≤ suc (length bytes)))
    onto (first ∷ parts) h =
        let le = All-head (λ part. length part ≤ length bytes) first parts h in
        All-cons (λ part. length part ≤ suc (length bytes)) (b ∷ first) parts (omega (arith, le))
        (longer parts (All-tail (λ part. length part ≤ length bytes) first parts h))

    by : (c : Bool) → p b ≡ c → AreWithin (length bytes) (slice_split p bytes)
        → AreWithin (suc (length bytes)) (slice_split p (b ∷ bytes))
    by true e h = subst (AreWithin (suc (length bytes))) (sym (slice_split-cons_yes p b bytes e))
        (All-cons (λ part. length part ≤ suc (length bytes)) [] (slice_split p bytes) (omega arith)
        (longer (slice_split p bytes) h))
    by false e h = subst (AreWithin (suc (length bytes))) (sym (slice_split-cons_no p b bytes e))
        (onto (slice_split p bytes) h)

-- each record of a file below 4 GiB brings valid parts
pub file-valid : (name bytes : List ℕ) → length bytes < 4294967296
    → All (λ (r : RecordView). BringsValid r.brings) (records_of_file name bytes).records
file-valid name bytes short = lines-valid name 1 (slice_split is_line_end bytes) no_lines
    (All-weaker (λ part. length part ≤ length bytes) IsShort (λ part le. omega (arith, le, short))
    (slice_split is_line_end bytes) (parts-short is_line_end bytes)) (All-nil Brings)
