-- A line whose parts are read on their own says what they say together.
use Rattle.std.proofs.Common.{◌≡◌, ◌≢◌, ℕ, List, [], ◌∷◌, Bool, true, false, not, ◌==◌, ◌||◌, Option, Some, None}
use Rattle.std.proofs.Common.{is_none, option_and_then, Ok, Err, codes, refl, sym, ap, ◌∙◌}
use Rattle.std.specs.List.{list_all}
use Rattle.std.specs.Option.{ok_or, option_or}
use Rattle.std.proofs.lemmas.Bool.{and_parts}
use Rattle.semver.specs.Parse.{Parts, version_parts}
use Rattle.serde_json.specs.Data.{Data, null, boolean, number, string, array, object, Members, no_members}
use Rattle.serde_json.specs.Find.{get_member, as_bool, as_str}
use Rattle.model.specs.Outcome.{◌>>=◌}
use Rattle.model.specs.Summary as model
use Rattle.model.specs.Summary.{Table, same_text}
use Rattle.model.specs.Tables.{DepName, table_of}
use Rattle.model.proofs.Same.{text-refl}
use Rattle.trees.specs.inner.Parts.{data_within, first_members, part_depth}
use Rattle.trees.specs.Trees as trees
use Rattle.trees.proofs.PartsLemmas.{line-members}
use Rattle.trees.proofs.TreeLemmas.{or_none}
use Rattle.index_lines.specs.inner.ByParts.{IsCut, RestView, dependencies_of_bytes, dependencies_of_shapes, lacks}
use Rattle.index_lines.specs.inner.ByParts.{lacks_parts, part_of_bytes, record_of_parts, rest_of, rest_of_bytes}
use Rattle.index_lines.specs.inner.ByParts.{table_alone}
use Rattle.index_lines.specs.inner.ByParts.{table_of_bytes}
use Rattle.index_lines.specs.Records.{RecordView, dependencies_read, is_of_index, required, semver_or, unless}
use Rattle.index_lines.specs.Records.{unchecked_of_shape, unchecked_of_line, dep_names_of, features_of, unless_faulty}
use Rattle.index_lines.specs.Records.{with_features, written_of}
use Rattle.index_lines.specs.Shapes.{Line, DependencyView, FeatureView, ShapeView, as_whole, data_of_bytes, needed}
use Rattle.index_lines.specs.Shapes.{dependencies_at, features_at, features_or_none, flag_at, needed_dependencies}
use Rattle.index_lines.specs.Shapes.{optional, rust_version_at, rust_version_in, shape_of, text_at, unless_null}
use Rattle.index_lines.specs.Shapes.{value_at, whole_at}
use Rattle.index_lines.specs.declared.shortcuts.split.LineParts.{LineParts}
use Rattle.index_lines.specs.declared.fault.SkipReason.{SkipReason}
use Rattle.index_lines.specs.declared.fault.LineFault.TheVariants.{Skipped}
use Rattle.index_lines.specs.declared.fault.SkipReason.TheVariants.{NotJson, NewerFormat, OtherName, BadVersion}
use Rattle.index_lines.specs.declared.fault.SkipReason.TheVariants.{OtherRegistry, Shape}
use Rattle.index_lines.proofs.CutLemmas.{name-plain}
use Rattle.index_lines.proofs.WrittenLemmas.{nothing-more}

-- ---- what a line has at its keys

record Has (line : Data) (name version checksum : List ℕ) (deps features rest : Data) : Type 0 where
  name_is : value_at (codes "name") line ≡ Some (string name)
  version_is : value_at (codes "vers") line ≡ Some (string version)
  checksum_is : value_at (codes "cksum") line ≡ Some (string checksum)
  deps_are : value_at (codes "deps") line ≡ unless_null (Some deps)
  features_are : value_at (codes "features") line ≡ unless_null (Some features)
  no_more : value_at (codes "features2") line ≡ None
  yanked_is : value_at (codes "yanked") line ≡ value_at (codes "yanked") rest
  format_is : value_at (codes "v") line ≡ value_at (codes "v") rest
  rust_version_is : value_at (codes "rust_version") line ≡ value_at (codes "rust_version") rest

none-there : (o : Option Data) → is_none o ≡ true → o ≡ None
none-there None h = refl
none-there (Some d) h = cc

some-members : (rest : Data) → not (lacks (codes "yanked") rest) ≡ true
    → (others : Members) × (rest ≡ object others) × (others ≢ no_members)
some-members null h = cc
some-members (boolean b) h = cc
some-members (number n) h = cc
some-members (string s) h = cc
some-members (array ds) h = cc
some-members (object no_members) h = cc
some-members (object others) h = (others, refl, λ none. cc)

record Lacks (others : Members) : Type 0 where
  name : get_member (codes "name") others ≡ None
  version : get_member (codes "vers") others ≡ None
  deps : get_member (codes "deps") others ≡ None
  checksum : get_member (codes "cksum") others ≡ None
  features : get_member (codes "features") others ≡ None
  features2 : get_member (codes "features2") others ≡ None

all-lacking : (others : Members) → lacks_parts (object others) ≡ true → Lacks others
all-lacking others h =
    let at = λ (key : List ℕ) (e : lacks key (object others) ≡ true). none-there (get_member key others) e in
    let a = and_parts (lacks (codes "name") (object others)) _ h in
    let b = and_parts (lacks (codes "vers") (object others)) _ a.1 in
    let c = and_parts (lacks (codes "deps") (object others)) _ b.1 in
    let d = and_parts (lacks (codes "cksum") (object others)) _ c.1 in
    let e = and_parts (lacks (codes "features") (object others)) (lacks (codes "features2") (object others)) d.1 in
    record {
      name = at (codes "name") a.0;
      version = at (codes "vers") b.0;
      checksum = at (codes "cksum") d.0;
      deps = at (codes "deps") c.0;
      features = at (codes "features") e.0;
      features2 = at (codes "features2") e.1;
    }

has-parts : (name version checksum : List ℕ) (deps features : Data) (others found : Members) → Lacks others
    → ((key : List ℕ) → get_member key found
    ≡ option_or (get_member key others) (get_member key (first_members name version deps checksum features)))
    → Has (object found) name version checksum deps features (object others)
has-parts name version checksum deps features others found lacking at =
    let first = first_members name version deps checksum features in
    let own = λ (key : List ℕ) (none : get_member key others ≡ None). ap unless_null
    (at key ∙ ap (λ o. option_or o (get_member key first)) none) in
    let other = λ (key : List ℕ) (none : get_member key first ≡ None). ap unless_null
    (at key ∙ ap (option_or (get_member key others)) none ∙ or_none (get_member key others)) in
    record {
      name_is = own (codes "name") lacking.name;
      version_is = own (codes "vers") lacking.version;
      checksum_is = own (codes "cksum") lacking.checksum;
      deps_are = own (codes "deps") lacking.deps;
      features_are = own (codes "features") lacking.features;
      no_more = own (codes "features2") lacking.features2;
      yanked_is = other (codes "yanked") refl;
      format_is = other (codes "v") refl;
      rust_version_is = other (codes "rust_version") refl;
    }

-- ---- what these make

pub goes : {A B : Type 0} (m : Line A) (f : A → Line B) (x : A) (y : Line B) → m ≡ Ok x → f x ≡ y → (m >>= f) ≡ y
goes m f x y is then = ap (λ r. r >>= f) is ∙ then

pub steps : {A B : Type 0} (m : Line A) (f : A → Line B) (y : B) → (m >>= f) ≡ Ok y
    → (x : A) × (m ≡ Ok x) × (f x ≡ Ok y)
steps (Ok x) f y is = (x, refl, is)
steps (Err e) f y is = cc

shape-by : (line : Data) (name version checksum : List ℕ) (deps features rest : Data)
    (ds : List DependencyView) (fs : List FeatureView) (yanked : Bool) (format : ℕ)
    → Has line name version checksum deps features rest → needed_dependencies (unless_null (Some deps)) ≡ Ok ds
    → features_or_none (unless_null (Some features)) ≡ Ok fs → flag_at (codes "yanked") false rest ≡ Ok yanked
    → whole_at (codes "v") 1 rest ≡ Ok format
    → shape_of line ≡ Ok (record {
      name = name;
      version = version;
      checksum = checksum;
      dependencies = ds;
      features = fs;
      features2 = [];
      yanked = yanked;
      format = format;
      rust_version = rust_version_at rest;
    })
unfolding shape_of dependencies_at
shape-by line name version checksum deps features rest ds fs yanked format has deps_are features_are yanked_is
    format_is =
    let text = λ (o : Option Data). needed (option_and_then as_str o) in
    goes (text_at (codes "name") line) _ name _ (ap text has.name_is)
    (goes (text_at (codes "vers") line) _ version _ (ap text has.version_is)
    (goes (text_at (codes "cksum") line) _ checksum _ (ap text has.checksum_is)
    (goes (dependencies_at line) _ ds _ (ap needed_dependencies has.deps_are ∙ deps_are)
    (goes (features_at (codes "features") line) _ fs _ (ap features_or_none has.features_are ∙ features_are)
    (goes (features_at (codes "features2") line) _ [] _ (ap features_or_none has.no_more)
    (goes (flag_at (codes "yanked") false line) _ yanked _ (ap (optional false as_bool) has.yanked_is ∙ yanked_is)
    (goes (whole_at (codes "v") 1 line) _ format _ (ap (optional 1 as_whole) has.format_is ∙ format_is)
    (ap (λ o. Ok (record {
      name = name;
      version = version;
      checksum = checksum;
      dependencies = ds;
      features = fs;
      features2 = [];
      yanked = yanked;
      format = format;
      rust_version = rust_version_in o;
    })) has.rust_version_is))))))))

unchecked-by : (name : List ℕ) (s : ShapeView) (version : Parts) (ds : List model.Dependency) (table : model.Table)
    → (s.format == 1 || s.format == 2) ≡ true → same_text s.name name ≡ true
    → semver_or BadVersion (version_parts s.version) ≡ Ok version
    → (required s.dependencies >>= dependencies_read) ≡ Ok ds → features_of s ≡ Ok table
    → list_all is_of_index s.dependencies ≡ true
    → unchecked_of_shape name s ≡ Ok (record {
      version = version;
      checksum = s.checksum;
      yanked = s.yanked;
      rust_version = s.rust_version;
      brings = record { dependencies = ds; features = table };
    })
unfolding unchecked_of_shape
unchecked-by name s version ds table format_is name_is version_is said features_are own =
    let parts = steps (required s.dependencies) dependencies_read ds said in
    goes (unless (s.format == 1 || s.format == 2) NewerFormat) _ tt _ (ap (λ b. unless b NewerFormat) format_is)
    (goes (unless (same_text s.name name) OtherName) _ tt _ (ap (λ b. unless b OtherName) name_is)
    (goes (semver_or BadVersion (version_parts s.version)) _ version _ version_is
    (goes (required s.dependencies) _ parts.0 _ parts.1
    (goes (dependencies_read parts.0) _ ds _ parts.2
    (goes (features_of s) _ table _ features_are
    (goes (unless (list_all is_of_index s.dependencies) OtherRegistry) _ tt _ (ap (λ b. unless b OtherRegistry) own)
    refl))))))

-- ---- a line by its parts

features-alone : (s : ShapeView) (names : List DepName) (table : Table) → dep_names_of s.dependencies ≡ names
    → s.features2 ≡ [] → table_alone names s.features ≡ Ok table → features_of s ≡ Ok table
unfolding features_of
features-alone s names table named none is =
    let written = steps (with_features [] s.features) (λ w. unless_faulty (table_of names w)) table is in
    goes (written_of s) _ written.0 _ (nothing-more s written.0 none written.1)
    (ap (λ ds. unless_faulty (table_of ds written.0)) named ∙ written.2)

pub passed : (test : Bool) (why : SkipReason) (u : Unit {0}) → unless test why ≡ Ok u → test ≡ true
passed true why u is = refl
passed false why u is = cc

pub there : (o : Option Data) (d : Data) → ok_or o (Skipped NotJson) ≡ Ok d → o ≡ Some d
there None d is = cc
there (Some e) d is = cc

-- what the bytes of dependencies are
record AreDependencies (bytes : List ℕ) (names : List DepName) (ds : List model.Dependency) : Type 0 where
  value : Data
  read : data_within part_depth bytes ≡ Some value
  shapes : List DependencyView
  shaped : needed_dependencies (unless_null (Some value)) ≡ Ok shapes
  named : dep_names_of shapes ≡ names
  said : (required shapes >>= dependencies_read) ≡ Ok ds
  own : list_all is_of_index shapes ≡ true

are-dependencies : (bytes : List ℕ) (d : List DepName × List model.Dependency) → dependencies_of_bytes bytes ≡ Ok d
    → AreDependencies bytes d.0 d.1
unfolding dependencies_of_bytes
are-dependencies bytes d is =
    let value = steps (part_of_bytes bytes) _ d is in
    let shapes = steps (needed_dependencies (unless_null (Some value.0))) _ d value.2 in
    let own = steps (unless (list_all is_of_index shapes.0) OtherRegistry) _ d shapes.2 in
    let read = steps (dependencies_of_shapes shapes.0) _ d own.2 in
    record {
      value = value.0;
      read = there (data_within part_depth bytes) value.0 value.1;
      shapes = shapes.0;
      shaped = shapes.1;
      named = cc;
      said = read.1 ∙ cc;
      own = passed (list_all is_of_index shapes.0) OtherRegistry own.0 own.1;
    }

-- what the bytes of features are
record AreFeatures (bytes : List ℕ) (names : List DepName) (table : Table) : Type 0 where
  value : Data
  read : data_within part_depth bytes ≡ Some value
  features : List FeatureView
  shaped : features_or_none (unless_null (Some value)) ≡ Ok features
  made : table_alone names features ≡ Ok table

are-features : (names : List DepName) (bytes : List ℕ) (table : Table) → table_of_bytes names bytes ≡ Ok table
    → AreFeatures bytes names table
unfolding table_of_bytes
are-features names bytes table is =
    let value = steps (part_of_bytes bytes) _ table is in
    let features = steps (features_or_none (unless_null (Some value.0))) _ table value.2 in
    record {
      value = value.0;
      read = there (data_within part_depth bytes) value.0 value.1;
      features = features.0;
      shaped = features.1;
      made = features.2;
    }

-- what the bytes of a rest are
record IsRest (bytes : List ℕ) (r : RestView) : Type 0 where
  others : Members
  read : trees.data_of_bytes (123 ∷ bytes) ≡ Some (object others)
  some : others ≢ no_members
  lacking : Lacks others
  yanked_is : flag_at (codes "yanked") false (object others) ≡ Ok r.yanked
  format_is : whole_at (codes "v") 1 (object others) ≡ Ok r.format
  rust_version_is : rust_version_at (object others) ≡ r.rust_version

rest-by : (rest : Data) (bytes : List ℕ) (r : RestView) → trees.data_of_bytes (123 ∷ bytes) ≡ Some rest
    → rest_of rest ≡ Ok r → IsRest bytes r
unfolding rest_of
rest-by rest bytes r read is =
    let some = steps (unless (not (lacks (codes "yanked") rest)) Shape) _ r is in
    let others = steps (unless (lacks_parts rest) Shape) _ r some.2 in
    let yanked = steps (flag_at (codes "yanked") false rest) _ r others.2 in
    let format = steps (whole_at (codes "v") 1 rest) _ r yanked.2 in
    let members = some-members rest (passed (not (lacks (codes "yanked") rest)) Shape some.0 some.1) in
    let alike : rest ≡ object members.0 = members.1 in
    record {
      others = members.0;
      read = read ∙ ap Some alike;
      some = members.2;
      lacking =
          all-lacking members.0 (ap lacks_parts (sym alike) ∙ passed (lacks_parts rest) Shape others.0 others.1);
      yanked_is = ap (flag_at (codes "yanked") false) (sym alike) ∙ yanked.1 ∙ cc;
      format_is = ap (whole_at (codes "v") 1) (sym alike) ∙ format.1 ∙ cc;
      rust_version_is = ap rust_version_at (sym alike) ∙ cc;
    }

is-rest : (bytes : List ℕ) (r : RestView) → rest_of_bytes bytes ≡ Ok r → IsRest bytes r
is-rest bytes r is =
    let rest = steps (data_of_bytes (123 ∷ bytes)) rest_of r is in
    rest-by rest.0 bytes r (there (trees.data_of_bytes (123 ∷ bytes)) rest.0 rest.1) rest.2

-- the record that a line is of which this was read
abbrev record_with : LineParts → RestView → Parts → List model.Dependency → Table → RecordView
record_with p rest version ds table = record {
  version = version;
  checksum = p.checksum.now;
  yanked = rest.yanked;
  rust_version = rest.rust_version;
  brings = record { dependencies = ds; features = table };
}

together : (name : List ℕ) (p : LineParts) (line : List ℕ) (ds : List DepName × List model.Dependency) (table : Table)
    (rest : RestView) (version : Parts) → IsCut name p line
    → AreDependencies p.dependencies.now ds.0 ds.1 → AreFeatures p.features.now ds.0 table → IsRest p.rest.now rest
    → (rest.format == 1 || rest.format == 2) ≡ true
    → semver_or BadVersion (version_parts p.version.now) ≡ Ok version
    → unchecked_of_line name line ≡ Ok (record_with p rest version ds.1 table)
unfolding unchecked_of_line
together name p line ds table rest version cut d f r format_is version_is =
    let v = p.version.now in
    let c = p.checksum.now in
    let whole = line-members name v p.dependencies.now c p.features.now p.rest.now d.value f.value r.others
    (name-plain name cut.named) cut.version cut.checksum d.read f.read r.read r.some in
    let has = has-parts name v c d.value f.value r.others whole.0 r.lacking whole.2 in
    let shape : ShapeView = record {
      name = name;
      version = v;
      checksum = c;
      dependencies = d.shapes;
      features = f.features;
      features2 = [];
      yanked = rest.yanked;
      format = rest.format;
      rust_version = rust_version_at (object r.others);
    } in
    goes (data_of_bytes line) _ (object whole.0) _
    (ap (λ o. ok_or o (Skipped NotJson)) (ap trees.data_of_bytes cut.whole ∙ whole.1))
    (goes (shape_of (object whole.0)) _ shape _ (shape-by (object whole.0) name v c d.value f.value
    (object r.others) d.shapes f.features rest.yanked rest.format has d.shaped f.shaped r.yanked_is r.format_is)
    (unchecked-by name shape version ds.1 table format_is (text-refl name) version_is d.said
    (features-alone shape ds.0 table d.named refl f.made) d.own
    ∙ ap (λ o. Ok (record {
      version = version;
      checksum = c;
      yanked = rest.yanked;
      rust_version = o;
      brings = record { dependencies = ds.1; features = table };
    })) r.rust_version_is))

same-record : (a b c : Line RecordView) → a ≡ b → b ≡ c → a ≡ c
same-record a b c first next = first ∙ next

pub by-parts : (name : List ℕ) (p : LineParts) (line : List ℕ) (r : RecordView) → IsCut name p line
    → record_of_parts p ≡ Ok r → unchecked_of_line name line ≡ Ok r
unfolding record_of_parts
by-parts name p line r cut is =
    let rest = steps (rest_of_bytes p.rest.now) _ r is in
    let format = steps (unless (rest.0.format == 1 || rest.0.format == 2) NewerFormat) _ r rest.2 in
    let version = steps (semver_or BadVersion (version_parts p.version.now)) _ r format.2 in
    let ds = steps (dependencies_of_bytes p.dependencies.now) _ r version.2 in
    let table = steps (table_of_bytes ds.0.0 p.features.now) _ r ds.2 in
    same-record (unchecked_of_line name line) (Ok (record_with p rest.0 version.0 ds.0.1 table.0)) (Ok r)
    (together name p line ds.0 table.0 rest.0 version.0 cut (are-dependencies p.dependencies.now ds.0 ds.1)
    (are-features ds.0.0 p.features.now table.0 table.1) (is-rest p.rest.now rest.0 rest.1)
    (passed (rest.0.format == 1 || rest.0.format == 2) NewerFormat format.0 format.1) version.1)
    table.2
