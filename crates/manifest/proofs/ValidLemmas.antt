-- What a manifest brings is of names that are names, and it has no more dependencies than there are numbers of 32 bits.
use Rattle.std.proofs.Common.{◌≡◌, ℕ, suc, ◌+◌, ◌*◌, ◌≤◌, Bool, true, false, not, ◌||◌, cond, List, [], ◌∷◌, ◌++◌}
use Rattle.std.proofs.Common.{length}
use Rattle.std.proofs.Common.{map, codes, Option, Some, None, option_map, is_some, Result, Ok, Err, IfOk, IfSome, All}
use Rattle.std.proofs.Common.{unwrap_or, refl}
use Rattle.std.proofs.Common.{arith, length-append, Ordering, Less, Equal, Greater, nat_cmp, subst}
use Rattle.std.proofs.lemmas.Bool.{leb-true}
use Rattle.std.proofs.lemmas.List.Elements.{All-append, All-map, All-weaker}
use Rattle.std.specs.Cmp.Lexicographic.{slice_cmp}
use Rattle.std.specs.Option.{ok_or}
use Rattle.std.specs.Result.{result_map_both, result_ok}
use Rattle.std.specs.Ordering.{match_ordering}
use Rattle.std.specs.Str.{is_utf8}
use Rattle.toml.specs.Data.{Data, string, integer, float, boolean, datetime, array, table, as_array}
use Rattle.toml.specs.Data.{get_member}
use Rattle.toml.specs.Data.{Items, no_items, item, Members, no_members, member}
use Rattle.toml.specs.Parse.{parse_document}
use Rattle.semver.specs.Parse.{req_of}
use Rattle.model.specs.Content.{of_utf8}
use Rattle.model.specs.Outcome.{◌>>=◌, guard}
use Rattle.model.specs.Summary as model
use Rattle.model.specs.Summary.{Table, Entry}
use Rattle.model.specs.Tables.{TableFault, table_of}
use Rattle.model.proofs.Lists.{all_none, all_cons, all_first, all_rest}
use Rattle.tables.proofs.Shorter.{If}
use Rattle.tables.proofs.Sizes.{size, members_size, document-few}
use Rattle.features.specs.Names.{entry_of, is_package_name, is_feature_name}
use Rattle.features.specs.inner.Valid.{IsPackageName, IsFeatureName, IsValidEntry, IsValidRow, IsValidDependency}
use Rattle.features.specs.inner.Valid.{BringsValid}
use Rattle.features.specs.declared.dependency.DependencyKind.{DependencyKind}
use Rattle.features.specs.declared.dependency.DependencyKind.TheVariants.{Normal, Dev, Build}
use Rattle.features.proofs.ValidLemmas.{entry-valid, built-valid}
use Rattle.manifest.specs.Values as values
use Rattle.manifest.specs.Values.{Shaped, wanted, or_absent, each_member, text_of, flag_of, has_key, one_of}
use Rattle.manifest.specs.Values.{package_name_of, feature_name_of}
use Rattle.manifest.specs.Dependencies.{DependencyShapeView, detailed, unsupported_in}
use Rattle.manifest.specs.Dependencies.{named_feature, feature_names, feature_list}
use Rattle.manifest.specs.Dependencies.{default_features_in, may_be_optional, dependency_in, described, dependency_of}
use Rattle.manifest.specs.Dependencies.{part_of, section_at, section_of, sections_of, targets_in}
use Rattle.manifest.specs.Dependencies.{targets_of}
use Rattle.manifest.specs.Packages.{package_of, workspace_of, is_written}
use Rattle.manifest.specs.Shapes.{strong, entries_in, feature_of, features_of}
use Rattle.manifest.specs.Shapes.{all_dependencies}
use Rattle.manifest.specs.Shapes.{ShapeView, shape_of}
use Rattle.manifest.specs.Manifests.{ManifestView, sources_allowed, dependency_with, dependencies_of}
use Rattle.manifest.specs.Manifests.{dep_name, fault_as, features_with, manifest_of, limit}
use Rattle.manifest.specs.declared.fault.ManifestFault.{ManifestFault}
use Rattle.manifest.specs.declared.fault.ManifestFault.TheVariants.{Shape, UnsupportedSource, BadRequirement}
use Rattle.manifest.specs.declared.fault.Part.{Part}
use Rattle.manifest.specs.declared.fault.Part.TheVariants as part
use Rattle.manifest.specs.declared.fault.Unsupported.{Unsupported}
use Rattle.manifest.specs.declared.fault.Unsupported.TheVariants.{Patch, Replace, Workspace}
use Rattle.manifest.specs.declared.section.SectionPlace.{SectionPlace}
use Rattle.manifest.specs.declared.section.SectionPlace.TheVariants.{Top, Target}

-- ---- one step after another

module _ {A B : Type 0} where
  after : (P : A → Type 0) (Q : B → Type 0) (m : Shaped A) (f : A → Shaped B) → IfOk m P
      → ((x : A) → P x → IfOk (f x) Q) → IfOk (m >>= f) Q
  after P Q (Ok x) f h g = g x h
  after P Q (Err e) f h g = tt

  -- a step of which nothing need be known
  past : (Q : B → Type 0) (m : Shaped A) (f : A → Shaped B) → ((x : A) → IfOk (f x) Q) → IfOk (m >>= f) Q
  past Q (Ok x) f g = g x
  past Q (Err e) f g = tt

module _ {A : Type 0} where
  wanted-has : (P : A → Type 0) (p : Part) (o : Option A) → IfSome o P → IfOk (wanted p o) P
  wanted-has P p None h = tt
  wanted-has P p (Some x) h = h

-- ---- names

package-named : (p : Part) (text : List ℕ) → IfOk (package_name_of p text) IsPackageName
package-named p text = by (is_package_name text) refl
  where
    by : (b : Bool) → is_package_name text ≡ b → IfOk (cond b (Ok text) (Err (Shape p))) IsPackageName
    by true e = e
    by false e = tt

feature-named : (p : Part) (text : List ℕ) → IfOk (feature_name_of p text) IsFeatureName
feature-named p text = by (is_feature_name text) refl
  where
    by : (b : Bool) → is_feature_name text ≡ b → IfOk (cond b (Ok text) (Err (Shape p))) IsFeatureName
    by true e = e
    by false e = tt

one-named : (p : Part) (text : List ℕ) → IfOk (named_feature p text) (All IsFeatureName)
one-named p [] = all_none IsFeatureName
one-named p (b ∷ bs) = after IsFeatureName (All IsFeatureName) (feature_name_of p (b ∷ bs)) (λ name. Ok (name ∷ []))
    (feature-named p (b ∷ bs)) (λ name h. all_cons IsFeatureName name [] h (all_none IsFeatureName))

names-named : (p : Part) (ds : Items) → IfOk (feature_names p ds) (All IsFeatureName)
unfolding feature_names
names-named p no_items = all_none IsFeatureName
names-named p (item d ds) = past (All IsFeatureName) (text_of p d) _ (λ text.
    after (All IsFeatureName) (All IsFeatureName) (named_feature p text) _ (one-named p text) (λ first h.
    after (All IsFeatureName) (All IsFeatureName) (feature_names p ds) _ (names-named p ds) (λ others g.
    All-append IsFeatureName first others h g)))

-- ---- dependencies as they are written

abbrev IsNamed : DependencyShapeView → Type 0
IsNamed d = IsPackageName (d.parts).name × All IsFeatureName (d.parts).features

-- so many at most, and each of names
record AreFew (most : ℕ) (ds : List DependencyShapeView) : Type 0 where
  few : length ds ≤ most
  named : All IsNamed ds

none-few : (n : ℕ) → AreFew n []
none-few n = record { few = omega arith; named = all_none IsNamed }

both-few : (n m k : ℕ) (ds es : List DependencyShapeView) → n + m ≤ k → AreFew n ds → AreFew m es → AreFew k (ds ++ es)
both-few n m k ds es le h g = record {
  few = omega (arith, le, h.few, g.few, length-append ds es);
  named = All-append IsNamed ds es h.named g.named;
}

list-named : (p : Part) (o : Option Data) → IfOk (or_absent [] (feature_list p) o) (All IsFeatureName)
list-named p None = all_none IsFeatureName
list-named p (Some d) = past (All IsFeatureName) (wanted p (as_array d)) (feature_names p) (names-named p)

detailed-named : (p : Part) (kind : DependencyKind) (name text : List ℕ) (s : Option Unsupported) (t : Members)
    → IsPackageName name → IfOk (detailed p kind name text s t) IsNamed
unfolding detailed
detailed-named p kind name text s t h =
    past IsNamed
    (or_absent name (λ d. text_of p d >>= package_name_of p) (get_member (codes "package") t)) _ (λ real_name.
    past IsNamed (or_absent false (flag_of p) (get_member (codes "optional") t)) _ (λ optional.
    past IsNamed (guard (not optional || may_be_optional kind) (Shape p)) _ (λ allowed.
    past IsNamed (default_features_in p t) _ (λ default_features.
    after (All IsFeatureName) IsNamed (or_absent [] (feature_list p) (get_member (codes "features") t)) _
    (list-named p (get_member (codes "features") t)) (λ features g. (h, g))))))

table-named : (p : Part) (kind : DependencyKind) (name : List ℕ) (t : Members) → IsPackageName name
    → IfOk (dependency_in p kind name t) IsNamed
unfolding dependency_in
table-named p kind name t h =
    past IsNamed
    (or_absent None (λ d. text_of p d >>= λ text. Ok (Some text)) (get_member (codes "version") t)) _ (λ version.
    past IsNamed (guard (is_some version || is_some (unsupported_in t)) (Shape p)) _ (λ described.
    detailed-named p kind name (unwrap_or version []) (unsupported_in t) t h))

described-named : (p : Part) (kind : DependencyKind) (name : List ℕ) (d : Data) → IsPackageName name
    → IfOk (described p kind name d) IsNamed
described-named p kind name (string text) h = detailed-named p kind name text None no_members h
described-named p kind name (table t) h = by (has_key (codes "workspace") t)
  where
    by : (b : Bool)
        → IfOk (cond b (detailed p kind name [] (Some Workspace) no_members) (dependency_in p kind name t)) IsNamed
    by true = detailed-named p kind name [] (Some Workspace) no_members h
    by false = table-named p kind name t h
described-named p kind name (integer z) h = tt
described-named p kind name (float x) h = tt
described-named p kind name (boolean b) h = tt
described-named p kind name (datetime dt) h = tt
described-named p kind name (array ds) h = tt

dependency-named : (p : Part) (kind : DependencyKind) (key : List ℕ) (d : Data)
    → IfOk (dependency_of p kind key d) IsNamed
unfolding dependency_of
dependency-named p kind key d = after IsPackageName IsNamed (package_name_of p key) _ (package-named p key)
    (λ name h. described-named p kind name d h)

dependencies-few : (p : Part) (kind : DependencyKind) (ms : Members)
    → IfOk (each_member (dependency_of p kind) ms) (AreFew (members_size ms))
unfolding each_member
dependencies-few p kind no_members = none-few 0
dependencies-few p kind (member key d rest) =
    after IsNamed (AreFew (members_size (member key d rest))) (dependency_of p kind key d) _
    (dependency-named p kind key d) (λ first h.
    after (AreFew (members_size rest)) (AreFew (members_size (member key d rest)))
    (each_member (dependency_of p kind) rest) _ (dependencies-few p kind rest) (λ others g.
    record { few = omega (arith, g.few); named = all_cons IsNamed first others h g.named }))

-- ---- where they stand

abbrev IsWithin : ℕ → Data → Type 0
IsWithin n d = size d ≤ n

member-within : (k : List ℕ) (ms : Members) → IfSome (get_member k ms) (IsWithin (members_size ms))
member-within k no_members = tt
member-within k (member l d ms) = by (slice_cmp nat_cmp k l) (get_member k ms) (member-within k ms)
  where
    by : (c : Ordering) (o : Option Data) → IfSome o (IsWithin (members_size ms))
        → IfSome (match_ordering c o (Some d) o) (IsWithin (members_size (member l d ms)))
    by Less None h = tt
    by Less (Some e) h = omega (arith, h)
    by Equal o h = omega arith
    by Greater None h = tt
    by Greater (Some e) h = omega (arith, h)

one-within : (p : Part) (n : ℕ) (a b : Option Data) → IfSome a (IsWithin n) → IfSome b (IsWithin n)
    → IfOk (one_of p a b) (λ o. IfSome o (IsWithin n))
one-within p n (Some d) (Some e) h g = tt
one-within p n (Some d) None h g = h
one-within p n None b h g = g

section-within : (p : Part) (kind : DependencyKind) (t : Members)
    → IfOk (section_at p kind t) (λ o. IfSome o (IsWithin (members_size t)))
section-within p Normal t = member-within (codes "dependencies") t
section-within p Dev t =
    one-within p (members_size t) (get_member (codes "dev-dependencies") t) (get_member (codes "dev_dependencies") t)
    (member-within (codes "dev-dependencies") t) (member-within (codes "dev_dependencies") t)
section-within p Build t =
    one-within p (members_size t) (get_member (codes "build-dependencies") t)
    (get_member (codes "build_dependencies") t)
    (member-within (codes "build-dependencies") t) (member-within (codes "build_dependencies") t)

wider : (n m : ℕ) (r : Shaped (List DependencyShapeView)) → n ≤ m → IfOk r (AreFew n) → IfOk r (AreFew m)
wider n m (Ok ds) le h = record { few = omega (arith, le, h.few); named = h.named }
wider n m (Err e) le h = tt

-- what is read of a table that stands within
table-few : (n k : ℕ) (p : Part) (read : Members → Shaped (List DependencyShapeView))
    → ((ms : Members) → members_size ms ≤ n → IfOk (read ms) (AreFew k)) → (o : Option Data) → IfSome o (IsWithin n)
    → IfOk (or_absent [] (λ d. values.table_of p d >>= read) o) (AreFew k)
table-few n k p read few None h = none-few k
table-few n k p read few (Some (table ms)) h = few ms h
table-few n k p read few (Some (string s)) h = tt
table-few n k p read few (Some (integer z)) h = tt
table-few n k p read few (Some (float x)) h = tt
table-few n k p read few (Some (boolean b)) h = tt
table-few n k p read few (Some (datetime dt)) h = tt
table-few n k p read few (Some (array ds)) h = tt

section-few : (p : Part) (kind : DependencyKind) (t : Members) → IfOk (section_of p kind t) (AreFew (members_size t))
unfolding section_of
section-few p kind t =
    after (λ o. IfSome o (IsWithin (members_size t))) (AreFew (members_size t)) (section_at p kind t) _
    (section-within p kind t) (λ found h.
    table-few (members_size t) (members_size t) p (each_member (dependency_of p kind))
    (λ ms le. wider (members_size ms) (members_size t) (each_member (dependency_of p kind) ms) le
    (dependencies-few p kind ms)) found h)

sections-few : (place : SectionPlace) (t : Members) → IfOk (sections_of place t) (AreFew (3 * members_size t))
unfolding sections_of
sections-few place t =
    let n = members_size t in
    after (AreFew n) (AreFew (3 * n)) (section_of (part_of place Normal) Normal t) _
    (section-few (part_of place Normal) Normal t) (λ normal a.
    after (AreFew n) (AreFew (3 * n)) (section_of (part_of place Dev) Dev t) _
    (section-few (part_of place Dev) Dev t) (λ dev b.
    after (AreFew n) (AreFew (3 * n)) (section_of (part_of place Build) Build t) _
    (section-few (part_of place Build) Build t) (λ build c.
    both-few (n + n) n (3 * n) (normal ++ dev) build (omega arith)
    (both-few n n (n + n) normal dev (omega arith) a b) c)))

targets-few : (ms : Members) → IfOk (targets_in ms) (AreFew (3 * members_size ms))
unfolding targets_in
targets-few no_members = none-few (3 * 0)
targets-few (member text (table t) rest) =
    after (AreFew (3 * members_size t)) (AreFew (3 * members_size (member text (table t) rest))) (sections_of Target t)
    _ (sections-few Target t) (λ first h.
    after (AreFew (3 * members_size rest)) (AreFew (3 * members_size (member text (table t) rest))) (targets_in rest) _
    (targets-few rest) (λ others g.
    both-few (3 * members_size t) (3 * members_size rest) (3 * members_size (member text (table t) rest)) first others
    (omega arith) h g))
targets-few (member text (string s) rest) = tt
targets-few (member text (integer z) rest) = tt
targets-few (member text (float x) rest) = tt
targets-few (member text (boolean b) rest) = tt
targets-few (member text (datetime dt) rest) = tt
targets-few (member text (array ds) rest) = tt

all-few : (top : Members) → IfOk (all_dependencies top) (AreFew (6 * members_size top))
unfolding all_dependencies
all-few top =
    let n = members_size top in
    after (AreFew (3 * n)) (AreFew (6 * n)) (sections_of Top top) _ (sections-few Top top) (λ at_top h.
    after (AreFew (3 * n)) (AreFew (6 * n)) (targets_of top) _
    (table-few n (3 * n) part.Target targets_in
    (λ ms le. wider (3 * members_size ms) (3 * n) (targets_in ms) (omega (arith, le)) (targets-few ms))
    (get_member (codes "target") top) (member-within (codes "target") top)) (λ targets g.
    both-few (3 * n) (3 * n) (6 * n) at_top targets (omega arith) h g))

-- ---- features as they are written

strong-valid : (e : Entry) → IsValidEntry e → IsValidEntry (strong e)
strong-valid (model.feature g) h = tt
strong-valid (model.dependency d) h = tt
strong-valid (model.dependency_feature d g) h = h
strong-valid (model.weak_feature d g) h = h

root-valid : (text : List ℕ) → IfSome (option_map strong (entry_of text)) IsValidEntry
root-valid text = by (entry_of text) (entry-valid text)
  where
    by : (o : Option Entry) → IfSome o IsValidEntry → IfSome (option_map strong o) IsValidEntry
    by None h = tt
    by (Some e) h = strong-valid e h

entries-valid : (ds : Items) → IfOk (entries_in ds) (All IsValidEntry)
unfolding entries_in
entries-valid no_items = all_none IsValidEntry
entries-valid (item d ds) = past (All IsValidEntry) (text_of part.Features d) _ (λ text.
    after IsValidEntry (All IsValidEntry) (wanted part.Features (option_map strong (entry_of text))) _
    (wanted-has IsValidEntry part.Features (option_map strong (entry_of text)) (root-valid text)) (λ first h.
    after (All IsValidEntry) (All IsValidEntry) (entries_in ds) _ (entries-valid ds) (λ others g.
    all_cons IsValidEntry first others h g)))

feature-valid : (key : List ℕ) (d : Data) → IfOk (feature_of key d) IsValidRow
unfolding feature_of
feature-valid key d =
    after IsFeatureName IsValidRow (feature_name_of part.Features key) _ (feature-named part.Features key) (λ name h.
    past IsValidRow (wanted part.Features (as_array d)) _ (λ ds.
    after (All IsValidEntry) IsValidRow (entries_in ds) _ (entries-valid ds) (λ entries g. (h, g))))

rows-valid : (ms : Members) → IfOk (each_member feature_of ms) (All IsValidRow)
unfolding each_member
rows-valid no_members = all_none IsValidRow
rows-valid (member key d rest) =
    after IsValidRow (All IsValidRow) (feature_of key d) _ (feature-valid key d) (λ first h.
    after (All IsValidRow) (All IsValidRow) (each_member feature_of rest) _ (rows-valid rest) (λ others g.
    all_cons IsValidRow first others h g))

features-valid : (top : Members) → IfOk (features_of top) (All IsValidRow)
features-valid top = by (get_member (codes "features") top)
  where
    by : (o : Option Data)
        → IfOk (or_absent [] (λ d. values.table_of part.Features d >>= each_member feature_of) o) (All IsValidRow)
    by None = all_none IsValidRow
    by (Some d) = past (All IsValidRow) (values.table_of part.Features d) (each_member feature_of) rows-valid

-- ---- the whole

record IsValidShape (n : ℕ) (s : ShapeView) : Type 0 where
  dependencies : AreFew n s.dependencies
  features : All IsValidRow s.features

shape-valid : (top : Members) → IfOk (shape_of top) (IsValidShape (6 * members_size top))
unfolding shape_of
shape-valid top =
    let n = 6 * members_size top in
    past (IsValidShape n) (package_of top) _ (λ own.
    after (AreFew n) (IsValidShape n) (all_dependencies top) _ (all-few top) (λ dependencies h.
    after (All IsValidRow) (IsValidShape n) (features_of top) _ (features-valid top) (λ features g.
    past (IsValidShape n) (workspace_of top) _ (λ has_members.
    past (IsValidShape n) (is_written part.Patch (codes "patch") top) _ (λ patches.
    past (IsValidShape n) (is_written part.Replace (codes "replace") top) _ (λ replaces.
    record { dependencies = h; features = g }))))))

abbrev IsNamedRead : model.Dependency → Type 0
IsNamedRead d = IsPackageName d.name × All IsFeatureName d.features

record AreFewRead (n : ℕ) (ds : List model.Dependency) : Type 0 where
  few : length ds ≤ n
  named : All IsNamedRead ds

read-named : (d : DependencyShapeView) → IsNamed d → IfOk (dependency_with d) IsNamedRead
unfolding dependency_with
read-named d h =
    past IsNamedRead (ok_or (result_ok (req_of d.text)) (BadRequirement (d.parts).name)) _ (λ requirement. h)

all-read : (ds : List DependencyShapeView) → All IsNamed ds → IfOk (dependencies_of ds) (AreFewRead (length ds))
unfolding dependencies_of
all-read [] h = record { few = omega arith; named = all_none IsNamedRead }
all-read (d ∷ ds) h =
    after IsNamedRead (AreFewRead (suc (length ds))) (dependency_with d) _ (read-named d (all_first IsNamed d ds h))
    (λ first a.
    after (AreFewRead (length ds)) (AreFewRead (suc (length ds))) (dependencies_of ds) _
    (all-read ds (all_rest IsNamed d ds h)) (λ others b.
    record { few = omega (arith, b.few); named = all_cons IsNamedRead first others a b.named }))

table-valid : (ds : List model.Dependency) (written : Table) → All IsNamedRead ds → All IsValidRow written
    → IfOk (features_with ds written) (All IsValidRow)
table-valid ds written named valid = by (table_of (map dep_name ds) written) (built-valid (map dep_name ds) written)
  where
    names : All (λ d. IsPackageName d.name) (map dep_name ds)
    names = All-map (λ d. IsPackageName d.name) dep_name ds
        (All-weaker IsNamedRead (λ d. IsPackageName d.name) (λ d h. h.0) ds named)

    by : (r : Result Table (TableFault × List ℕ))
        → ((t : Table) → All (λ d. IsPackageName d.name) (map dep_name ds) → All IsValidRow written → r ≡ Ok t
        → All IsValidRow t) → IfOk (result_map_both (λ t. t) (λ e. fault_as e.0 e.1) r) (All IsValidRow)
    by (Ok t) h = h t names valid refl
    by (Err e) h = tt

abbrev Brings : ManifestView → Type 0
Brings m = BringsValid m.brings

top-valid : (top : Members) → 6 * members_size top ≤ 4294967296 → IfOk (manifest_of top) Brings
unfolding manifest_of
top-valid top small =
    after (IsValidShape (6 * members_size top)) Brings (shape_of top) _ (shape-valid top) (λ shape s.
    past Brings (guard (not shape.patches) (UnsupportedSource Patch)) _ (λ unpatched.
    past Brings (guard (not shape.replaces) (UnsupportedSource Replace)) _ (λ unreplaced.
    past Brings (ok_or shape.own (UnsupportedSource Workspace)) _ (λ own.
    past Brings (sources_allowed shape.has_members shape.dependencies) _ (λ allowed.
    after (AreFewRead (length shape.dependencies)) Brings (dependencies_of shape.dependencies) _
    (all-read shape.dependencies s.dependencies.named) (λ dependencies d.
    after (All IsValidRow) Brings (features_with dependencies shape.features) _
    (table-valid dependencies shape.features d.named s.features) (λ features f.
    record {
      few = omega (arith, d.few, s.dependencies.few, small);
      dependencies = All-weaker IsNamedRead IsValidDependency (λ x h. h.1) dependencies d.named;
      features = f;
    })))))))

-- what a table of at most 1 MiB says as a manifest brings valid parts
pub document-valid : (bytes : List ℕ) (top : Members) → length bytes ≤ limit → of_utf8 parse_document bytes ≡ Some top
    → IfOk (manifest_of top) Brings
document-valid bytes top small is = top-valid top (few (is_utf8 bytes) is)
  where
    few : (b : Bool) → cond b (parse_document bytes) None ≡ Some top → 6 * members_size top ≤ 4294967296
    few true e = omega (arith, small, subst (If (λ t. members_size t ≤ 162 * length bytes)) e (document-few bytes))
    few false e = cc
