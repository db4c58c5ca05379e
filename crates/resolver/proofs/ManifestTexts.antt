-- The texts of a manifest: names that are names, and a version of SemVer 2.0.0.
use Rattle.std.proofs.Common.{◌≡◌, ℕ, List, [], ◌∷◌, ◌++◌, Bool, true, false, Option, Some, None, Result, Ok, Err, not}
use Rattle.std.proofs.Common.{◌||◌, cond, nat_le, length, codes, is_some, unwrap_or, refl, arith}
use Rattle.std.specs.List.{AllByRecursion}
use Rattle.std.specs.Option.{ok_or}
use Rattle.std.specs.Result.{result_ok, result_unwrap_or}
use Rattle.toml.specs.Data.{Data, string, integer, float, boolean, datetime, array, table, as_table, get_member}
use Rattle.toml.specs.Data.{Members, no_members, member}
use Rattle.semver.specs.Grammar.{IsValid}
use Rattle.semver.specs.Parse.{Parts, req_of, version_parts}
use Rattle.semver.specs.declared.error.Error.{Error}
use Rattle.semver.proofs.Grammar.{version_parts-sound}
use Rattle.model.specs.Outcome.{◌>>=◌, guard}
use Rattle.features.specs.Names.{is_package_name}
use Rattle.manifest.specs.Values.{Shaped, wanted, or_absent, each_member, text_of, flag_of, table_of, package_name_of}
use Rattle.manifest.specs.Values.{has_key}
use Rattle.manifest.specs.Packages.{PackageView, own_or_inherited, is_inherited, name_in, name_of, version_in}
use Rattle.manifest.specs.Packages.{version_of, package_with, package_in, package_at, package_of, rust_version_in}
use Rattle.manifest.specs.Packages.{workspace_of, is_written}
use Rattle.manifest.specs.Dependencies.{DependencyShapeView, detailed, unsupported_in, feature_list}
use Rattle.manifest.specs.Dependencies.{default_features_in, may_be_optional, dependency_in, described}
use Rattle.manifest.specs.Dependencies.{dependency_of, section_at, section_of, sections_of, targets_in}
use Rattle.manifest.specs.Dependencies.{targets_of}
use Rattle.manifest.specs.Shapes.{ShapeView, all_dependencies, features_of, shape_of}
use Rattle.manifest.specs.Manifests.{ManifestView, dependency_with, dependencies_of, features_with, limit, manifest_of}
use Rattle.manifest.specs.Manifests.{manifest_of_bytes, sources_allowed, table_of_bytes}
use Rattle.manifest.specs.declared.fault.ManifestFault.{ManifestFault}
use Rattle.manifest.specs.declared.fault.ManifestFault.TheVariants.{Shape, TooLarge, UnsupportedSource, BadRequirement}
use Rattle.manifest.specs.declared.fault.Part.{Part}
use Rattle.manifest.specs.declared.fault.Part.TheVariants as part
use Rattle.manifest.specs.declared.fault.Unsupported.TheVariants.{Patch, Replace, Workspace}
use Rattle.resolver.proofs.Given.{Given, IfSome, any, next, tested, either, got, each-append}
use Rattle.resolver.proofs.IndexTexts.{IsName, MeansName}

-- ---- the package

inherited-or : {A : Type 0} (P : A → Type 0) (read : Data → Shaped A) (d : Data) → Given P (read d)
    → Given (IfSome P) (own_or_inherited read d)
inherited-or P read d h = either (IfSome P) (is_inherited (as_table d)) (Ok None) (read d >>= λ x. Ok (Some x)) tt
    (next P (IfSome P) (read d) (λ x. Ok (Some x)) h (λ x g. g))

name-checked : (p : Part) (text : List ℕ) → Given IsName (package_name_of p text)
name-checked p text = tested IsName (is_package_name text) text _ (λ is. is)

name-own : (section : Members) → Given (IfSome IsName) (name_of section)
unfolding name_of
name-own section =
    any (IfSome IsName) (wanted part.Package (get_member (codes "name") section)) (own_or_inherited name_in)
    (λ d. inherited-or IsName name_in d
    (any IsName (text_of part.Package d) (package_name_of part.Package) (name-checked part.Package)))

version-read : (text : List ℕ) → Given IsValid (wanted part.Package (result_ok (version_parts text)))
version-read text = by (version_parts text) refl
  where
    by : (r : Result Parts Error) → version_parts text ≡ r → Given IsValid (wanted part.Package (result_ok r))
    by (Ok v) is = (version_parts-sound text v is).1
    by (Err e) is = tt

zero-valid : IsValid (0, 0, 0, [], [])
zero-valid = (omega arith, omega arith, omega arith, refl, refl)

version-own : (section : Members) → Given (IfSome IsValid) (version_of section)
unfolding version_of
version-own section = by (get_member (codes "version") section)
  where
    by : (o : Option Data) → Given (IfSome IsValid) (or_absent (Some (0, 0, 0, [], [])) (own_or_inherited version_in) o)
    by None = zero-valid
    by (Some d) = inherited-or IsValid version_in d
        (any IsValid (text_of part.Package d) (λ text. wanted part.Package (result_ok (version_parts text)))
        version-read)

abbrev IsPackage : PackageView → Type 0
IsPackage p = IsName p.name × IsValid p.version

with-both : (name : Option (List ℕ)) (version : Option Parts) (rust : Option (ℕ × ℕ × ℕ)) → IfSome IsName name
    → IfSome IsValid version → IfSome IsPackage (package_with name version rust)
with-both (Some name) (Some version) rust h k = (h, k)
with-both (Some name) None rust h k = tt
with-both None version rust h k = tt

package-read : (section : Members) → Given (IfSome IsPackage) (package_in section)
unfolding package_in
package-read section = next (IfSome IsName) (IfSome IsPackage) (name_of section) _ (name-own section) (λ name h.
    next (IfSome IsValid) (IfSome IsPackage) (version_of section) _ (version-own section)
    (λ version k. with-both name version (rust_version_in section) h k))

package-own : (top : Members) → Given (IfSome IsPackage) (package_of top)
unfolding package_of
package-own top = by (get_member (codes "package") top)
  where
    absent : (b : Bool) → Given (IfSome IsPackage) (cond b (Ok None) (Err (Shape part.Package)))
    absent true = tt
    absent false = tt

    by : (o : Option Data) → Given (IfSome IsPackage) (package_at (workspace_of top) o)
    by None = absent (result_unwrap_or (workspace_of top) false)
    by (Some d) = any (IfSome IsPackage) (table_of part.Package d) package_in package-read

-- ---- the dependencies

abbrev IsShape : DependencyShapeView → Type 0
IsShape d = IsName (d.parts).real_name

abbrev AreShapes : List DependencyShapeView → Type 0
AreShapes ds = AllByRecursion IsShape ds

absent-or : {A : Type 0} (P : A → Type 0) (absent : A) (read : Data → Shaped A) → P absent
    → ((d : Data) → Given P (read d)) → (o : Option Data) → Given P (or_absent absent read o)
absent-or P absent read h k None = h
absent-or P absent read h k (Some d) = k d

detailed-shape : (p : Part) (kind : _) (name text : List ℕ) (s : _) (t : Members) → IsName name
    → Given IsShape (detailed p kind name text s t)
unfolding detailed
detailed-shape p kind name text s t h = next IsName IsShape
    (or_absent name (λ d. text_of p d >>= package_name_of p) (get_member (codes "package") t)) _
    (absent-or IsName name (λ d. text_of p d >>= package_name_of p) h
    (λ d. any IsName (text_of p d) (package_name_of p) (name-checked p)) (get_member (codes "package") t)) (λ real is.
    any IsShape (or_absent false (flag_of p) (get_member (codes "optional") t)) _
    (λ optional. any IsShape (guard (not optional || may_be_optional kind) (Shape p)) _ (λ allowed.
    any IsShape (default_features_in p t) _ (λ default_features.
    any IsShape (or_absent [] (feature_list p) (get_member (codes "features") t)) _ (λ features. is)))))

table-shape : (p : Part) (kind : _) (name : List ℕ) (t : Members) → IsName name
    → Given IsShape (dependency_in p kind name t)
unfolding dependency_in
table-shape p kind name t h = any IsShape
    (or_absent None (λ d. text_of p d >>= λ text. Ok (Some text)) (get_member (codes "version") t)) _
    (λ version. any IsShape (guard (is_some version || is_some (unsupported_in t)) (Shape p)) _
    (λ described. detailed-shape p kind name (unwrap_or version []) (unsupported_in t) t h))

described-shape : (p : Part) (kind : _) (name : List ℕ) (d : Data) → IsName name
    → Given IsShape (described p kind name d)
described-shape p kind name (string text) h = detailed-shape p kind name text None no_members h
described-shape p kind name (table t) h =
    either IsShape (has_key (codes "workspace") t) (detailed p kind name [] (Some Workspace) no_members)
    (dependency_in p kind name t) (detailed-shape p kind name [] (Some Workspace) no_members h)
    (table-shape p kind name t h)
described-shape p kind name (integer z) h = tt
described-shape p kind name (float x) h = tt
described-shape p kind name (boolean b) h = tt
described-shape p kind name (datetime dt) h = tt
described-shape p kind name (array ds) h = tt

dependency-shape : (p : Part) (kind : _) (key : List ℕ) (d : Data) → Given IsShape (dependency_of p kind key d)
unfolding dependency_of
dependency-shape p kind key d =
    next IsName IsShape (package_name_of p key) _ (name-checked p key) (λ name h. described-shape p kind name d h)

dependencies-shape : (p : Part) (kind : _) (t : Members) → Given AreShapes (each_member (dependency_of p kind) t)
unfolding each_member
dependencies-shape p kind no_members = tt
dependencies-shape p kind (member key d rest) =
    next IsShape AreShapes (dependency_of p kind key d) _ (dependency-shape p kind key d) (λ first is.
    next AreShapes AreShapes (each_member (dependency_of p kind) rest) _ (dependencies-shape p kind rest)
    (λ others are. (is, are)))

section-shape : (p : Part) (kind : _) (t : Members) → Given AreShapes (section_of p kind t)
unfolding section_of
section-shape p kind t =
    any AreShapes (section_at p kind t) (or_absent [] (λ d. table_of p d >>= each_member (dependency_of p kind)))
    (absent-or AreShapes [] (λ d. table_of p d >>= each_member (dependency_of p kind)) tt
    (λ d. any AreShapes (table_of p d) (each_member (dependency_of p kind)) (dependencies-shape p kind)))

sections-shape : (place : _) (t : Members) → Given AreShapes (sections_of place t)
unfolding sections_of
sections-shape place t = next AreShapes AreShapes (section_of _ _ t) _ (section-shape _ _ t) (λ normal a.
    next AreShapes AreShapes (section_of _ _ t) _ (section-shape _ _ t) (λ dev b.
    next AreShapes AreShapes (section_of _ _ t) _ (section-shape _ _ t) (λ build c.
    each-append IsShape (normal ++ dev) build (each-append IsShape normal dev a b) c)))

targets-shape : (t : Members) → Given AreShapes (targets_in t)
unfolding targets_in
targets-shape no_members = tt
targets-shape (member text d rest) = any AreShapes (table_of part.Target d) _ (λ target.
    next AreShapes AreShapes (sections_of _ target) _ (sections-shape _ target) (λ first a.
    next AreShapes AreShapes (targets_in rest) _ (targets-shape rest)
    (λ others b. each-append IsShape first others a b)))

all-shapes : (top : Members) → Given AreShapes (all_dependencies top)
unfolding all_dependencies
all-shapes top = next AreShapes AreShapes (sections_of _ top) _ (sections-shape _ top) (λ at_top a.
    next AreShapes AreShapes (targets_of top) _ (absent-or AreShapes [] (λ d. table_of part.Target d >>= targets_in) tt
    (λ d. any AreShapes (table_of part.Target d) targets_in targets-shape) (get_member (codes "target") top))
    (λ targets b.
    each-append IsShape at_top targets a b))

-- ---- the whole

abbrev IsShaped : ShapeView → Type 0
IsShaped s = IfSome IsPackage s.own × AreShapes s.dependencies

shape-texts : (top : Members) → Given IsShaped (shape_of top)
unfolding shape_of
shape-texts top = next (IfSome IsPackage) IsShaped (package_of top) _ (package-own top) (λ own a.
    next AreShapes IsShaped (all_dependencies top) _ (all-shapes top) (λ dependencies b.
    any IsShaped (features_of top) _ (λ features. any IsShaped (workspace_of top) _ (λ has_members.
    any IsShaped (is_written part.Patch (codes "patch") top) _
    (λ patches. any IsShaped (is_written part.Replace (codes "replace") top) _ (λ replaces. (a, b)))))))

with-named : (d : DependencyShapeView) → IsShape d → Given MeansName (dependency_with d)
unfolding dependency_with
with-named d h = any MeansName (ok_or (result_ok (req_of d.text)) (BadRequirement (d.parts).name)) _ (λ requirement. h)

all-named : (ds : List DependencyShapeView) → AreShapes ds → Given (AllByRecursion MeansName) (dependencies_of ds)
unfolding dependencies_of
all-named [] h = tt
all-named (d ∷ ds) h = next MeansName (AllByRecursion MeansName) (dependency_with d) _ (with-named d h.0) (λ first is.
    next (AllByRecursion MeansName) (AllByRecursion MeansName) (dependencies_of ds) _ (all-named ds h.1)
    (λ others are. (is, are)))

pub record HasTexts (m : ManifestView) : Type 0 where
  pub named : IsName m.name
  pub version : IsValid m.version
  pub dependencies : AllByRecursion MeansName m.brings.dependencies

own-there : (o : Option PackageView) (e : ManifestFault) → IfSome IsPackage o → Given IsPackage (ok_or o e)
own-there None e h = tt
own-there (Some p) e h = h

table-texts : (top : Members) → Given HasTexts (manifest_of top)
unfolding manifest_of
table-texts top = next IsShaped HasTexts (shape_of top) _ (shape-texts top)
    (λ shape h. any HasTexts (guard (not shape.patches) (UnsupportedSource Patch)) _ (λ unpatched.
    any HasTexts (guard (not shape.replaces) (UnsupportedSource Replace)) _ (λ unreplaced.
    next IsPackage HasTexts (ok_or shape.own (UnsupportedSource Workspace)) _
    (own-there shape.own (UnsupportedSource Workspace) h.0) (λ own is.
    any HasTexts (sources_allowed shape.has_members shape.dependencies) _ (λ allowed.
    next (AllByRecursion MeansName) HasTexts (dependencies_of shape.dependencies) _
    (all-named shape.dependencies h.1) (λ dependencies named.
    any HasTexts (features_with dependencies shape.features) _
    (λ features. record { named = is.0; version = is.1; dependencies = named })))))))

bytes-texts : (bytes : List ℕ) → Given HasTexts (manifest_of_bytes bytes)
unfolding manifest_of_bytes
bytes-texts bytes = any HasTexts (guard (nat_le (length bytes) limit) TooLarge) _
    (λ small. any HasTexts (table_of_bytes bytes) manifest_of table-texts)

-- a manifest that is read has such texts
pub manifest-texts : (bytes : List ℕ) (m : ManifestView) → manifest_of_bytes bytes ≡ Ok m → HasTexts m
manifest-texts bytes m says = got HasTexts (manifest_of_bytes bytes) m (bytes-texts bytes) says
