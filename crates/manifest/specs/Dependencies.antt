-- The dependencies that a manifest writes, before their requirements are read (Cargo book, "Specifying Dependencies").
use Rattle.std.specs.Prelude.{ℕ, Bool, true, false, not, ◌||◌, if◌then◌else◌, List, [], ◌∷◌, ◌++◌, Option, Some, None}
use Rattle.std.specs.Prelude.{Ok, Err, codes, is_some, unwrap_or}
use Rattle.toml.specs.Data.{Data, string, table, as_array, get_member, Items, no_items, item, Members, no_members}
use Rattle.toml.specs.Data.{member}
use Rattle.model.specs.Outcome.{◌>>=◌, guard}
use Rattle.model.specs.Summary.{Dependency}
use Rattle.features.specs.declared.dependency.DependencyKind.{DependencyKind}
use Rattle.features.specs.declared.dependency.DependencyKind.TheVariants.{Normal, Dev, Build}
use Rattle.manifest.specs.Values.{Shaped, wanted, or_absent, each_member, text_of, flag_of, table_of, has_key}
use Rattle.manifest.specs.Values.{either_at, package_name_of, feature_name_of}
use Rattle.manifest.specs.declared.fault.ManifestFault.TheVariants.{Shape}
use Rattle.manifest.specs.declared.fault.Part.{Part}
use Rattle.manifest.specs.declared.fault.Part.TheVariants as part
use Rattle.manifest.specs.declared.fault.Unsupported.{Unsupported}
use Rattle.manifest.specs.declared.fault.Unsupported.TheVariants as source
use Rattle.manifest.specs.declared.section.SectionPlace.{SectionPlace}
use Rattle.manifest.specs.declared.section.SectionPlace.TheVariants.{Top, Target}

-- a dependency with the text of its requirement: this is still to be read, and its own is empty
pub record DependencyShapeView : Type 0 where
  pub parts : Dependency
  pub text : List ℕ
  pub unsupported : Option Unsupported

-- the first source that is unsupported and that a key of the dependency asks for
abbrev pub unsupported_in : Members → Option Unsupported
unsupported_in t = if has_key (codes "git") t then Some source.Git
    else if has_key (codes "path") t then Some source.Path
    else if has_key (codes "registry") t then Some source.Registry
    else if has_key (codes "registry-index") t then Some source.Registry
    else None

-- the feature that a text of a list names: an empty one names none
abbrev pub named_feature : Part → List ℕ → Shaped (List (List ℕ))
named_feature p [] = Ok []
named_feature p (b ∷ bs) = feature_name_of p (b ∷ bs) >>= λ name. Ok (name ∷ [])

-- the features that a list names
unfoldable pub feature_names : Part → Items → Shaped (List (List ℕ))
feature_names p no_items = Ok []
feature_names p (item d ds) = do
  text ← text_of p d
  first ← named_feature p text
  others ← feature_names p ds
  Ok (first ++ others)

abbrev pub feature_list : Part → Data → Shaped (List (List ℕ))
feature_list p d = wanted p (as_array d) >>= feature_names p

-- whether a dependency asks for `default`: it does where it says nothing
abbrev pub default_features_in : Part → Members → Shaped Bool
default_features_in p t =
    either_at p (codes "default-features") (codes "default_features") t >>= or_absent true (flag_of p)

-- a dev dependency may not be optional
abbrev pub may_be_optional : DependencyKind → Bool
may_be_optional Dev = false
may_be_optional _ = true

-- a dependency with this text, and what a table says more of it
unfoldable pub detailed : Part → DependencyKind → List ℕ → List ℕ → Option Unsupported → Members
    → Shaped DependencyShapeView
detailed p kind name text unsupported t = do
  real_name ← or_absent name (λ d. text_of p d >>= package_name_of p) (get_member (codes "package") t)
  optional ← or_absent false (flag_of p) (get_member (codes "optional") t)
  allowed ← guard (not optional || may_be_optional kind) (Shape p)
  default_features ← default_features_in p t
  features ← or_absent [] (feature_list p) (get_member (codes "features") t)
  Ok (record {
    parts = record {
      name = name;
      real_name = real_name;
      requirement = [];
      optional = optional;
      default_features = default_features;
      features = features;
    };
    text = text;
    unsupported = unsupported;
  })

-- a dependency that is written as a table: only one of an unsupported source may lack a version
unfoldable pub dependency_in : Part → DependencyKind → List ℕ → Members → Shaped DependencyShapeView
dependency_in p kind name t = do
  version ← or_absent None (λ d. text_of p d >>= λ text. Ok (Some text)) (get_member (codes "version") t)
  described ← guard (is_some version || is_some (unsupported_in t)) (Shape p)
  detailed p kind name (unwrap_or version []) (unsupported_in t) t

-- a dependency: a requirement or a table, in which a workspace may describe it
abbrev pub described : Part → DependencyKind → List ℕ → Data → Shaped DependencyShapeView
described p kind name (string text) = detailed p kind name text None no_members
described p kind name (table t) = if has_key (codes "workspace") t
    then detailed p kind name [] (Some source.Workspace) no_members else dependency_in p kind name t
described p kind name _ = Err (Shape p)

unfoldable pub dependency_of : Part → DependencyKind → List ℕ → Data → Shaped DependencyShapeView
dependency_of p kind key d = do
  name ← package_name_of p key
  described p kind name d

-- the part that a table of dependencies is
abbrev pub part_of : SectionPlace → DependencyKind → Part
part_of Top Normal = part.Dependencies
part_of Top Dev = part.DevDependencies
part_of Top Build = part.BuildDependencies
part_of Target kind = part.Target

abbrev pub section_at : Part → DependencyKind → Members → Shaped (Option Data)
section_at p Normal t = Ok (get_member (codes "dependencies") t)
section_at p Dev t = either_at p (codes "dev-dependencies") (codes "dev_dependencies") t
section_at p Build t = either_at p (codes "build-dependencies") (codes "build_dependencies") t

-- the dependencies of one kind
unfoldable pub section_of : Part → DependencyKind → Members → Shaped (List DependencyShapeView)
section_of p kind t = do
  found ← section_at p kind t
  or_absent [] (λ d. table_of p d >>= each_member (dependency_of p kind)) found

-- the dependencies that stand at the top, or in a target: normal, dev and build ones
unfoldable pub sections_of : SectionPlace → Members → Shaped (List DependencyShapeView)
sections_of place t = do
  normal ← section_of (part_of place Normal) Normal t
  dev ← section_of (part_of place Dev) Dev t
  build ← section_of (part_of place Build) Build t
  Ok (normal ++ dev ++ build)

-- the dependencies of the targets, in the order of their texts
unfoldable pub targets_in : Members → Shaped (List DependencyShapeView)
targets_in no_members = Ok []
targets_in (member text d rest) = do
  target ← table_of part.Target d
  first ← sections_of Target target
  others ← targets_in rest
  Ok (first ++ others)

-- `[target]`
abbrev pub targets_of : Members → Shaped (List DependencyShapeView)
targets_of top = or_absent [] (λ d. table_of part.Target d >>= targets_in) (get_member (codes "target") top)
