-- Which texts are kinds of axioms, vertices and states, and which of these they are (the formats are this project's;
-- versions as in SemVer 2.0.0, section 2).
use Rattle.std.specs.Prelude.{ℕ, List, [], ◌∷◌, Option, codes, slice_index_or, ◌≡◌, Bool, true, false, if◌then◌else◌}
use Rattle.std.specs.Prelude.{nat_lt, ◌++◌, Some, None, Result, Ok, Err, decimal}
use Rattle.std.specs.List.{find}
use Rattle.model.specs.Summary.{same_text}
use Rattle.vertices.specs.declared.kind.Kind.{Kind}
use Rattle.vertices.specs.declared.kind.Kind.TheVariants.{Root, Needed, Target, HasFeature, WantsFeature}
use Rattle.vertices.specs.declared.kind.Kind.TheVariants.{FeatureOnFeature, FeatureOnDependency, FeatureAsks}
use Rattle.vertices.specs.declared.kind.Kind.TheVariants.{NewestListed, WeakFeature}
use Rattle.std.specs.Option.{ok_or}
use Rattle.semver.specs.Identifiers.{parts_text}
use Rattle.semver.specs.Parse.{Parts, version_parts}
use Rattle.semver.specs.declared.error.Error.{Error}
use Rattle.model.specs.Outcome.{◌>>=◌}
use Rattle.model.specs.Selection.{Class, patch, minor, major}
use Rattle.model.specs.Vertices.{Owner, the_root, version_of, Vertex, root, pkg, dep, feat, ask, State, absent, present}
use Rattle.model.specs.Vertices.{version, in_class}
use Rattle.features.specs.Names.{after_text, around, is_package_name, is_feature_name}
use Rattle.classes.specs.Classes.{class_text, number_of}
use Rattle.vertices.specs.declared.fault.TextFault.{TextFault}
use Rattle.vertices.specs.declared.fault.TextFault.TheVariants.{OutOfMemory, NotAText}
use Rattle.model.specs.Axioms as model

-- ---- The kinds of axioms and their texts (the kinds are this project's).

abbrev pub kind_view : Kind → model.Kind
kind_view Root = model.Root
kind_view Needed = model.Needed
kind_view Target = model.Target
kind_view HasFeature = model.HasFeature
kind_view WantsFeature = model.WantsFeature
kind_view FeatureOnFeature = model.FeatureOnFeature
kind_view FeatureOnDependency = model.FeatureOnDependency
kind_view FeatureAsks = model.FeatureAsks
kind_view NewestListed = model.NewestListed
kind_view WeakFeature = model.WeakFeature

abbrev pub kind_text : model.Kind → List ℕ
kind_text model.Root = codes "X0"
kind_text model.Needed = codes "X1"
kind_text model.Target = codes "X2"
kind_text model.HasFeature = codes "X3"
kind_text model.WantsFeature = codes "X4"
kind_text model.FeatureOnFeature = codes "X5"
kind_text model.FeatureOnDependency = codes "X6"
kind_text model.FeatureAsks = codes "X7"
kind_text model.NewestListed = codes "X8"
kind_text model.WeakFeature = codes "X9"

abbrev pub kinds : List model.Kind
kinds = model.Root ∷ model.Needed ∷ model.Target ∷ model.HasFeature ∷ model.WantsFeature ∷ model.FeatureOnFeature
    ∷ model.FeatureOnDependency ∷ model.FeatureAsks ∷ model.NewestListed ∷ model.WeakFeature ∷ []

-- the kind that a text is
abbrev pub kind_of_text : List ℕ → Option model.Kind
kind_of_text text = find (λ k. same_text text (kind_text k)) kinds

-- ---- The kinds by number, as a search keeps them.

abbrev pub kind_number : model.Kind → ℕ
kind_number model.Root = 0
kind_number model.Needed = 1
kind_number model.Target = 2
kind_number model.HasFeature = 3
kind_number model.WantsFeature = 4
kind_number model.FeatureOnFeature = 5
kind_number model.FeatureOnDependency = 6
kind_number model.FeatureAsks = 7
kind_number model.NewestListed = 8
kind_number model.WeakFeature = 9

-- the kind that a number is; the root's where none is
abbrev pub kind_at : ℕ → model.Kind
kind_at n = slice_index_or kinds n model.Root

-- ---- The texts of owners, vertices and states.

abbrev pub owner_text : Owner → List ℕ
owner_text the_root = codes "root"
owner_text (version_of n v) = n ++ (64 ∷ parts_text v)

abbrev pub vertex_text : Vertex → List ℕ
vertex_text root = codes "root"
vertex_text (pkg n c) = codes "pkg " ++ (n ++ (32 ∷ class_text c))
vertex_text (dep o i) = codes "dep " ++ (owner_text o ++ (32 ∷ decimal i))
vertex_text (feat n c f) = codes "feat " ++ (n ++ (32 ∷ (class_text c ++ (32 ∷ f))))
vertex_text (ask n v i g) = codes "ask " ++ (n ++ (64 ∷ (parts_text v ++ (32 ∷ (decimal i ++ (32 ∷ g))))))

abbrev pub state_text : State → List ℕ
state_text absent = codes "absent"
state_text present = codes "present"
state_text (version v) = parts_text v
state_text (in_class c) = class_text c

-- ---- What texts are read as.

abbrev pub wants_memory : TextFault → Bool
wants_memory OutOfMemory = true
wants_memory NotAText = false

abbrev pub Reading : Type 0 → Type 0
Reading A = Result A TextFault

-- what has to be there, and of its form
abbrev pub needed : {A : Type 0} → Option A → Reading A
needed o = ok_or o NotAText

-- what stands before and after the first such byte
abbrev pub parted : ℕ → List ℕ → Reading (List ℕ × List ℕ)
parted byte text = needed (around byte text)

abbrev pub package_name_of : List ℕ → Reading (List ℕ)
package_name_of text = if is_package_name text then Ok text else Err NotAText

abbrev pub feature_name_of : List ℕ → Reading (List ℕ)
feature_name_of text = if is_feature_name text then Ok text else Err NotAText

abbrev pub version_or : Result Parts Error → Reading Parts
version_or (Ok v) = Ok v
version_or (Err e) = Err NotAText

abbrev pub version_of_text : List ℕ → Reading Parts
version_of_text text = version_or (version_parts text)

-- a whole number of 64 bits above 0, in decimal without leading zeros
unfoldable pub above_zero : List ℕ → Reading ℕ
above_zero text = do
  n ← needed (number_of text)
  if nat_lt 0 n then Ok n else Err NotAText

abbrev pub lesser_class : List ℕ → Option (List ℕ) → Reading Class
lesser_class text None = above_zero text >>= λ n. Ok (minor n)
lesser_class text (Some rest) = needed (number_of rest) >>= λ n. Ok (patch n)

abbrev pub class_or : List ℕ → Option (List ℕ) → Reading Class
class_or text None = above_zero text >>= λ n. Ok (major n)
class_or text (Some rest) = lesser_class rest (after_text (codes "0.") rest)

-- `N` or `0.N`, N above 0, or `0.0.N`
abbrev pub class_of_text : List ℕ → Reading Class
class_of_text text = class_or text (after_text (codes "0.") text)

-- the number of a dependency, of 32 bits
unfoldable pub index_of : List ℕ → Reading ℕ
index_of text = do
  n ← needed (number_of text)
  if nat_lt n 4294967296 then Ok n else Err NotAText

-- `NAME@VERSION`
unfoldable pub named_version_of_text : List ℕ → Reading (List ℕ × Parts)
named_version_of_text text = do
  parts ← parted 64 text
  name ← package_name_of parts.0
  v ← version_of_text parts.1
  Ok (name, v)

-- `root` or `NAME@VERSION`
abbrev pub owner_of_text : List ℕ → Reading Owner
owner_of_text text = if same_text text (codes "root") then Ok the_root
    else (named_version_of_text text >>= λ p. Ok (version_of p.0 p.1))

-- `NAME CLASS`
unfoldable pub package_of_text : List ℕ → Reading Vertex
package_of_text text = do
  parts ← parted 32 text
  name ← package_name_of parts.0
  class ← class_of_text parts.1
  Ok (pkg name class)

-- `OWNER I`
unfoldable pub dependency_of_text : List ℕ → Reading Vertex
dependency_of_text text = do
  parts ← parted 32 text
  owner ← owner_of_text parts.0
  i ← index_of parts.1
  Ok (dep owner i)

-- `NAME CLASS F`
unfoldable pub feature_of_text : List ℕ → Reading Vertex
feature_of_text text = do
  parts ← parted 32 text
  more ← parted 32 parts.1
  name ← package_name_of parts.0
  class ← class_of_text more.0
  f ← feature_name_of more.1
  Ok (feat name class f)

-- `NAME@VERSION I G`
unfoldable pub ask_of_text : List ℕ → Reading Vertex
ask_of_text text = do
  parts ← parted 32 text
  more ← parted 32 parts.1
  owner ← named_version_of_text parts.0
  i ← index_of more.0
  g ← feature_name_of more.1
  Ok (ask owner.0 owner.1 i g)

abbrev pub kinded_vertex : List ℕ → List ℕ → Reading Vertex
kinded_vertex word rest = if same_text word (codes "pkg") then package_of_text rest
    else if same_text word (codes "dep") then dependency_of_text rest
    else if same_text word (codes "feat") then feature_of_text rest
    else if same_text word (codes "ask") then ask_of_text rest
    else Err NotAText

-- the vertex that a text is, by its form alone
abbrev pub vertex_of_text : List ℕ → Reading Vertex
vertex_of_text text = if same_text text (codes "root") then Ok root
    else (parted 32 text >>= λ parts. kinded_vertex parts.0 parts.1)

abbrev pub present_of_text : List ℕ → Reading State
present_of_text text = if same_text text (codes "present") then Ok present else Err NotAText

-- what the vertex may be besides absent
abbrev pub value_of_text : Vertex → List ℕ → Reading State
value_of_text root text = present_of_text text
value_of_text (pkg n c) text = version_of_text text >>= λ v. Ok (version v)
value_of_text (dep o i) text = class_of_text text >>= λ c. Ok (in_class c)
value_of_text (feat n c f) text = present_of_text text
value_of_text (ask n v i g) text = present_of_text text

-- the state of the vertex that a text is
abbrev pub state_of_text : Vertex → List ℕ → Reading State
state_of_text v text = if same_text text (codes "absent") then Ok absent else value_of_text v text

-- ---- what reads back

-- a vertex is what its own text reads as: its names are names, its versions versions, its numbers within their limits
abbrev pub IsReadVertex : Vertex → Type 0
IsReadVertex v = vertex_of_text (vertex_text v) ≡ Ok v

-- so is a state, which its vertex may have
abbrev pub IsReadState : Vertex → State → Type 0
IsReadState v s = state_of_text v (state_text s) ≡ Ok s
