-- What a package brings: its dependencies and its feature table (Cargo book, "Specifying Dependencies" and "Features").
use Rattle.std.specs.Prelude.{◌≡◌, ℕ, List, [], ◌∷◌, ◌++◌, Bool, true, if◌then◌else◌, Option, Some, None, nat_eq}
use Rattle.std.specs.Prelude.{is_some, Contains, codes}
use Rattle.std.specs.Cmp.Lexicographic.{pointwise}
use Rattle.semver.specs.Parse.{Held}

-- names are compared byte for byte
abbrev pub same_text : List ℕ → List ℕ → Bool
same_text = pointwise nat_eq

-- an entry of a feature: `g`, `dep:d`, `d/g` and `d?/g`
pub data Entry : Type 0 where
  feature : List ℕ → Entry
  dependency : List ℕ → Entry
  dependency_feature : List ℕ → List ℕ → Entry
  weak_feature : List ℕ → List ℕ → Entry

-- a dependency: the name that it is called by, and the package that it means
pub record Dependency : Type 0 where
  pub name : List ℕ
  pub real_name : List ℕ
  pub requirement : List Held
  pub optional : Bool
  pub default_features : Bool
  pub features : List (List ℕ)

-- a feature table: each feature once, with its entries, implicit ones and `default` among them
abbrev pub Table : Type 0
Table = List (List ℕ × List Entry)

-- the entries of a feature, where the table has it
abbrev pub entries_at : List ℕ → Table → Option (List Entry)
entries_at f [] = None
entries_at f (row ∷ rows) = if same_text f row.0 then Some row.1 else entries_at f rows

abbrev pub has_feature : Table → List ℕ → Bool
has_feature table f = is_some (entries_at f table)

-- an entry `g` of a feature names a feature of the same table
abbrev pub KnowsFeatures : Table → Type 0
KnowsFeatures table = (f g : List ℕ) (es : List Entry) → entries_at f table ≡ Some es → Contains es (feature g)
    → has_feature table g ≡ true

-- the root or a candidate: what it brings, without a candidate's dev-dependencies
pub record Summary : Type 0 where
  pub dependencies : List Dependency
  pub features : Table

-- what a package brings that is neither
abbrev pub nothing : Summary
nothing = record { dependencies = []; features = [] }

-- the features that a dependency asks its target for
abbrev pub asked_of_target : Dependency → List (List ℕ)
asked_of_target d = if d.default_features then d.features ++ codes "default" ∷ [] else d.features
