-- Which names, entries, tables and dependencies are of names that are names, and how many dependencies have numbers of
-- 32
-- bits.
use Rattle.std.specs.Prelude.{◌≡◌, ℕ, ◌≤◌, true, List, length}
use Rattle.std.specs.List.{All}
use Rattle.model.specs.Summary.{Summary, Dependency, Entry, feature, dependency, dependency_feature, weak_feature}
use Rattle.features.specs.Names.{is_package_name, is_feature_name}

abbrev pub IsPackageName : List ℕ → Type 0
IsPackageName n = is_package_name n ≡ true

abbrev pub IsFeatureName : List ℕ → Type 0
IsFeatureName f = is_feature_name f ≡ true

-- the feature that an entry asks for elsewhere
abbrev pub IsValidEntry : Entry → Type 0
IsValidEntry (feature g) = Unit {0}
IsValidEntry (dependency d) = Unit {0}
IsValidEntry (dependency_feature d g) = IsFeatureName g
IsValidEntry (weak_feature d g) = IsFeatureName g

abbrev pub IsValidRow : List ℕ × List Entry → Type 0
IsValidRow row = IsFeatureName row.0 × All IsValidEntry row.1

abbrev pub IsValidDependency : Dependency → Type 0
IsValidDependency d = All IsFeatureName d.features

-- what the root or a candidate brings
pub record BringsValid (o : Summary) : Type 0 where
  pub few : length o.dependencies ≤ 4294967296
  pub dependencies : All IsValidDependency o.dependencies
  pub features : All IsValidRow o.features
