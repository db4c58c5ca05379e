-- Where the versions of a class stand among versions that are oldest first (Cargo book, "Dependency Resolution",
-- "SemVer compatibility").
use Rattle.std.specs.Prelude.{◌≡◌, Bool, List, map, filter}
use Rattle.std.specs.List.{AllPairs}
use Rattle.std.specs.declared.cmp.Ordering.TheVariants.{Less}
use Rattle.semver.specs.Eval.{precedence_cmp}
use Rattle.semver.specs.Parse.{Parts}
use Rattle.semver.specs.declared.Version.{Version}
use Rattle.model.specs.Axioms.{is_lower}
use Rattle.model.specs.Selection.{Class, class_of}
use Rattle.model.specs.Vertices.{State, same_class, version}

-- oldest first, no two of equal precedence
abbrev pub AreRising : List Version → Type 0
AreRising vs = AllPairs (λ v w. precedence_cmp v w ≡ Less) vs

abbrev pub is_of : Class → Parts → Bool
is_of k v = same_class k (class_of v)

abbrev pub is_below : Class → Parts → Bool
is_below k v = is_lower (class_of v) k

abbrev pub is_above : Class → Parts → Bool
is_above k v = is_lower k (class_of v)

-- the states of the versions that pass
abbrev pub versions_with : (Parts → Bool) → List Parts → List State
versions_with test vs = map version (filter test vs)
