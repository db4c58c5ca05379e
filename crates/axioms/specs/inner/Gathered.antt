-- Which features of packages are known: some candidate of the name has the feature, or some dependency asks for it; and
-- how that is gathered owner by owner.
use Rattle.std.specs.Prelude.{ℕ, List, Bool, ◌&&◌, ◌||◌}
use Rattle.std.specs.List.{list_any}
use Rattle.semver.specs.Parse.{Parts}
use Rattle.model.specs.Summary.{Summary, Dependency, asked_of_target, has_feature, same_text}
use Rattle.model.specs.Content.{Problem, brings_of, candidate_at, candidates_of}
use Rattle.model.specs.Causes.{owner_asks, owners}
use Rattle.catalogue.specs.Stores.{CatalogueView, rows_by_name}
use Rattle.axioms.specs.inner.Asking.{row_may_ask, row_names}

abbrev pub is_known_feature : Problem → List ℕ → List ℕ → Bool
is_known_feature q n f = list_any (λ c. has_feature c.brings.features f) (candidates_of q.candidates n)
    || list_any (owner_asks q n f) (owners q)

-- the dependency asks for the feature by its list, or is asked for it by the name that it is called by
abbrev pub asks_by : (List ℕ → List ℕ → Bool) → Dependency → List ℕ → List ℕ → Bool
asks_by asked d n f = same_text n d.real_name && (list_any (same_text f) (asked_of_target d) || asked d.name f)

abbrev pub some_asks_by : (List ℕ → List ℕ → Bool) → List Dependency → List ℕ → List ℕ → Bool
some_asks_by asked ds n f = list_any (λ d. asks_by asked d n f) ds

-- what entries of the root and of a version ask for
abbrev pub root_entries_ask : Summary → List ℕ → List ℕ → Bool
root_entries_ask o d g = list_any (row_names d g) o.features

abbrev pub version_entries_ask : Summary → List ℕ → List ℕ → Bool
version_entries_ask o d g = list_any (row_may_ask d g o.features) o.features

-- some dependency of the root, or of a version, asks the package for the feature
abbrev pub is_asked_by_root : Summary → List ℕ → List ℕ → Bool
is_asked_by_root o n f = some_asks_by (root_entries_ask o) o.dependencies n f

unfoldable pub is_asked_by_version : Summary → List ℕ → List ℕ → Bool
is_asked_by_version o n f = some_asks_by (version_entries_ask o) o.dependencies n f

-- what a candidate brings
abbrev pub brings_in : CatalogueView → List ℕ → Parts → Summary
brings_in c name v = brings_of (candidate_at (candidates_of (rows_by_name c) name) v)

-- some candidate of this name has the feature, where this is the name
abbrev pub is_had : CatalogueView → List ℕ → List ℕ → List ℕ → Bool
is_had c name n f =
    same_text n name && list_any (λ e. has_feature e.brings.features f) (candidates_of (rows_by_name c) name)

-- some candidate of this name asks the package for the feature
abbrev pub is_asked_by_some : CatalogueView → List ℕ → List ℕ → List ℕ → Bool
is_asked_by_some c name n f =
    list_any (λ e. is_asked_by_version (brings_in c name e.version) n f) (candidates_of (rows_by_name c) name)

unfoldable pub is_known_by : CatalogueView → List ℕ → List ℕ → List ℕ → Bool
is_known_by c name n f = is_had c name n f || is_asked_by_some c name n f
