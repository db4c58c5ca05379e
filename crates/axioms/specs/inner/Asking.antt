-- Whether a row of a feature table asks a dependency for a feature, and whether candidates do.
use Rattle.std.specs.Prelude.{ℕ, List, Bool}
use Rattle.semver.specs.Parse.{Parts}
use Rattle.std.specs.List.{list_any}
use Rattle.model.specs.Summary.{Entry, Table, entries_at}
use Rattle.model.specs.Content.{Problem, candidates_of}
use Rattle.model.specs.Vertices.{version_of}
use Rattle.model.specs.Causes.{asks_for, entries_or_none, owner_asks}

-- an entry of the row is `d/g` or `d?/g`
unfoldable pub row_names : List ℕ → List ℕ → List ℕ × List Entry → Bool
row_names d g row = list_any (asks_for d g) row.1

-- an entry of the feature that the row has is `d/g` or `d?/g`
unfoldable pub row_may_ask : List ℕ → List ℕ → Table → List ℕ × List Entry → Bool
row_may_ask d g table row = list_any (asks_for d g) (entries_or_none (entries_at row.0 table))

-- some dependency of the version asks the package for the feature
unfoldable pub version_asks : Problem → List ℕ → List ℕ → List ℕ → Parts → Bool
version_asks q name f n v = owner_asks q name f (version_of n v)

-- some candidate of this name does
unfoldable pub row_owners_ask : Problem → List ℕ → List ℕ → List ℕ → Bool
row_owners_ask q name f n = list_any (λ c. version_asks q name f n c.version) (candidates_of q.candidates n)
