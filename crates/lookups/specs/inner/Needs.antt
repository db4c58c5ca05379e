-- Dependencies that count and that no candidate serves.
use Rattle.std.specs.Prelude.{ℕ, ◌+◌, List, [], ◌∷◌, Bool, ◌&&◌, Option, Some, None, option_and_then, if◌then◌else◌}
use Rattle.std.specs.List.{find}
use Rattle.semver.specs.Parse.{Parts}
use Rattle.model.specs.Summary.{Dependency}
use Rattle.model.specs.Content.{Problem}
use Rattle.model.specs.Vertices.{Owner, version_of}
use Rattle.model.specs.Causes.{Cause, of_enabling, enables, is_needed, is_unmatched, dependency_at, entries_of}

unfoldable pub is_needed_unmatched : Problem → Owner → Dependency → Bool
is_needed_unmatched q o d = is_needed o d && is_unmatched q d

-- the first place that passes, where the list starts at this number
abbrev pub place_from : {A : Type 0} → (A → Bool) → ℕ → List A → Option ℕ
place_from test n [] = None
place_from test n (x ∷ xs) = if test x then Some n else place_from test (n + 1) xs

-- the cause with the first entry that enables the dependency of this number
abbrev pub enabling_by : Problem → List ℕ → Parts → List ℕ → ℕ → Option Cause
enabling_by q name v f i = option_and_then (λ d. option_and_then (λ e. Some (of_enabling name v f e i))
    (find (enables d.name) (entries_of q name v f))) (dependency_at q (version_of name v) i)
