-- Tests of the versions of a class by a requirement and by a feature.
use Rattle.std.specs.Prelude.{ℕ, ◌==◌, ◌-◌, ◌++◌, List, Bool, true, false, not, length, replicate, Option, Some, None}
use Rattle.semver.specs.Parse.{Parts, Held}
use Rattle.semver.specs.EvalViews.{matches_views}
use Rattle.model.specs.Summary.{has_feature}
use Rattle.model.specs.Content.{Problem}
use Rattle.model.specs.Vertices.{owner_brings, version_of}

-- the requirement doesn't match the version
unfoldable pub is_left : List Held → Parts → Bool
is_left req v = not (matches_views req v)

-- this version of the name lacks the feature
unfoldable pub is_lacking : Problem → List ℕ → List ℕ → Parts → Bool
is_lacking q name f v = not (has_feature (owner_brings q (version_of name v)).features f)

-- not a pre-release
abbrev pub is_release : Parts → Bool
is_release v = length (v.3) == 0

abbrev pub is_whole_with : Option ℕ → Option ℕ → Bool
is_whole_with (Some m) p = true
is_whole_with None None = true
is_whole_with None (Some p) = false

-- no number is left out before one that is there
abbrev pub is_whole : Held → Bool
is_whole c = is_whole_with c.2 c.3

-- of n places those from one on and up to another pass
abbrev pub tests_of_range : ℕ → ℕ → ℕ → List Bool
tests_of_range from to n = replicate from false ++ (replicate (to - from) true ++ replicate (n - to) false)
