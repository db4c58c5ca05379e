-- The states of vertices but `absent`.
use Rattle.std.specs.Prelude.{List, [], ◌∷◌, Bool, not, ◌||◌, Option, Some, None, map}
use Rattle.semver.specs.Parse.{Parts, Held}
use Rattle.semver.specs.EvalViews.{matches_views}
use Rattle.model.specs.Summary.{Dependency}
use Rattle.model.specs.Content.{Problem}
use Rattle.model.specs.Selection.{class_of}
use Rattle.model.specs.Vertices.{Vertex, root, pkg, dep, feat, ask, State, present, version, in_class, has_state}
use Rattle.model.specs.Vertices.{class_candidates, dep_classes}
use Rattle.model.specs.Causes.{dependency_at}

abbrev pub classes_if : Problem → Option Dependency → List State
classes_if q None = []
classes_if q (Some d) = map in_class (dep_classes q d)

-- the states of a vertex but `absent`
abbrev pub others : Problem → Vertex → List State
others q root = present ∷ []
others q (pkg name k) = map (λ c. version c.version) (class_candidates q name k)
others q (dep o i) = classes_if q (dependency_at q o i)
others q (feat name k f) = present ∷ []
others q (ask name v i g) = present ∷ []

-- the class of a version that is matched is among the states
unfoldable pub has_if_matched : List State → List Held → Parts → Bool
has_if_matched ss req v = not (matches_views req v) || has_state ss (in_class (class_of v))
