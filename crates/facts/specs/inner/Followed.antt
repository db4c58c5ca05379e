-- When what the root reaches in an assignment of the search is a content that was given: the root alone brings it, and
-- each state of the assignment but absent is its own.
use Rattle.std.specs.Prelude.{◌≢◌}
use Rattle.model.specs.Content.{Content, Problem}
use Rattle.model.specs.Vertices.{State, Vertex, absent}
use Rattle.model.specs.inner.Assignment.{Assigns}

-- a vertex that isn't absent has its state in the content; that is a relation, so nothing speaks against it
abbrev pub AgreesWith : Problem → (Vertex → State) → Content → Type 0
AgreesWith q state content = (v : Vertex) → state v ≢ absent → (Assigns q content v (state v) → ⊥) → ⊥
