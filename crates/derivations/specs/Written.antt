-- The one text that a derivation is written as: compact JSON (RFC 8259), a line for each step (the format is this
-- project's).
use Rattle.std.specs.Prelude.{ℕ, Bool, if◌then◌else◌, List, [], ◌++◌, map, codes, decimal}
use Rattle.std.specs.List.{flat_map, join_with_byte}
use Rattle.model.specs.Vertices.{Vertex, State}
use Rattle.model.specs.Axioms.{Term}
use Rattle.model.specs.Derivation.{Step, given, combine, terms_of}
use Rattle.vertices.specs.Texts.{kind_text, vertex_text, state_text}

-- in quotes: the texts of kinds, vertices and states have no byte that JSON would escape
abbrev pub quoted : List ℕ → List ℕ
quoted text = codes "\"" ++ (text ++ codes "\"")

-- with commas between
abbrev pub with_commas : List (List ℕ) → List ℕ
with_commas = join_with_byte 44

-- before each but the first
abbrev pub comma_if : Bool → List ℕ
comma_if later = if later then codes "," else []

abbrev pub state_json : State → List ℕ
state_json s = quoted (state_text s)

-- `["VERTEX",["STATE",..]]`
abbrev pub term_json : Term → List ℕ
term_json t = codes "["
    ++ (quoted (vertex_text t.vertex) ++ (codes ",[" ++ (with_commas (map state_json t.states) ++ codes "]]")))

-- `"combine":[A,B,"VERTEX"]`
abbrev pub combination_json : ℕ → ℕ → Vertex → List ℕ
combination_json a b v = codes "\"combine\":["
    ++ ((decimal a ++ codes ",") ++ ((decimal b ++ codes ",") ++ (quoted (vertex_text v) ++ codes "]")))

-- that, or `"axiom":"X1"`
abbrev pub origin_json : Step → List ℕ
origin_json (given k ts) = codes "\"axiom\":" ++ quoted (kind_text k)
origin_json (combine a b v ts) = combination_json a b v

-- the JSON object of a step
abbrev pub step_json : Step → List ℕ
step_json s =
    codes "{" ++ (origin_json s ++ (codes ",\"terms\":[" ++ (with_commas (map term_json (terms_of s)) ++ codes "]}")))

-- each step as a line
abbrev pub lines_of : List Step → List ℕ
lines_of steps = flat_map (λ s. step_json s ++ codes "\n") steps
