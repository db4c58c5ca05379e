-- Which lines are steps of a derivation, and which steps they are (JSON, RFC 8259, in the meaning of `serde_json`; the
-- format is this project's).
use Rattle.std.specs.Prelude.{ℕ, Bool, true, if◌then◌else◌, nat_lt, ◌&&◌, List, [], ◌∷◌, map, Option, Some, None}
use Rattle.std.specs.Prelude.{option_and_then, is_none, Ok, Err, codes}
use Rattle.std.specs.declared.cmp.Ordering.{Ordering}
use Rattle.serde_json.specs.Data.{Data, Items, no_items, item}
use Rattle.serde_json.specs.Find as json
use Rattle.model.specs.Outcome.{◌>>=◌, guard}
use Rattle.model.specs.Order.{text_cmp}
use Rattle.model.specs.Vertices.{Vertex, State}
use Rattle.model.specs.Axioms.{Kind, Term, at}
use Rattle.model.specs.Derivation.{Step, given, combine}
use Rattle.trees.specs.Trees as trees
use Rattle.vertices.specs.Texts.{kind_of_text}
use Rattle.vertices.specs.Orders.{state_cmp}
use Rattle.derivations.specs.Orders.{ordered}
use Rattle.derivations.specs.Lines.{Line, needed, vertex_in_line, state_in_line}
use Rattle.derivations.specs.declared.fault.LineFault.TheVariants.{NotALine, Forward}

-- the JSON value that the bytes are
abbrev pub data_of_bytes : List ℕ → Line Data
data_of_bytes bytes = needed (trees.data_of_bytes bytes)

abbrev pub text_of : Data → Line (List ℕ)
text_of d = needed (json.as_str d)

abbrev pub whole_of : Data → Line ℕ
whole_of d = needed (option_and_then json.as_u64 (json.as_number d))

abbrev pub item_at : ℕ → Data → Line Data
item_at i d = needed (json.at i d)

-- there is no such item
abbrev pub none_at : ℕ → Data → Line (Unit {0})
none_at i d = guard (is_none (json.at i d)) NotALine

-- an array of two
unfoldable pub two_of : Data → Line (Data × Data)
two_of d = do
  first ← item_at 0 d
  second ← item_at 1 d
  others ← none_at 2 d
  Ok (first, second)

-- ---- terms

-- the states of the vertex, in the file's order
unfoldable pub states_in : Vertex → Items → Line (List State)
states_in v no_items = Ok []
states_in v (item d ds) = do
  text ← text_of d
  first ← state_in_line v text
  others ← states_in v ds
  Ok (first ∷ others)

-- the states in the written order, none twice
unfoldable pub states_of : Vertex → Data → Line (List State)
states_of v d = do
  ds ← needed (json.as_array d)
  written ← states_in v ds
  ordered state_cmp written

-- a term and the text of its vertex
abbrev pub Written : Type 0
Written = List ℕ × Term

abbrev pub written_cmp : Written → Written → Ordering
written_cmp t u = text_cmp t.0 u.0

-- `["VERTEX",["STATE",..]]`
unfoldable pub term_of : Data → Line Written
term_of d = do
  parts ← two_of d
  text ← text_of parts.0
  v ← vertex_in_line text
  states ← states_of v parts.1
  Ok (text, at v states)

-- the terms in the file's order
unfoldable pub terms_in : Items → Line (List Written)
terms_in no_items = Ok []
terms_in (item d ds) = do
  first ← term_of d
  others ← terms_in ds
  Ok (first ∷ others)

abbrev pub terms_without_texts : List Written → List Term
terms_without_texts ts = map (λ t. t.1) ts

-- the terms by the bytes of their vertices' texts, no vertex twice
unfoldable pub terms_of : Data → Line (List Term)
terms_of d = do
  ds ← needed (option_and_then json.as_array (json.get (codes "terms") d))
  written ← terms_in ds
  sorted ← ordered written_cmp written
  Ok (terms_without_texts sorted)

-- ---- origins

-- the kind of an axiom, or two steps and the vertex at which they are combined
pub data Origin : Type 0 where
  by_axiom : Kind → Origin
  by_combination : ℕ → ℕ → Vertex → Origin

unfoldable pub axiom_of : Data → Line Origin
axiom_of d = do
  text ← text_of d
  kind ← needed (kind_of_text text)
  Ok (by_axiom kind)

-- `[A,B,"VERTEX"]`
unfoldable pub combination_of : Data → Line Origin
combination_of d = do
  first_item ← item_at 0 d
  first ← whole_of first_item
  second_item ← item_at 1 d
  second ← whole_of second_item
  vertex_item ← item_at 2 d
  text ← text_of vertex_item
  v ← vertex_in_line text
  others ← none_at 3 d
  Ok (by_combination first second v)

-- just one of `axiom` and `combine`
abbrev pub origin_from : Option Data → Option Data → Line Origin
origin_from (Some d) None = axiom_of d
origin_from None (Some d) = combination_of d
origin_from None None = Err NotALine
origin_from (Some d) (Some e) = Err NotALine

abbrev pub origin_of : Data → Line Origin
origin_of d = origin_from (json.get (codes "axiom") d) (json.get (codes "combine") d)

-- ---- steps

-- a step refers to steps before it
abbrev pub is_backward : ℕ → Origin → Bool
is_backward n (by_axiom k) = true
is_backward n (by_combination a b v) = nat_lt a n && nat_lt b n

abbrev pub step_by : Origin → List Term → Step
step_by (by_axiom k) ts = given k ts
step_by (by_combination a b v) ts = combine a b v ts

-- the step of this number that a JSON value is
unfoldable pub step_of : ℕ → Data → Line Step
step_of n d = do
  origin ← origin_of d
  terms ← terms_of d
  backward ← guard (is_backward n origin) Forward
  Ok (step_by origin terms)

-- the step of this number that a line is
unfoldable pub step_of_line : ℕ → List ℕ → Line Step
step_of_line n line = do
  d ← data_of_bytes line
  step_of n d
