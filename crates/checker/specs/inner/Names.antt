-- When what the numbers of steps stand for is at hand: an order of the vertices, and the sets of states (the layout is
-- this project's).
use Rattle.std.specs.Prelude.{◌≡◌, ℕ, ◌<◌, ◌≤◌, List, [], filter, length, slice_index_or, Option, Some, None}
use Rattle.std.specs.Prelude.{option_map}
use Rattle.std.specs.Ordering.{is_lt, nat_cmp}
use Rattle.model.specs.Order.{text_cmp}
use Rattle.model.specs.Vertices as model
use Rattle.vertices.specs.Texts.{vertex_text}
use Rattle.derivations.specs.inner.Tables.{TablesView, vertex_at, states_at, set_at}

-- ---- ranks

-- how many of the texts are less
abbrev pub rank_of : List (List ℕ) → List ℕ → ℕ
rank_of texts x = length (filter (λ y. is_lt (text_cmp y x)) texts)

abbrev pub rank_at : List ℕ → ℕ → ℕ
rank_at ranks n = slice_index_or ranks n 0

abbrev pub text_at : List (List ℕ) → ℕ → List ℕ
text_at texts n = slice_index_or texts n []

-- two compare as the texts do
pub record AreRanks (texts : List (List ℕ)) (ranks : List ℕ) : Type 0 where
  pub same : length ranks ≡ length texts
  pub order : (n m : ℕ) → n < length ranks → m < length ranks
      → nat_cmp (rank_at ranks n) (rank_at ranks m) ≡ text_cmp (text_at texts n) (text_at texts m)

-- as the texts of the vertices of these numbers do
abbrev pub AreVertexRanks : TablesView → List ℕ → Type 0
AreVertexRanks t ranks = (n m : ℕ) → n < length ranks → m < length ranks
    → nat_cmp (rank_at ranks n) (rank_at ranks m) ≡ text_cmp (vertex_text (vertex_at t n)) (vertex_text (vertex_at t m))

-- ---- sets of states

abbrev pub Sets : Type 0
Sets = List (Option (List model.State))

-- the states of the set of this number
abbrev pub named_set : TablesView → ℕ → List model.State
named_set t n = states_at t (set_at t n)

-- and of a number, if there is one
abbrev pub set_if : TablesView → Option ℕ → Option (List model.State)
set_if t o = option_map (named_set t) o

abbrev pub IsMade : TablesView → Sets → ℕ → Type 0
IsMade t sets n = (n < length sets) × (slice_index_or sets n None ≡ Some (named_set t n))

-- each that is made is the one of its number
abbrev pub AreSets : TablesView → Sets → Type 0
AreSets t sets = (n : ℕ) (ss : List model.State) → slice_index_or sets n None ≡ Some ss → ss ≡ named_set t n

-- ---- texts of vertices, from the first on

abbrev pub AreTexts : TablesView → List (List ℕ) → Type 0
AreTexts t texts =
    (length texts ≤ length t.vertices) × ((n : ℕ) → n < length texts → text_at texts n ≡ vertex_text (vertex_at t n))
