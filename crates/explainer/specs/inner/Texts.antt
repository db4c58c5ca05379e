-- The texts of sets of states that steps name by numbers (the layout is this project's).
use Rattle.std.specs.Prelude.{ℕ, List, map, codes}
use Rattle.vertices.specs.Texts.{state_text}
use Rattle.derivations.specs.inner.Tables.{TablesView, states_at}
use Rattle.explainer.specs.Explanations.{with_between}

-- `STATE, STATE` of the states of these numbers
abbrev pub set_words : TablesView → List ℕ → List ℕ
set_words t ns = with_between (codes ", ") (map state_text (states_at t ns))

-- those of each set
abbrev pub sets_words : TablesView → List (List ℕ) → List (List ℕ)
sets_words t sets = map (set_words t) sets
