-- Where the features of a table stand.
use Rattle.std.specs.Prelude.{ℕ, suc, if◌then◌else◌, List, [], ◌∷◌, Option, None, Some, option_map}
use Rattle.model.specs.Summary.{Table, same_text}

-- the place of the row of a feature, where the table has it
abbrev pub place_of : List ℕ → Table → Option ℕ
place_of f [] = None
place_of f (row ∷ rows) = if same_text f row.0 then Some 0 else option_map suc (place_of f rows)
