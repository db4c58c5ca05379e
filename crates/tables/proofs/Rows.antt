-- A table that has rows.
use Rattle.std.proofs.Common.{◌≡◌, ◌==◌, List, [], ◌∷◌, length, not, String, Global, arith, refl}
use Rattle.std.proofs.lemmas.Bool.Decides.{nat_tests}
use Rattle.toml.specs.View.{members_view}
use Rattle.toml.specs.declared.value.Value.{Value}
use Rattle.tables.specs.Rows.{has_rows}

-- a table has rows where its map isn't empty
pub has_rows-view : (es : List (String Global × Value)) → has_rows (members_view es) ≡ not (length es == 0)
has_rows-view [] = refl
has_rows-view (e ∷ es) = grind (arith, nat_tests)
