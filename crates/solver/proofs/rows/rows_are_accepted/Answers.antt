use Rattle.std.proofs.Common.{◌∙◌}
use Rattle.solver.proofs.Accepting.{accepted}
use Rattle.solver.proofs.rows.rows_are_accepted.Goals as goal

pub returns : goal.returns
returns c = λ q vs es last fs steps known ok axioms row are none.
    accepted q vs es last fs steps known ok axioms row are (row.ends ∙ none)
