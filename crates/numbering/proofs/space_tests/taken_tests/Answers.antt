use Rattle.std.proofs.Common.{◌∙◌, ◌∷◌, false, sym, ap}
use Rattle.numbering.proofs.space_tests.taken_tests.Goals as goal

pub returns-in-Some : goal.returns-in-Some
returns-in-Some c = c.range_tests.ensures ∙ ap (λ l. false ∷ l) (sym c.in-Some.ensures.1.1)
