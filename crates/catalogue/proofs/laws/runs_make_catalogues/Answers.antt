use Rattle.catalogue.proofs.LawsCatalogues.{run-catalogue}
use Rattle.catalogue.proofs.laws.runs_make_catalogues.Goals as goal

pub returns : goal.returns
returns c = λ manifest old source asked in_turn. run-catalogue old source manifest asked in_turn
