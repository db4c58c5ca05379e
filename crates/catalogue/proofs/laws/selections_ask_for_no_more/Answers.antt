use Rattle.catalogue.proofs.LawsFewer.{no_more}
use Rattle.catalogue.proofs.laws.selections_ask_for_no_more.Goals as goal

pub returns : goal.returns
returns c = λ files manifest old source asked content again run rerun valid.
    no_more files manifest old source asked content run valid again rerun
