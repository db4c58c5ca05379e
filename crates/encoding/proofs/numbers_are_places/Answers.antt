use Rattle.numbering.proofs.Places.{number_at, number_of}
use Rattle.encoding.proofs.numbers_are_places.Goals as goal

pub returns : goal.returns
returns c = λ q vs v n ok. (number_at vs v n, number_of vs v n ok.once)
