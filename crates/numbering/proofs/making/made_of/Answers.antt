use Rattle.numbering.proofs.Saying.{made_says}
use Rattle.numbering.proofs.making.made_of.Goals as goal

pub returns : goal.returns
returns g c = record { says = λ q vs ms numbering are. made_says q vs numbering.once _ ms _ are c.new.ensures.made }
