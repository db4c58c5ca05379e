use Rattle.numbering.proofs.ClassOrder.{matched_classes}
use Rattle.numbering.proofs.matched_classes_are_states.Goals as goal

pub returns : goal.returns
returns c = λ q d rising. matched_classes q d rising
