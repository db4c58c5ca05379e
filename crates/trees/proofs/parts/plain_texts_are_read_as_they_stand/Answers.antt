use Rattle.trees.proofs.ScalarLemmas.{plain-text}
use Rattle.trees.proofs.parts.plain_texts_are_read_as_they_stand.Goals as goal

pub returns : goal.returns
returns c = plain-text
