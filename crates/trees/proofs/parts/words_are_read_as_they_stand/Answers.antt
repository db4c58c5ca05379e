use Rattle.trees.proofs.ScalarLemmas.{plain-false, plain-null, plain-true}
use Rattle.trees.proofs.parts.words_are_read_as_they_stand.Goals as goal

pub returns-clause-yes : goal.returns-clause-yes
returns-clause-yes c = plain-true

pub returns-clause-no : goal.returns-clause-no
returns-clause-no c = plain-false

pub returns-clause-nothing : goal.returns-clause-nothing
returns-clause-nothing c = plain-null
