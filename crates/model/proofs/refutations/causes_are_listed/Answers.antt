use Rattle.model.proofs.Listing.{listed-is, listed-once}
use Rattle.model.proofs.refutations.causes_are_listed.Goals as goal

pub returns-clause-listed : goal.returns-clause-listed
returns-clause-listed c = λ q x. listed-is q x

pub returns-clause-once : goal.returns-clause-once
returns-clause-once c = λ q. listed-once q
