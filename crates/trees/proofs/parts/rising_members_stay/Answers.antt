use Rattle.trees.proofs.RisingLemmas.{members-stay}
use Rattle.trees.proofs.parts.rising_members_stay.Goals as goal

pub returns : goal.returns
returns c = members-stay
