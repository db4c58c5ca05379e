use Rattle.trees.proofs.ObjectLemmas.{object-by_members}
use Rattle.trees.proofs.parts.objects_are_read_by_members.Goals as goal

pub returns : goal.returns
returns c = object-by_members
