use Rattle.lockfile.proofs.Contents.{linked-content}
use Rattle.lockfile.proofs.reader.content.Goals as goal

pub new-requires : goal.new-requires
new-requires c =
    rw c.in_ok-all_linked.ensures (linked-content _ _ c.requires (rw c.deref.ensures.value at c.in_ok-lists.ensures))
