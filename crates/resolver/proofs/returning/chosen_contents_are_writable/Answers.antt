use Rattle.resolver.proofs.Unread.{chosen-writable}
use Rattle.resolver.proofs.returning.chosen_contents_are_writable.Goals as goal

pub returns : goal.returns
returns g c = λ request before inputs after content address read.
    chosen-writable g.F.Folder.calls g.F.Folder.failed request before inputs after address read content
