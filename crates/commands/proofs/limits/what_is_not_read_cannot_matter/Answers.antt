use Rattle.commands.proofs.CutFiles.{lock-cut, manifest-cut}
use Rattle.commands.proofs.limits.what_is_not_read_cannot_matter.Goals as goal

pub returns-clause-manifest : goal.returns-clause-manifest
returns-clause-manifest c = manifest-cut

pub returns-clause-lock : goal.returns-clause-lock
returns-clause-lock c = lock-cut
