use Rattle.semver.proofs.Grammar.{version_parts-sound}
use Rattle.lockfile.proofs.table.version.Goals as goal

pub returns-in-Ok-clause-reads : goal.returns-in-Ok-clause-reads
returns-in-Ok-clause-reads c = (version_parts-sound _ _ c.in-Ok.ensures.ok).1
