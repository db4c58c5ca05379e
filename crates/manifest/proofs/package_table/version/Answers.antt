use Rattle.semver.proofs.Grammar.{version_parts-sound}
use Rattle.manifest.proofs.package_table.version.Goals as goal

pub returns-in-Ok-clause-valid : goal.returns-in-Ok-clause-valid
returns-in-Ok-clause-valid c = (version_parts-sound _ _ c.in-Ok.ensures.ok).1
