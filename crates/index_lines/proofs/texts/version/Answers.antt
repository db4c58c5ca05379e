use Rattle.semver.specs.Identifiers.{parts_of}
use Rattle.semver.proofs.Grammar.{version_parts-sound}
use Rattle.index_lines.proofs.texts.version.Goals as goal

pub returns-in-Ok-clause-valid : goal.returns-in-Ok-clause-valid
returns-in-Ok-clause-valid c = (version_parts-sound c.args.text.now (parts_of c.in-Ok.version) c.in-Ok.ensures.ok).1
