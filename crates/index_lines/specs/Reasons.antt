-- How the reason to skip a line of an index file is printed: its number and its name (both our own).
use Rattle.std.specs.Prelude.{ℕ, List, codes}
use Rattle.index_lines.specs.declared.fault.SkipReason.{SkipReason}
use Rattle.index_lines.specs.declared.fault.SkipReason.TheVariants.{NotJson, Shape, NewerFormat, OtherName, BadVersion}
use Rattle.index_lines.specs.declared.fault.SkipReason.TheVariants.{BadRequirement, BadFeatures, OtherRegistry}
use Rattle.index_lines.specs.declared.fault.SkipReason.TheVariants.{Duplicate, BadChecksum}

abbrev pub reason_text : SkipReason → List ℕ
reason_text NotJson = codes "S1 NotJson"
reason_text Shape = codes "S2 Shape"
reason_text NewerFormat = codes "S3 NewerFormat"
reason_text OtherName = codes "S4 OtherName"
reason_text BadVersion = codes "S5 BadVersion"
reason_text BadRequirement = codes "S6 BadRequirement"
reason_text BadFeatures = codes "S7 BadFeatures"
reason_text OtherRegistry = codes "S8 OtherRegistry"
reason_text Duplicate = codes "S10 Duplicate"
reason_text BadChecksum = codes "S11 BadChecksum"
