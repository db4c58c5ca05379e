use Rattle.catalogue.proofs.LawsChecksums.{same_checksum}
use Rattle.catalogue.proofs.laws.selections_have_their_checksums.Goals as goal

pub returns : goal.returns
returns c = same_checksum
