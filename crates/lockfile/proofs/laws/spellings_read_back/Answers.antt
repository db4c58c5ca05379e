use Rattle.lockfile.proofs.Back.{bytes-back}
use Rattle.lockfile.proofs.laws.spellings_read_back.Goals as goal

pub returns : goal.returns
returns c = bytes-back
