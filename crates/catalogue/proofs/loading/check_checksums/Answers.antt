use Rattle.std.proofs.Common.{refl}
use Rattle.catalogue.specs.Loads.{first_changed}
use Rattle.catalogue.proofs.loading.check_checksums.Goals as goal

pub returns-in-None : goal.returns-in-None
unfolding first_changed
returns-in-None c = rw c.in-None.is refl
