use Rattle.guiding.proofs.Each.{each_falls}
use Rattle.guiding.proofs.laws.assignments_fall.Goals as goal

pub returns : goal.returns
returns g late t sound = each_falls late t sound
