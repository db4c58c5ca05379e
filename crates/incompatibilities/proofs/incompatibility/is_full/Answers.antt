use Rattle.std.proofs.Common.{◌∙◌, ap₂, eqb}
use Rattle.version_sets.proofs.Laws.{full_by_size}
use Rattle.incompatibilities.proofs.incompatibility.is_full.Goals as goal

pub returns : goal.returns
returns g c = ap₂ eqb c.count.ensures c.universe.ensures.universe ∙ full_by_size (g.S.States.tests c.args.set.now)
