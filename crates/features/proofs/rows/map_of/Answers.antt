use Rattle.features.proofs.RowLemmas.{map-rows}
use Rattle.features.proofs.rows.map_of.Goals as goal

pub returns : goal.returns
returns c = map-rows c.args.rows.items c.in_ok-features.features c.in_ok-features.ensures c.requires
