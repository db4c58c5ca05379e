use Rattle.std.proofs.Common.{arith, refl}
use Rattle.std.proofs.lemmas.Iterator.{items_from_collect, YieldsList-from_range}
use Rattle.version_sets.proofs.list.all_below.Goals as goal

pub returns : goal.returns
returns c = items_from_collect c.collect.result c.collect.ensures.ran
    (YieldsList-from_range 0 c.args.universe c.args.universe refl (omega arith))
