use Rattle.version_sets.proofs.Headed.{no_range}
use Rattle.version_sets.proofs.wide.rest_of_range.Goals as goal

pub returns-then-from-to : goal.returns-then-from-to
returns-then-from-to c = no_range c.args.universe c.args.from c.args.to c.even.result c.requires.small
    c.requires.within c.if-from-to.true c.even.ensures
