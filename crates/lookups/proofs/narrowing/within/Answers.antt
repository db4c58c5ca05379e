use Rattle.features.specs.Views.{requirement_view}
use Rattle.lookups.proofs.Narrowed.{narrowed}
use Rattle.lookups.proofs.narrowing.within.Goals as goal

pub returns-clause-matched : goal.returns-clause-matched
returns-clause-matched c =
    narrowed (requirement_view c.args.requirement.now) c.args.versions.now c.too_old.result c.old_enough.result
    c.too_old.ensures.place c.old_enough.ensures.place
