use Rattle.derivations.specs.inner.Named.{named_view}
use Rattle.derivations.proofs.BuildingLaws.{states-apart}
use Rattle.derivations.proofs.named.set_in_order.Goals as goal

pub ordered_states-requires : goal.ordered_states-requires
ordered_states-requires c = states-apart (named_view c.args.term.now) c.requires
