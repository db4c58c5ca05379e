use Rattle.derivations.specs.inner.Named.{named_view}
use Rattle.derivations.proofs.BuildingLaws.{new-at}
use Rattle.derivations.proofs.named.sets_in_order.Goals as goal

pub set_in_order-requires : goal.set_in_order-requires
set_in_order-requires c =
    new-at named_view c.args.terms.now c.terms.term-index c.term-item.result c.requires c.terms-test.true c.term-item.is
