use Rattle.derivations.specs.inner.Tables.{AreStatesOf}
use Rattle.explainer.proofs.TextLaws.{at-each}
use Rattle.explainer.proofs.texts.sets_in.Goals as goal

pub set_text-requires : goal.set_text-requires
set_text-requires c =
    rw c.deref.ensures.value (at-each (AreStatesOf c.args.tables.now)
    (λ s. s.items) c.args.sets.now c.sets.set-index c.set-item.result c.requires c.sets-test.true c.set-item.is)
