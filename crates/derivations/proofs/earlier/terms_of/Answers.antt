use Rattle.derivations.proofs.EarlierLaws.{terms-before}
use Rattle.derivations.proofs.TableLaws.{lent}
use Rattle.derivations.proofs.earlier.terms_of.Goals as goal

pub returns-in-Some : goal.returns-in-Some
returns-in-Some c t h =
    rw c.deref.ensures.value (terms-before t c.args.steps.now c.args.number c.in-Some.step.now h
    (lent c.args.steps.now c.args.number c.get.result c.in-Some.step c.get.ensures.lookup c.in-Some.is))
