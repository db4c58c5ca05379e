use Rattle.resolver.proofs.Checked.{checked}
use Rattle.resolver.proofs.checking.check_loaded.Goals as goal

pub returns : goal.returns
returns c =
    checked c.args.inputs.now c.args.derivation.now c.in_ok-derivation.derivation c.in_ok-check.field-0
    c.in_ok-derivation.ensures c.in_ok-check.ensures.proves c.in_ok-check.ensures.refused c.in_ok-check.ensures.refutes
