use Rattle.solver.proofs.Numbered.{axioms_given}
use Rattle.solver.proofs.laws.instances_have_their_kinds.Goals as goal

pub returns : goal.returns
returns c = axioms_given
