use Rattle.std.proofs.Common.{◌∙◌, sym}
use Rattle.conflicts.proofs.strengthening.is_unit_for.Goals as goal

pub subset-requires : goal.subset-requires
subset-requires g c =
    let tests = g.S.States.tests in
    let gone = c.in-Some in
    let v = c.args.vertex in
    c.requires.1 c.args.unit gone.ensures.0 v (tests gone.gone.now) gone.ensures.1
    ∙ sym (c.requires.2 v (tests c.in-Some-states_on.states.now) (sym c.in-Some-states_on.ensures))
