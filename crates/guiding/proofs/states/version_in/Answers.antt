use Rattle.classes.specs.Classes.{class_view}
use Rattle.numbering.specs.inner.KnownProblem.{problem}
use Rattle.guiding.proofs.InContent.{none_locked, one_locked}
use Rattle.guiding.proofs.states.version_in.Goals as goal

pub returns-in_err-locked : goal.returns-in_err-locked
returns-in_err-locked c =
    none_locked (problem c.args.known.now) c.args.content.now c.requires.valid c.args.name.now
    (class_view c.args.class) c.from_residual.result c.in_err-locked.ensures

pub returns : goal.returns
returns c =
    one_locked (problem c.args.known.now) c.args.content.now c.requires.valid c.args.name.now
    (class_view c.args.class) c.in_ok-locked.locked.now c.version_number.result
    c.in_ok-locked.ensures c.version_number.ensures
