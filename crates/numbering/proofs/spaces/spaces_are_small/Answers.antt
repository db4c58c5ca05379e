use Rattle.numbering.specs.inner.KnownProblem.{problem}
use Rattle.numbering.proofs.Putting.{spaces_few}
use Rattle.numbering.proofs.Stated.{some_states}
use Rattle.numbering.proofs.spaces.spaces_are_small.Goals as goal

pub returns : goal.returns
returns c =
    let i = c.args.known.now in
    λ v. (some_states (problem i) v, spaces_few i.problem.manifest.now i.problem.catalogue.now c.names.ensures.store v)
