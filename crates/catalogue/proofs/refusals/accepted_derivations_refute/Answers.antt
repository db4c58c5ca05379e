use Rattle.catalogue.specs.Problems.{problem_in}
use Rattle.catalogue.proofs.refusals.accepted_derivations_refute.Goals as goal

pub returns : goal.returns
returns c = λ content steps accepted valid.
    c.accepted_derivations_refute.ensures (problem_in c.args.manifest.now c.args.catalogue.now) content steps
    c.catalogues_are_well_formed.ensures valid accepted
