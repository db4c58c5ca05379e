use Rattle.catalogue.specs.Problems.{problem_in}
use Rattle.catalogue.proofs.refusals.unbroken_assignments_have_selections.Goals as goal

pub returns : goal.returns
returns c = λ state unbroken.
    c.unbroken_assignments_have_selections.ensures
    (problem_in c.args.manifest.now c.args.catalogue.now) state c.catalogues_are_well_formed.ensures unbroken
