use Rattle.catalogue.specs.Problems.{problem_in}
use Rattle.catalogue.proofs.refusals.unbroken_assignments_select.Goals as goal

pub returns : goal.returns
returns c = λ state kept unbroken gathered.
    c.gathered_contents_select.ensures (problem_in c.args.manifest.now c.args.catalogue.now) state kept
    c.catalogues_are_well_formed.ensures unbroken gathered
