-- What a selection is held against (Cargo book, "Dependency Resolution"), for a manifest and a loaded index.
use Rattle.model.specs.Content.{Problem}
use Rattle.catalogue.specs.Problems.{problem_in}
use Rattle.lookups.specs.declared.problem.Problem as held

abbrev pub problem_view : held.Problem → Problem
problem_view p = problem_in p.manifest.now p.catalogue.now
