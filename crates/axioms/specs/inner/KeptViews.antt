-- What is looked up in, where what was found is kept.
use Rattle.model.specs.Content.{Problem}
use Rattle.lookups.specs.inner.Views.{problem_view}
use Rattle.axioms.specs.declared.instances.kept.Kept.{Kept}

abbrev pub problem_of : Kept → Problem
problem_of k = problem_view k.problem
