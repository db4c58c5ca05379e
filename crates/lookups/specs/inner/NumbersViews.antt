-- What is looked up in, where numbers are kept.
use Rattle.model.specs.Content.{Problem}
use Rattle.lookups.specs.inner.Views.{problem_view}
use Rattle.lookups.specs.declared.numbers.Numbers.{Numbers}

abbrev pub problem_of : Numbers → Problem
problem_of n = problem_view n.problem
