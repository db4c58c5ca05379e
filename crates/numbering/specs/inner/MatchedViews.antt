-- What is matched in, where what requirements match is kept.
use Rattle.model.specs.Content.{Problem}
use Rattle.lookups.specs.inner.Views.{problem_view}
use Rattle.numbering.specs.declared.matched.Matched.{Matched}

abbrev pub problem_of : Matched → Problem
problem_of m = problem_view m.problem
