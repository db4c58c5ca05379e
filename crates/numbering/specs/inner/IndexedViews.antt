-- The problem whose owners are looked at.
use Rattle.model.specs.Content.{Problem}
use Rattle.lookups.specs.inner.Views.{problem_view}
use Rattle.numbering.specs.declared.indexed.Indexed.{Indexed}

abbrev pub problem_indexed : Indexed → Problem
problem_indexed i = problem_view i.problem
