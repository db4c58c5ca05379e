-- What a selection is held against, for the manifest and the loaded index that vertices are looked up in.
use Rattle.std.specs.Prelude.{◌≡◌, codes}
use Rattle.model.specs.Content.{Problem}
use Rattle.lookups.specs.inner.Views.{problem_view}
use Rattle.numbering.specs.declared.known_problem.KnownProblem.{KnownProblem}

abbrev pub problem : KnownProblem → Problem
problem i = problem_view i.problem

-- the name that is given for the feature `default` is that name
abbrev pub KnowsDefault : KnownProblem → Type 0
KnowsDefault i = i.default.now ≡ codes "default"
