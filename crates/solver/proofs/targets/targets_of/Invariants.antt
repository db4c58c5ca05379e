use Rattle.features.specs.Views.{dependency_views}
use Rattle.solver.proofs.Put.{PutTo}
use Rattle.solver.proofs.targets.targets_of.Given as goal

-- where the candidates so far stand
abbrev pub invariant-dependencies : goal.invariant-dependencies
invariant-dependencies l =
    PutTo l.catalogue l.fn.versions.keys l.versions.keys
    (dependency_views l.dependencies) l.places l.number l.targets.items
