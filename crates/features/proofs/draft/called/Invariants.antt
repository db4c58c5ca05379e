use Rattle.std.proofs.Common.{take}
use Rattle.model.specs.Tables.{has_dependency}
use Rattle.features.specs.inner.Texts.{HasThose, texts_in}
use Rattle.features.specs.inner.Tables.{dep_names_view}
use Rattle.features.proofs.draft.called.Given as goal

-- the names of the dependencies so far
abbrev pub invariant-loop-dependency : goal.invariant-loop-dependency
invariant-loop-dependency l =
    HasThose (texts_in l.names) (has_dependency (dep_names_view (take l.dependency-index l.dependencies)))
