use Rattle.std.proofs.Common.{take}
use Rattle.model.specs.Tables.{is_optional}
use Rattle.features.specs.inner.Texts.{HasThose, texts_in}
use Rattle.features.specs.inner.Tables.{dep_names_view}
use Rattle.features.proofs.draft.optional.Given as goal

-- the names of the optional dependencies so far
abbrev pub invariant-loop-dependency : goal.invariant-loop-dependency
invariant-loop-dependency l =
    HasThose (texts_in l.names) (is_optional (dep_names_view (take l.dependency-index l.dependencies)))
