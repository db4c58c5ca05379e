use Rattle.std.proofs.Common.{◌≡◌, ◌++◌, drop}
use Rattle.features.specs.Views.{dependency_views}
use Rattle.numbering.specs.GivenViews.{cause_views}
use Rattle.numbering.specs.inner.CausesAt.{each_from, need_if}
use Rattle.vertices.specs.inner.RefViews.{owner_ref_view}
use Rattle.numbering.proofs.causes.put_needs.Given as goal

-- the causes so far, with those of the dependencies that are left, are all
abbrev pub invariant-dependencies : goal.invariant-dependencies
invariant-dependencies l = cause_views l.causes.items
    ++ each_from (need_if (owner_ref_view l.owner)) l.number (dependency_views (drop l.number l.dependencies))
    ≡ cause_views l.fn.causes.items ++ each_from (need_if (owner_ref_view l.owner)) 0 (dependency_views l.dependencies)
