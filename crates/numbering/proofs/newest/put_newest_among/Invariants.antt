use Rattle.std.proofs.Common.{◌≡◌, ◌++◌, drop}
use Rattle.classes.specs.Classes.{class_view}
use Rattle.features.specs.Views.{dependency_view, dependency_views}
use Rattle.numbering.specs.inner.CausesAt.{each_from, newest_if}
use Rattle.numbering.specs.GivenViews.{cause_views}
use Rattle.numbering.specs.inner.KnownProblem.{problem}
use Rattle.vertices.specs.inner.RefViews.{owner_ref_view}
use Rattle.numbering.proofs.newest.put_newest_among.Given as goal

-- the causes so far, with those of the dependencies that are left, are all
abbrev pub invariant-dependencies : goal.invariant-dependencies
invariant-dependencies l =
    let f = newest_if (problem l.known) (owner_ref_view l.lead.owner) l.lead.number (class_view l.lead.class)
    (dependency_view l.dependency) in
    cause_views l.causes.items ++ each_from f l.number (dependency_views (drop l.number l.all))
    ≡ cause_views l.fn.causes.items ++ each_from f 0 (dependency_views l.all)
