use Rattle.std.proofs.Common.{◌∙◌, ap, map, sym, subst}
use Rattle.std.specs.List.Sorted.{IsStrictlySortedBy}
use Rattle.features.specs.Views.{dependency_view, requirement_view}
use Rattle.classes.specs.Classes.{class_view}
use Rattle.vertices.specs.Orders.{state_cmp}
use Rattle.model.specs.Vertices.{version}
use Rattle.semver.specs.EvalViews.{matches_views}
use Rattle.axioms.proofs.Rising.{those_rise}
use Rattle.axioms.proofs.Matched.{taken_is}
use Rattle.axioms.proofs.instances.matched.taken_set.Goals as goal

pub rising-requires : goal.rising-requires
rising-requires c =
    subst (IsStrictlySortedBy state_cmp) (sym c.in_ok-states.ensures)
    (those_rise (matches_views (requirement_view c.deref-requirement.result.now))
    c.within.result.now c.within.ensures.rising)

pub returns : goal.returns
returns c =
    let k = c.args.problem.now in
    c.rising.ensures
    ∙ (rw c.deref-requirement.ensures at (c.in_ok-states.ensures ∙ ap (map version) c.within.ensures.matched))
    ∙ taken_is k.manifest.now k.catalogue.now (dependency_view c.args.dependency.now)
    (class_view c.args.class) c.class_versions-versions.result.now c.class_versions-versions.ensures.versions
