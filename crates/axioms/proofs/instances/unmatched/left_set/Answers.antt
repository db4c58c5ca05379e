use Rattle.std.proofs.Common.{◌∙◌, ◌∷◌, ap, sym, subst}
use Rattle.std.specs.List.Sorted.{IsStrictlySortedBy}
use Rattle.features.specs.Views.{dependency_view, requirement_view}
use Rattle.classes.specs.Classes.{class_view}
use Rattle.vertices.specs.Orders.{state_cmp}
use Rattle.model.specs.Vertices.{absent}
use Rattle.lookups.specs.inner.Matching.{is_left, is_release}
use Rattle.lookups.proofs.Classed.{all_classed}
use Rattle.axioms.proofs.Rising.{absent_first}
use Rattle.axioms.proofs.Matched.{left_is}
use Rattle.axioms.proofs.instances.unmatched.left_set.Goals as goal

pub rising-requires : goal.rising-requires
rising-requires c =
    subst (IsStrictlySortedBy state_cmp) (sym c.in_ok-states.ensures)
    (absent_first (is_left (requirement_view c.deref.result.now))
    c.class_versions-versions.result.now c.class_versions-versions.ensures.rising)

pub left_states-requires-clause-releases : goal.left_states-requires-clause-releases
left_states-requires-clause-releases c are =
    let k = c.args.kept.now.problem in
    all_classed k.manifest.now k.catalogue.now (dependency_view c.args.dependency.now).real_name
    (class_view c.args.class) c.class_versions-versions.result.now c.class_versions-versions.ensures.versions is_release
    ∙ c.in_ok-are_releases.ensures.releases are

pub returns-clause-states : goal.returns-clause-states
returns-clause-states c =
    let k = c.args.kept.now.problem in
    c.rising.ensures ∙ (rw c.deref.ensures at c.in_ok-states.ensures) ∙ ap (λ ss. absent ∷ ss)
    (left_is k.manifest.now k.catalogue.now (dependency_view c.args.dependency.now)
    (class_view c.args.class) c.class_versions-versions.result.now c.class_versions-versions.ensures.versions)
