use Rattle.std.proofs.Common.{◌≡◌, ◌∙◌, ◌∷◌, ap, sym, subst}
use Rattle.std.specs.List.Sorted.{IsStrictlySortedBy}
use Rattle.classes.specs.Classes.{class_view}
use Rattle.vertices.specs.Orders.{state_cmp}
use Rattle.model.specs.Vertices.{absent}
use Rattle.semver.specs.Eval.{precedence_cmp}
use Rattle.semver.specs.Identifiers.{parts_of}
use Rattle.std.specs.declared.cmp.Ordering.TheVariants.{Less}
use Rattle.std.proofs.lemmas.List.Kept.{AllPairs-filter}
use Rattle.lookups.specs.inner.Matching.{is_lacking}
use Rattle.lookups.specs.inner.Ranges.{AreRising, is_of}
use Rattle.lookups.specs.inner.Views.{problem_view}
use Rattle.axioms.proofs.HasFeature.{lacking_is}
use Rattle.axioms.proofs.Rising.{absent_first}
use Rattle.axioms.proofs.instances.lacking.lacking_set.Goals as goal

pub rising-requires : goal.rising-requires
rising-requires c =
    let those = subst AreRising (sym c.of_class-versions.ensures)
    (AllPairs-filter (λ v w. precedence_cmp v w ≡ Less) (λ v. is_of (class_view c.args.class) (parts_of v))
    c.versions.result.now c.versions.ensures.rising) in
    subst (IsStrictlySortedBy state_cmp) (sym c.in_ok-states.ensures) (absent_first
    (is_lacking (problem_view c.args.problem.now) c.args.name.now c.args.feature.now)
    c.of_class-versions.result.now those)

pub returns : goal.returns
returns c =
    let k = c.args.problem.now in
    c.rising.ensures ∙ c.in_ok-states.ensures ∙ ap (λ ss. absent ∷ ss)
    (lacking_is k.manifest.now k.catalogue.now c.args.name.now (class_view c.args.class) c.args.feature.now
    c.versions.result.now c.of_class-versions.result.now
    c.versions.ensures.versions c.versions.ensures.rising c.of_class-versions.ensures)
