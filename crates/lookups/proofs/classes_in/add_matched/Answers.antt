use Rattle.std.proofs.Common.{◌≡◌, ◌∙◌, ◌++◌, ◌∷◌, filter, map, sym, ap, subst}
use Rattle.std.specs.declared.cmp.Ordering.TheVariants.{Less}
use Rattle.std.proofs.lemmas.List.Kept.{AllPairs-filter}
use Rattle.semver.specs.Eval.{precedence_cmp}
use Rattle.semver.specs.EvalViews.{matches_views}
use Rattle.semver.specs.Identifiers.{parts_of}
use Rattle.classes.specs.Classes.{class_view}
use Rattle.features.specs.Views.{requirement_view}
use Rattle.lookups.specs.inner.Ranges.{AreRising, is_above}
use Rattle.lookups.proofs.Hops.{fewer, found, later_rise, later_than_first, onto, passed, taken}
use Rattle.lookups.proofs.classes_in.add_matched.Goals as goal

pub returns-then-not-is_matched-clause-classes : goal.returns-then-not-is_matched-clause-classes
returns-then-not-is_matched-clause-classes c =
    ap (λ ks. map class_view c.args.classes.now.items ++ ks)
    (passed (matches_views (requirement_view c.args.requirement.now)) c.args.versions.now c.requires.some
    c.index-versions-0.result
    c.index-versions-0.is (sym c.is_matched.ensures ∙ c.if-not-is_matched.true))

pub returns-then-not-is_matched-clause-rising : goal.returns-then-not-is_matched-clause-rising
returns-then-not-is_matched-clause-rising c = later_rise c.args.versions.now c.requires.rising

pub above-requires : goal.above-requires
above-requires c = later_rise c.args.versions.now c.requires.rising

pub returns-clause-rising : goal.returns-clause-rising
returns-clause-rising c =
    subst AreRising (sym c.above.ensures) (AllPairs-filter (λ v w. precedence_cmp v w ≡ Less)
    (λ v. is_above (class_view c.of-class.result) (parts_of v)) (later_than_first c.args.versions.now)
    (later_rise c.args.versions.now c.requires.rising))

pub returns-clause-fewer : goal.returns-clause-fewer
returns-clause-fewer c = rw c.above.ensures (fewer (λ v. is_above (class_view c.of-class.result) (parts_of v))
    c.args.versions.now c.requires.some)

pub returns-clause-classes : goal.returns-clause-classes
returns-clause-classes c =
    let t = matches_views (requirement_view c.args.requirement.now) in
    let so_far = map class_view c.args.classes.now.items in
    let ls = later_than_first c.args.versions.now in
    ap (λ vs. map class_view c.push.new.self.items ++ found t vs) c.above.ensures
    ∙ ap (λ ks. map class_view ks ++ found t
    (filter (λ v. is_above (class_view c.of-class.result) (parts_of v)) ls)) c.in_ok-push.ensures.items
    ∙ onto class_view c.args.classes.now.items c.of-class.result
    (found t (filter (λ v. is_above (class_view c.of-class.result) (parts_of v)) ls))
    ∙ ap (λ k. so_far ++ k ∷ found t (filter (λ v. is_above k (parts_of v)) ls)) c.of-class.ensures
    ∙ ap (λ ks. so_far ++ ks)
    (taken t c.args.versions.now c.requires.some c.index-versions-0.result c.index-versions-0.is c.requires.rising
    (sym c.is_matched.ensures ∙ c.if-not-is_matched.false))
