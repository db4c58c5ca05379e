use Rattle.std.proofs.Common.{◌≡◌, ◌∙◌, ◌++◌, ◌∷◌, filter, map, sym, ap, subst}
use Rattle.std.specs.declared.cmp.Ordering.TheVariants.{Less}
use Rattle.std.proofs.lemmas.List.Kept.{AllPairs-filter}
use Rattle.semver.specs.Eval.{precedence_cmp}
use Rattle.semver.specs.Identifiers.{parts_of}
use Rattle.classes.specs.Classes.{class_view}
use Rattle.lookups.specs.inner.Ranges.{AreRising, is_above}
use Rattle.lookups.proofs.Hops.{every, fewer, first_and_above, later_rise, later_than_first, onto}
use Rattle.lookups.proofs.classes_in.add_first.Goals as goal

pub above-requires : goal.above-requires
above-requires c = later_rise c.args.versions.now c.requires.rising

pub returns-clause-rising : goal.returns-clause-rising
returns-clause-rising c =
    subst AreRising (sym c.above.ensures) (AllPairs-filter (λ v w. precedence_cmp v w ≡ Less)
    (λ v. is_above (class_view c.of-class.result) (parts_of v)) (later_than_first c.args.versions.now)
    (later_rise c.args.versions.now c.requires.rising))

pub returns-clause-fewer : goal.returns-clause-fewer
returns-clause-fewer c = rw c.above.ensures (fewer (λ v. is_above (class_view c.of-class.result) (parts_of v))
    c.args.versions.now c.requires.some)

pub returns-clause-classes : goal.returns-clause-classes
returns-clause-classes c =
    let so_far = map class_view c.args.classes.now.items in
    let ls = later_than_first c.args.versions.now in
    ap (λ vs. map class_view c.push.new.self.items ++ every vs) c.above.ensures
    ∙ ap (λ ks. map class_view ks ++ every
    (filter (λ v. is_above (class_view c.of-class.result) (parts_of v)) ls)) c.in_ok-push.ensures.items
    ∙ onto class_view c.args.classes.now.items c.of-class.result
    (every (filter (λ v. is_above (class_view c.of-class.result) (parts_of v)) ls))
    ∙ ap (λ k. so_far ++ k ∷ every (filter (λ v. is_above k (parts_of v)) ls)) c.of-class.ensures
    ∙ ap (λ ks. so_far ++ ks)
    (first_and_above c.args.versions.now c.requires.some c.index-versions-0.result c.index-versions-0.is
    c.requires.rising)
