use Rattle.std.proofs.Common.{◌≡◌, ◌-◌, ◌∙◌, ap, sym, subst, arith, filter, length, map}
use Rattle.semver.specs.EvalViews.{matches_views}
use Rattle.semver.specs.Identifiers.{parts_of}
use Rattle.model.specs.Selection.{class_of}
use Rattle.classes.specs.Classes.{class_view}
use Rattle.features.specs.Views.{requirement_view}
use Rattle.lookups.specs.inner.Matching.{tests_of_range}
use Rattle.lookups.proofs.Hops.{every}
use Rattle.lookups.proofs.Runs.{classes_come, is_from, is_up_to, matched_between, none_matched}
use Rattle.lookups.proofs.classes_in.class_range.Goals as goal

pub places_between-requires : goal.places_between-requires
places_between-requires c = classes_come c.args.versions.now c.args.classes.now c.requires.rising c.requires.classes

pub returns-then-first-end : goal.returns-then-first-end
returns-then-first-end c = (
  omega arith,
  (
    omega arith,
    none_matched (requirement_view c.args.requirement.now) c.args.versions.now c.in_ok-first.end
        (subst (λ n. map (λ v. matches_views (requirement_view c.args.requirement.now) (parts_of v)) c.args.versions.now
        ≡ tests_of_range n c.in_ok-first.end (length c.args.versions.now)) c.if-first-end.true
        c.in_ok-first.ensures.1.1),
  ),
)

pub returns : goal.returns
returns c =
    let cs = requirement_view c.args.requirement.now in
    let vs = c.args.versions.now in
    let told = c.in_ok-first.ensures in
    let order = told.0 in
    let apart = c.if-first-end.false in
    let v = c.index-versions-first.result in
    let w = c.index-versions-end.result in (
      c.places_between.ensures.begins,
      (
        c.places_between.ensures.ends,
        c.places_between.ensures.classes
            ∙ ap (filter (is_up_to (class_view c.of-highest.result)))
            (ap (filter (is_from (class_view c.of-lowest.result))) c.requires.classes)
            ∙ ap (λ k. filter (is_up_to k) (filter (is_from (class_view c.of-lowest.result)) (every vs)))
            c.of-highest.ensures
            ∙ ap (λ k. filter (is_up_to (class_of (parts_of w))) (filter (is_from k) (every vs))) c.of-lowest.ensures
            ∙ sym (matched_between cs vs c.in_ok-first.first (c.in_ok-first.end - 1) c.in_ok-first.end c.requires.rising
            (grind (arith, order, apart)) (grind (arith, order, apart)) told.1.0 told.1.1 v w
            c.index-versions-first.is c.index-versions-end.is),
      ),
    )
