use Rattle.std.proofs.Common.{◌≡◌, ◌∙◌, sym, ap, subst, map, filter}
use Rattle.semver.specs.Eval.{precedence_cmp}
use Rattle.std.specs.declared.cmp.Ordering.TheVariants.{Less}
use Rattle.std.proofs.lemmas.List.Kept.{AllPairs-filter}
use Rattle.semver.specs.Identifiers.{parts_of}
use Rattle.classes.specs.Classes.{class_view}
use Rattle.lookups.specs.inner.Ranges.{AreRising, is_of}
use Rattle.lookups.proofs.Pieces.{parts_filtered}
use Rattle.lookups.proofs.ranges.class_versions.Goals as goal

pub returns-clause-versions : goal.returns-clause-versions
returns-clause-versions c =
    let k = class_view c.args.class in
    ap (map parts_of) c.of_class.ensures ∙ parts_filtered (is_of k) c.versions.result.now
    ∙ ap (filter (is_of k)) c.versions.ensures.versions

pub returns-clause-rising : goal.returns-clause-rising
returns-clause-rising c =
    subst AreRising (sym c.of_class.ensures)
    (AllPairs-filter (λ v w. precedence_cmp v w ≡ Less)
    (λ v. is_of (class_view c.args.class) (parts_of v)) c.versions.result.now c.versions.ensures.rising)
