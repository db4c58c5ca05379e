use Rattle.std.proofs.Common.{◌≡◌, ◌<◌, ◌≤◌, ◌∙◌, true, length, get_or, sym, ap, arith}
use Rattle.std.specs.List.{list_all}
use Rattle.semver.specs.EvalViews.{matches_views}
use Rattle.semver.specs.Identifiers.{parts_of}
use Rattle.semver.specs.declared.Version.{Version}
use Rattle.features.specs.Views.{requirement_view}
use Rattle.lookups.specs.inner.Matching.{is_release, is_whole}
use Rattle.lookups.proofs.Convex.{ends_are}
use Rattle.lookups.proofs.narrowing.unmatched_ends.Goals.{then-are_releases+then-is_whole, else-are_releases}
use Rattle.lookups.proofs.narrowing.unmatched_ends.Goals as goal

pub returns : goal.returns
returns c =
    let cs = requirement_view c.args.requirement.now in
    let vs = c.args.versions.now in
    let start : (c.if-are_releases.first ≤ length vs) × (c.if-are_releases.first < length vs
    → (list_all is_whole cs ≡ true) × ((list_all (λ v. is_release (parts_of v)) vs ≡ true)
    × ((d : Version) → matches_views cs (parts_of (get_or vs c.if-are_releases.first d)) ≡ true)))
    = elim c.if-are_releases.branch [
      | then-are_releases+then-is_whole w ↦ (
        omega (arith, w.before_first-first.ensures.few, w.first-is),
        λ l. (
          sym w.is_whole.ensures ∙ w.if-is_whole.true,
          (
            c.requires.releases w.if-are_releases.true,
            λ d.
                ap (λ i. matches_views cs (parts_of (get_or vs i d))) w.first-is
                ∙ w.before_first-first.ensures.first (omega (arith, w.first-is, l)) d,
          ),
        ),
      )
      | else-are_releases w ↦ (omega (arith, w.first-is), λ l. absurd (omega (arith, w.first-is, l)))
    ] in
    ends_are cs vs c.if-are_releases.first c.up_to_last.result c.requires.rising start.0 c.up_to_last.ensures.few
    start.1 c.up_to_last.ensures.last
