use Rattle.std.proofs.Common.{◌≡◌, ◌<◌, ◌≤◌, ◌-◌, ℕ, false, get_or, length}
use Rattle.semver.specs.EvalViews.{matches_views}
use Rattle.semver.specs.Identifiers.{parts_of}
use Rattle.semver.specs.declared.Version.{Version}
use Rattle.features.specs.Views.{requirement_view}
use Rattle.lookups.proofs.narrowing.before_first.Given as goal

-- none so far is matched
abbrev pub invariant-versions : goal.invariant-versions
invariant-versions l = (l.count ≤ length l.versions)
    × ((n : ℕ) (v : Version) → n < l.count
    → matches_views (requirement_view l.requirement) (parts_of (get_or l.versions n v)) ≡ false)

abbrev pub decreases-versions : goal.decreases-versions
decreases-versions l = length l.versions - l.count
