-- Why no candidate fits a dependency (Cargo book, "Specifying Dependencies" and "Registry Index").
use Rattle.std.specs.Prelude.{List, [], length, ◌==◌, Bool, not, ◌&&◌, if◌then◌else◌, Option, Some, None}
use Rattle.std.specs.List.{list_any}
use Rattle.semver.specs.EvalViews.{matches_views}
use Rattle.semver.specs.Parse.{Held, Parts}
use Rattle.model.specs.Candidates.{Record}
use Rattle.index_lines.specs.Records.{RecordView}
use Rattle.flaws.specs.declared.lack.Lack.{Lack}
use Rattle.flaws.specs.declared.lack.Lack.TheVariants.{NoPackage, NoLine, Yanked, PreReleases, NoVersion}

-- some candidate is matched
abbrev pub is_met : List Held → List Record → Bool
is_met r candidates = list_any (λ c. matches_views r c.version) candidates

-- a version without its pre-release
abbrev pub release : Parts → Parts
release (major, minor, patch, pre, build) = (major, minor, patch, [], [])

-- a pre-release that would be matched, were it the release
abbrev pub is_held_back : List Held → Parts → Bool
is_held_back r v = not (length v.3 == 0) && matches_views r (release v)

-- some line is yanked and matched
abbrev pub matches_yanked : List Held → List RecordView → Bool
matches_yanked r lines = list_any (λ l. l.yanked && matches_views r l.version) lines

abbrev pub would_match : List Held → List RecordView → Bool
would_match r lines = list_any (λ l. is_held_back r l.version) lines

abbrev pub has_none : List RecordView → Bool
has_none lines = length lines == 0

abbrev pub lack_among : List Held → List RecordView → Lack
lack_among r lines =
    if has_none lines then NoLine
    else if matches_yanked r lines then Yanked
    else if would_match r lines then PreReleases
    else NoVersion

-- why a requirement that no candidate meets has none, by the lines of the package's file that can be used, if there is
-- a file
abbrev pub lack_in : List Held → Option (List RecordView) → Lack
lack_in r None = NoPackage
lack_in r (Some lines) = lack_among r lines
