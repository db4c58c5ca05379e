-- Why a package is in a lock, if there is one.
use Rattle.std.specs.Prelude.{◌≡◌, Bool, true, false, option_map}
use Rattle.std.specs.List.{list_any}
use Rattle.semver.specs.Identifiers.{parts_of}
use Rattle.model.specs.Content.{Content, Package}
use Rattle.changes.specs.inner.Ways.{HasNoWay, IsShortest, is_meant}
use Rattle.reports.specs.declared.wanted.Wanted.{Wanted}
use Rattle.reports.specs.declared.ways.WhyThere.{WhyThere}
use Rattle.reports.specs.declared.ways.WhyThere.TheVariants.{Way, Absent, Unreached}

-- whether a package is asked for
abbrev pub asks_for : Wanted → Package → Bool
asks_for wanted = is_meant wanted.name (option_map parts_of wanted.version)

-- some shortest way; that there is no such package, or no way to it, only where there is none
abbrev pub IsWhyThere : Content → (Package → Bool) → (Package → Bool) → WhyThere → Type 0
IsWhyThere content begins ends (Way way) = IsShortest content begins ends way.places.items
IsWhyThere content begins ends Absent = list_any ends content ≡ false
IsWhyThere content begins ends Unreached = (list_any ends content ≡ true) × HasNoWay content begins ends
