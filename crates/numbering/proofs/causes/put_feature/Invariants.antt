use Rattle.std.proofs.Common.{◌≡◌, ◌++◌, drop}
use Rattle.std.specs.List.{flat_map}
use Rattle.semver.specs.Identifiers.{parts_of}
use Rattle.features.specs.EntryViews.{entry_views}
use Rattle.numbering.specs.GivenViews.{cause_views}
use Rattle.numbering.specs.inner.CausesAt.{entry_causes}
use Rattle.numbering.specs.inner.KnownProblem.{problem}
use Rattle.numbering.proofs.causes.put_feature.Given as goal

-- the causes so far, with those of the entries that are left, are all
abbrev pub invariant-entries : goal.invariant-entries
invariant-entries l =
    cause_views l.causes.items ++ flat_map (entry_causes (problem l.known) l.own.name.now
    (parts_of l.own.version.now) l.own.feature.now) (entry_views (drop l.entry-index l.entries))
    ≡ cause_views l.fn.causes.items ++ flat_map (entry_causes (problem l.known) l.own.name.now
    (parts_of l.own.version.now) l.own.feature.now) (entry_views l.entries)
