use Rattle.std.proofs.Common.{◌≡◌, ◌++◌, drop}
use Rattle.std.specs.List.{flat_map}
use Rattle.semver.specs.Identifiers.{parts_of}
use Rattle.features.specs.EntryViews.{entry_view}
use Rattle.numbering.specs.inner.Called.{numbered_views}
use Rattle.numbering.specs.GivenViews.{cause_views}
use Rattle.numbering.specs.inner.CausesAt.{entry_if}
use Rattle.numbering.specs.inner.KnownProblem.{problem}
use Rattle.numbering.proofs.causes.put_those.Given as goal

-- the causes so far, with those of the dependencies that are left, are all
abbrev pub invariant-those : goal.invariant-those
invariant-those l =
    cause_views l.causes.items ++ flat_map (λ p. entry_if (problem l.known) l.own.name.now (parts_of l.own.version.now)
    l.own.feature.now (entry_view l.entry) p.0 p.1) (numbered_views (drop l.one-index l.those))
    ≡ cause_views l.fn.causes.items ++ flat_map (λ p. entry_if (problem l.known) l.own.name.now
    (parts_of l.own.version.now) l.own.feature.now (entry_view l.entry) p.0 p.1) (numbered_views l.those)
