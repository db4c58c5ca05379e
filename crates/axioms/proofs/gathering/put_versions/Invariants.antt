use Rattle.std.proofs.Common.{◌≡◌, ◌||◌, ℕ, List, take}
use Rattle.std.specs.List.{list_any}
use Rattle.semver.specs.Identifiers.{parts_of}
use Rattle.axioms.specs.inner.Gathered.{brings_in, is_asked_by_version}
use Rattle.axioms.specs.inner.Pairs.{has_pair}
use Rattle.axioms.proofs.gathering.put_versions.Given as goal

-- what the versions so far ask for is there
abbrev pub invariant-versions : goal.invariant-versions
invariant-versions l = (n f : List ℕ) → has_pair l.known n f ≡ (has_pair l.fn.known n f || list_any (λ v.
    is_asked_by_version (brings_in l.catalogue l.name (parts_of v)) n f) (take l.version-index l.versions))
