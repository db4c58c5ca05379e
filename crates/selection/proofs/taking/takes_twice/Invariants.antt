use Rattle.std.proofs.Common.{ℕ, ◌≤◌, Contains, map}
use Rattle.selection.specs.inner.Contents.{owners_of}
use Rattle.selection.specs.inner.Taking.{IsTakenAt, Taken, taken_view}
use Rattle.selection.proofs.taking.takes_twice.Given as goal

-- each that was taken is of a version that was looked at, and is here
abbrev pub invariant-versions : goal.invariant-versions
invariant-versions l = (k : Taken) → Contains (map taken_view l.taken.keys) k
    → (n : ℕ) × (n ≤ l.at) × IsTakenAt (owners_of l.catalogue l.versions) l.here k n
