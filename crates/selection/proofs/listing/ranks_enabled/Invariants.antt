use Rattle.std.proofs.Common.{◌≡◌, ◌++◌, drop}
use Rattle.selection.specs.inner.Contents.{ranks_from}
use Rattle.selection.proofs.listing.ranks_enabled.Given as goal

-- those so far and those of the targets that are left are all
abbrev pub invariant-targets : goal.invariant-targets
invariant-targets l = l.list.items ++ ranks_from l.number (drop l.number l.targets) l.enabled l.ranks
    ≡ ranks_from 0 l.targets l.enabled l.ranks
