use Rattle.std.proofs.Common.{◌≡◌, ◌++◌, take}
use Rattle.std.specs.List.{flat_map}
use Rattle.lockfile.specs.inner.Written.{entry_views, written_block, written_list}
use Rattle.lockfile.proofs.writer.put_packages.Given as goal

-- the packages so far
abbrev pub invariant-entries : goal.invariant-entries
invariant-entries l = l.out.items ≡ l.fn.out.items ++ flat_map (λ w.
    written_block w (written_list (entry_views l.entries) w)) (entry_views (take l.entry-index l.entries))
