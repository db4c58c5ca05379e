use Rattle.std.proofs.Common.{◌≡◌, ◌++◌, map, take}
use Rattle.std.specs.List.{flat_map}
use Rattle.lockfile.specs.Spelling.{dependency_line}
use Rattle.lockfile.specs.inner.Written.{listed_views}
use Rattle.lockfile.proofs.writer.put_dependencies.Given as goal

-- the lines so far
abbrev pub invariant-listed : goal.invariant-listed
invariant-listed l = l.out.items
    ≡ l.fn.out.items ++ flat_map dependency_line (map (λ w. w.text) (listed_views (take l.other-index l.listed)))
