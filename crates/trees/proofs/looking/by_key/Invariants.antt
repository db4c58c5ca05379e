use Rattle.std.proofs.Common.{◌≡◌, drop}
use Rattle.trees.specs.Trees.{put_all, entries_view, sorted_view}
use Rattle.trees.proofs.looking.by_key.Given as goal

-- those that are left, put to those that are sorted, are all
abbrev pub invariant-members : goal.invariant-members
invariant-members l = put_all (drop l.member-index l.member-items) (sorted_view l.sorted.entries)
    ≡ entries_view l.member-items
