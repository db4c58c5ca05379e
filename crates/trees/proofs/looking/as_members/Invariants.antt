use Rattle.std.proofs.Common.{◌≡◌, Some, length}
use Rattle.serde_json.specs.Data.{no_members}
use Rattle.serde_json.specs.Find.{as_object}
use Rattle.trees.specs.inner.Parts.{members_put}
use Rattle.trees.specs.Trees.{left, put_all, tree_view}
use Rattle.trees.proofs.looking.as_members.Given as goal

-- the members that are left, put to those so far, are all
abbrev pub invariant-members : goal.invariant-members
invariant-members l =
    Some (members_put (left l.entries) (put_all l.found.items no_members)) ≡ as_object (tree_view l.tree)

abbrev pub decreases-members : goal.decreases-members
decreases-members l = length (left l.entries)
