use Rattle.std.proofs.Common.{◌≡◌, length}
use Rattle.serde_json.specs.Data.{Members, no_members}
use Rattle.trees.specs.inner.Parts.{members_put}
use Rattle.trees.specs.Trees.{left}
use Rattle.index_lines.specs.inner.PartMembers.{line_values_in}
use Rattle.index_lines.specs.inner.ShapeViews.{line_values_view}
use Rattle.index_lines.proofs.parts.LineValues.put_all.Given as goal

-- the values are those in the members so far, and with the members that are left these are all
abbrev pub invariant-members : goal.invariant-members
invariant-members l = (so_far : Members)
    × (members_put (left l.members) so_far ≡ members_put (left l.fn.members) no_members)
    × (line_values_view l.self ≡ line_values_in so_far)

abbrev pub decreases-members : goal.decreases-members
decreases-members l = length (left l.members)
