use Rattle.std.proofs.Common.{◌≡◌, length}
use Rattle.serde_json.specs.Data.{Members, no_members}
use Rattle.trees.specs.inner.Parts.{members_put}
use Rattle.trees.specs.Trees.{left}
use Rattle.index_lines.specs.inner.PartMembers.{values_in}
use Rattle.index_lines.specs.inner.ShapeViews.{values_view}
use Rattle.index_lines.proofs.parts.DependencyValues.put_all.Given as goal

-- the values are those in the members so far, and with the members that are left these are all
abbrev pub invariant-members : goal.invariant-members
invariant-members l = (so_far : Members)
    × (members_put (left l.members) so_far ≡ members_put (left l.fn.members) no_members)
    × (values_view l.self ≡ values_in so_far)

abbrev pub decreases-members : goal.decreases-members
decreases-members l = length (left l.members)
