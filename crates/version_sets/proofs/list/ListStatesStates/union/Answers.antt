use Rattle.std.proofs.Common.{◌∙◌, ap, ◌||◌}
use Rattle.version_sets.specs.Sets.{has}
use Rattle.version_sets.specs.inner.Listed.{set_where}
use Rattle.version_sets.proofs.Listing.{is_list, join_is, set_is}
use Rattle.version_sets.proofs.list.ListStatesStates.union.Goals as goal

pub invariant_of-result : goal.invariant_of-result
invariant_of-result c =
    is_list c.universe.result (λ i. has c.args.self.now i || has c.args.other.now i) c.in_ok-members.members.items
    (rw c.universe.ensures.universe c.universe.ensures.small) (rw c.universe.ensures.universe c.in_ok-members.ensures)

pub returns : goal.returns
returns c =
    set_is c.universe.result (λ i. has c.args.self.now i || has c.args.other.now i) c.in_ok-members.members.items
    (rw c.universe.ensures.universe c.in_ok-members.ensures)
    ∙ ap (λ n. set_where n (λ i. has c.args.self.now i || has c.args.other.now i)) c.universe.ensures.universe
    ∙ join_is c.args.self.now c.args.other.now c.requires
