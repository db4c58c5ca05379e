use Rattle.std.proofs.Common.{◌≡◌, ◌∙◌, ap, ◌&&◌}
use Rattle.std.specs.List.{filter}
use Rattle.version_sets.specs.Sets.{has}
use Rattle.version_sets.specs.inner.Listed.{list_where, set_where}
use Rattle.version_sets.proofs.Listing.{filter_is, is_list, meet_is, set_is}
use Rattle.version_sets.proofs.list.ListStatesStates.intersect.Goals as goal

common : (c : goal.After-universe) → c.in_ok-members.members.items
    ≡ list_where c.universe.result (λ i. has c.args.self.now i && has c.args.other.now i)
common c =
    rw c.universe.ensures.universe
    (c.in_ok-members.ensures ∙ ap (filter (has c.args.other.now)) c.deref.ensures.value
    ∙ filter_is c.self.inside.universe c.self.inside.members.items c.self.invariant c.args.self.now c.args.other.now
    c.self.view_is c.requires)

pub invariant_of-result : goal.invariant_of-result
invariant_of-result c =
    is_list c.universe.result (λ i. has c.args.self.now i && has c.args.other.now i) c.in_ok-members.members.items
    (rw c.universe.ensures.universe c.universe.ensures.small) (common c)

pub returns : goal.returns
returns c =
    set_is c.universe.result
    (λ i. has c.args.self.now i && has c.args.other.now i) c.in_ok-members.members.items (common c)
    ∙ ap (λ n. set_where n (λ i. has c.args.self.now i && has c.args.other.now i)) c.universe.ensures.universe
    ∙ meet_is c.args.self.now c.args.other.now c.requires
