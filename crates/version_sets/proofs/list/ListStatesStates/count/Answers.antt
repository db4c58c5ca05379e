use Rattle.std.proofs.Common.{◌≡◌, ◌∙◌, ap, rules, length, vec_len}
use Rattle.version_sets.specs.Sets.{size}
use Rattle.version_sets.proofs.Listing.{short_list, size_is}
use Rattle.version_sets.proofs.list.ListStatesStates.count.Goals as goal

pub overflow_cast-result : goal.overflow_cast-result
overflow_cast-result c = let short =
    short_list c.self.inside.universe c.self.inside.members.items c.self.invariant in search (rules, short)

pub returns : goal.returns
returns c =
    let counted : vec_len c.self.inside.members ≡ length c.self.inside.members.items = search rules in
    c.len.ensures ∙ counted
    ∙ size_is c.self.inside.universe c.self.inside.members.items c.self.invariant ∙ ap size c.self.view_is
