use Rattle.std.proofs.Common.{◌∙◌, ap}
use Rattle.version_sets.specs.Sets.{has}
use Rattle.version_sets.proofs.Listing.{search_is}
use Rattle.version_sets.proofs.list.ListStatesStates.member.Goals as goal

pub returns : goal.returns
returns c =
    c.is_ok.ensures.value
    ∙ search_is c.self.inside.universe c.self.inside.members.items c.args.number c.binary_search.result c.self.invariant
    (rw c.deref.ensures.value at c.binary_search.ensures.position)
    ∙ ap (λ s. has s c.args.number) c.self.view_is
