use Rattle.std.proofs.Common.{◌∙◌, ap, not}
use Rattle.std.specs.List.{list_any}
use Rattle.version_sets.specs.Sets.{has}
use Rattle.version_sets.proofs.Listing.{any_is}
use Rattle.version_sets.proofs.list.ListStatesStates.disjoint.Goals as goal

pub returns : goal.returns
returns c =
    ap not
    (c.has_any.ensures ∙ ap (list_any (has c.args.other.now)) c.deref.ensures.value
    ∙ any_is c.self.inside.universe c.self.inside.members.items c.self.invariant c.args.self.now c.args.other.now
    c.self.view_is c.requires)
