use Rattle.std.proofs.Common.{◌∙◌, ap}
use Rattle.std.specs.List.{list_all}
use Rattle.version_sets.specs.Sets.{has}
use Rattle.version_sets.proofs.Listing.{all_is}
use Rattle.version_sets.proofs.list.ListStatesStates.subset.Goals as goal

pub returns : goal.returns
returns c =
    c.has_all.ensures ∙ ap (list_all (has c.args.other.now)) c.deref.ensures.value
    ∙ all_is c.self.inside.universe c.self.inside.members.items c.self.invariant c.args.self.now c.args.other.now
    c.self.view_is c.requires
