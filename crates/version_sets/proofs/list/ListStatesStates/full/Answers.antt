use Rattle.std.proofs.Common.{◌∙◌, sym, true}
use Rattle.version_sets.proofs.Listing.{every_where, is_list, list_every, set_is}
use Rattle.version_sets.proofs.list.ListStatesStates.full.Goals as goal

pub invariant_of-result : goal.invariant_of-result
invariant_of-result c = is_list c.args.universe (λ _. true) c.in_ok-all_below.field-0.items c.requires
    (c.in_ok-all_below.ensures ∙ sym (list_every c.args.universe))

pub returns : goal.returns
returns c = set_is c.args.universe (λ _. true) c.in_ok-all_below.field-0.items
    (c.in_ok-all_below.ensures ∙ sym (list_every c.args.universe)) ∙ sym (every_where c.args.universe)
