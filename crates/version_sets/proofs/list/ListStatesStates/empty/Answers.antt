use Rattle.std.proofs.Common.{◌∙◌, sym, false}
use Rattle.version_sets.proofs.Listing.{is_list, list_none, none_where, set_is}
use Rattle.version_sets.proofs.list.ListStatesStates.empty.Goals as goal

pub invariant_of-result : goal.invariant_of-result
invariant_of-result c = is_list c.args.universe
    (λ _. false) c.new.result.items c.requires (c.new.ensures.items ∙ sym (list_none c.args.universe))

pub returns : goal.returns
returns c = set_is c.args.universe (λ _. false) c.new.result.items
    (c.new.ensures.items ∙ sym (list_none c.args.universe)) ∙ sym (none_where c.args.universe)
