use Rattle.std.proofs.Common.{◌∙◌, sym}
use Rattle.version_sets.proofs.Listing.{is_list, set_is}
use Rattle.version_sets.proofs.Ranges.{between_where, in_range, list_between}
use Rattle.version_sets.proofs.list.ListStatesStates.of_range.Goals as goal

pub invariant_of-result : goal.invariant_of-result
invariant_of-result c = is_list c.args.universe (in_range c.args.from c.args.to) c.in_ok-all_between.field-0.items
    c.requires.small (c.in_ok-all_between.ensures ∙ sym (list_between c.args.universe c.args.from c.args.to
    c.requires.rising c.requires.within))

pub returns : goal.returns
returns c = set_is c.args.universe (in_range c.args.from c.args.to) c.in_ok-all_between.field-0.items
    (c.in_ok-all_between.ensures ∙ sym (list_between c.args.universe c.args.from c.args.to
    c.requires.rising c.requires.within)) ∙ sym (between_where c.args.universe c.args.from c.args.to c.requires.rising
    c.requires.within)
