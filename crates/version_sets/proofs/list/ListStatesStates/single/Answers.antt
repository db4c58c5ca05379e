use Rattle.std.proofs.Common.{◌∙◌, sym, eqb}
use Rattle.version_sets.proofs.Listing.{is_list, list_only, only_where, set_is}
use Rattle.version_sets.proofs.list.ListStatesStates.single.Goals as goal

pub invariant_of-result : goal.invariant_of-result
invariant_of-result c = is_list c.args.universe (λ i. eqb c.args.member i) c.in_ok-vec.field-0.items c.requires.small
    (c.in_ok-vec.ensures.items ∙ list_only c.args.universe c.args.member c.requires.below)

pub returns : goal.returns
returns c = set_is c.args.universe (λ i. eqb c.args.member i) c.in_ok-vec.field-0.items (c.in_ok-vec.ensures.items
    ∙ list_only c.args.universe c.args.member c.requires.below) ∙ sym (only_where c.args.universe c.args.member)
