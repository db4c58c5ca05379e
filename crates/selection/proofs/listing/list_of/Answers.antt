use Rattle.std.proofs.Common.{Contains, sym, subst}
use Rattle.selection.proofs.RankLists.{rising_list, same_in_list, listed_is}
use Rattle.selection.proofs.listing.list_of.Goals as goal

pub returns-clause-rising : goal.returns-clause-rising
returns-clause-rising c =
    rising_list c.in_ok-list.list.items _ _ c.sort_unstable.ensures.sorted c.dedup.ensures.filtered

pub returns-clause-members : goal.returns-clause-members
returns-clause-members c r =
    let same =
    same_in_list c.in_ok-list.list.items _ _ r c.sort_unstable.ensures.permutation c.dedup.ensures.filtered in
    let is = listed_is c.args.targets.now c.args.enabled.now c.args.ranks.now r in (
      (λ x. is.0 (subst (λ l. Contains l r) c.in_ok-list.ensures (same.0 x))),
      (λ x. same.1 (subst (λ l. Contains l r) (sym c.in_ok-list.ensures) (is.1 x))),
    )
