use Rattle.selection.specs.inner.Contents.{placed_views, places_in}
use Rattle.selection.proofs.RankLists.{RanksTo}
use Rattle.selection.proofs.listing.ranks_of.Given as goal

-- the ranks of those so far
abbrev pub invariant-kept : goal.invariant-kept
invariant-kept l = RanksTo (places_in (placed_views l.kept)) l.count l.rank l.ranks.items
