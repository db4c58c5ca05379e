use Rattle.std.proofs.Common.{◌≡◌, ◌≤◌, ◌++◌, map, filter, length, slice_get}
use Rattle.catalogue.specs.Stores.{is_ranked, places_down, places_of}
use Rattle.catalogue.proofs.store.add_rank.Given as goal

-- the places added so far and those left to look at are all of them
abbrev pub invariant-places : goal.invariant-places
invariant-places l =
    record {
      within : l.place ≤ length l.candidates;
      told : l.order.items ++ filter (λ i. is_ranked l.rank (slice_get (map (λ c. c.rank) l.candidates) i))
          (places_down l.place) ≡ l.fn.order.items ++ places_of l.rank (map (λ c. c.rank) l.candidates);
    }

abbrev pub decreases-places : goal.decreases-places
decreases-places l = l.place
