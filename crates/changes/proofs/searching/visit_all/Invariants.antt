use Rattle.std.proofs.Common.{◌≡◌, drop, length}
use Rattle.changes.specs.inner.Searches.{seen_with, visited}
use Rattle.changes.proofs.searching.visit_all.Given as goal

-- the visits of the places that are left, after those so far, are all
abbrev pub invariant-places : goal.invariant-places
invariant-places l = record {
  length : length l.seen ≡ length l.fn.seen;
  seen : seen_with l.seen (drop l.place-index l.list) ≡ seen_with l.fn.seen l.list;
  visits : visited l.before l.depth l.seen l.visits.items (drop l.place-index l.list)
      ≡ visited l.before l.depth l.fn.seen l.fn.visits.items l.list;
}
