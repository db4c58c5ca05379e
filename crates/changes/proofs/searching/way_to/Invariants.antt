use Rattle.std.proofs.Common.{◌≡◌, ◌+◌, Bool, true, length, reverse}
use Rattle.model.specs.Content.{Content, Package}
use Rattle.changes.specs.inner.Searches.{AreLed, IsBehind, IsLed, is_end}
use Rattle.changes.specs.inner.Ways.{leads}
use Rattle.changes.proofs.searching.way_to.Given as goal

-- from the visit that was come back to, the places so far lead on to the end
abbrev pub invariant-visits : goal.invariant-visits
invariant-visits l = record {
  behind : IsBehind l.visits l.visit.before l.visit.depth;
  count : length l.places.items + l.visit.depth ≡ l.fn.end.depth;
  way : (content : Content) (begins ends : Package → Bool) → AreLed content begins l.visits
      → IsLed content begins l.visits l.fn.end.place l.fn.end.before l.fn.end.depth
      → is_end content ends l.fn.end ≡ true
      → IsLed content begins l.visits l.visit.place l.visit.before l.visit.depth
      × (leads content ends l.visit.place (reverse l.places.items) ≡ true);
}

abbrev pub decreases-visits : goal.decreases-visits
decreases-visits l = l.visit.depth
