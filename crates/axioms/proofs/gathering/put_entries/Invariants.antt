use Rattle.std.proofs.Common.{◌≡◌, ◌||◌, ℕ, List, take}
use Rattle.std.specs.List.{list_any}
use Rattle.features.specs.EntryViews.{entry_views}
use Rattle.model.specs.Causes.{asks_for}
use Rattle.axioms.specs.inner.Pairs.{has_pair}
use Rattle.axioms.proofs.gathering.put_entries.Given as goal

-- what the entries so far ask for is there
abbrev pub invariant-entries : goal.invariant-entries
invariant-entries l = (d g : List ℕ) → has_pair l.asked d g
    ≡ (has_pair l.fn.asked d g || list_any (asks_for d g) (entry_views (take l.entry-index l.entries)))
