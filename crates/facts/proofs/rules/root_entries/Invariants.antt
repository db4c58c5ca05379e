use Rattle.std.proofs.Common.{◌≡◌, ◌++◌, take}
use Rattle.features.specs.EntryViews.{entry_views}
use Rattle.facts.specs.inner.FactNumbers.{numbers_view, numbers_views}
use Rattle.facts.specs.inner.RuleLists.{root_entries}
use Rattle.facts.proofs.rules.root_entries.Given as goal

abbrev pub invariant-entries : goal.invariant-entries
invariant-entries l = l.rules.items ≡ l.fn.rules.items
    ++ root_entries (numbers_views l.packages) (numbers_view l.node) (entry_views (take l.entry-index l.entries))
