use Rattle.std.proofs.Common.{◌≡◌, ◌++◌, take}
use Rattle.features.specs.EntryViews.{entry_views}
use Rattle.facts.specs.inner.FactNumbers.{numbers_view, numbers_views}
use Rattle.facts.specs.inner.RuleLists.{entries_rules}
use Rattle.facts.proofs.rules.entries_rules.Given as goal

abbrev pub invariant-entries : goal.invariant-entries
invariant-entries l = l.rules.items ≡ l.fn.rules.items ++ entries_rules (numbers_views l.packages)
    (numbers_view l.node) l.fact (entry_views (take l.entry-index l.entries))
