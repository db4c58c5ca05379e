-- What an entry whose names lie elsewhere stands for, and which entries a set of them has.
use Rattle.std.specs.Prelude.{◌≡◌, ◌||◌, ℕ, Bool, List}
use Rattle.std.specs.HashSet.{HashSet, contains_by}
use Rattle.std.specs.List.{list_any}
use Rattle.model.specs.Summary.{Entry, Table, feature, dependency, dependency_feature, weak_feature, entries_at}
use Rattle.model.specs.Causes.{entries_or_none, same_entry}
use Rattle.axioms.specs.declared.entries.Named.{Named}
use Rattle.axioms.specs.declared.entries.Named.TheVariants.{Feature, Dependency, Asking, Weak}

abbrev pub named_view : Named → Entry
named_view (Feature g) = feature g.now
named_view (Dependency d) = dependency d.now
named_view (Asking d g) = dependency_feature d.now g.now
named_view (Weak d g) = weak_feature d.now g.now

-- the entry is one of the feature that the row has
unfoldable pub row_has : Entry → Table → List ℕ × List Entry → Bool
row_has e table row = list_any (same_entry e) (entries_or_none (entries_at row.0 table))

module _ {S : Type 0} where
  abbrev pub has_named : HashSet Named S → Named → Bool
  has_named s x = contains_by (λ y. same_entry (named_view x) (named_view y)) s

  -- the entries are just those that pass the test
  abbrev pub HasEntries : (Entry → Bool) → HashSet Named S → Type 0
  HasEntries test s = (x : Named) → has_named s x ≡ test (named_view x)

  -- the entries that pass the test came to the old ones
  abbrev pub AddsEntries : HashSet Named S → HashSet Named S → (Entry → Bool) → Type 0
  AddsEntries old new test = (x : Named) → has_named new x ≡ (has_named old x || test (named_view x))
