-- Entries that are equal stand for one, and what a set of entries has after one is put there.
use Rattle.std.proofs.Common.{◌≡◌, ℕ, List, Bool, true, false, ◌||◌, ◌&&◌, cond, unwrap_or, []}
use Rattle.std.proofs.Common.{refl, sym, ap, ap₂, ◌∙◌}
use Rattle.std.specs.HashSet.{HashSet, IsEmpty, Updates, contains}
use Rattle.std.specs.List.{list_any}
use Rattle.model.specs.Summary.{Entry, Summary, Table, entries_at}
use Rattle.model.specs.Summary.{feature, dependency, dependency_feature, weak_feature}
use Rattle.model.proofs.Flips.{text-flips}
use Rattle.model.specs.Causes.{entries_or_none, same_entry}
use Rattle.axioms.specs.inner.Entries.{AddsEntries, HasEntries, has_named, named_view, row_has}
use Rattle.axioms.specs.contracts.entries.NamedPartialEq.TheImpl as named_eq
use Rattle.axioms.specs.declared.entries.Named.{Named}
use Rattle.axioms.specs.declared.entries.Named.TheVariants as named
use Rattle.axioms.proofs.GatherLemmas.{any-same, none_are}

abbrev pub same_named : Named → Named → Bool
same_named = (named_eq.eq-value).it

pub named_same : (a b : Named) → same_named a b ≡ same_entry (named_view a) (named_view b)
named_same (named.Feature d) (named.Feature e) = refl
named_same (named.Feature d) (named.Dependency e) = refl
named_same (named.Feature d) (named.Asking e g) = refl
named_same (named.Feature d) (named.Weak e g) = refl
named_same (named.Dependency d) (named.Feature e) = refl
named_same (named.Dependency d) (named.Dependency e) = refl
named_same (named.Dependency d) (named.Asking e g) = refl
named_same (named.Dependency d) (named.Weak e g) = refl
named_same (named.Asking d f) (named.Feature e) = refl
named_same (named.Asking d f) (named.Dependency e) = refl
named_same (named.Asking d f) (named.Asking e g) = refl
named_same (named.Asking d f) (named.Weak e g) = refl
named_same (named.Weak d f) (named.Feature e) = refl
named_same (named.Weak d f) (named.Dependency e) = refl
named_same (named.Weak d f) (named.Asking e g) = refl
named_same (named.Weak d f) (named.Weak e g) = refl

entry_flips : (a b : Entry) → same_entry a b ≡ same_entry b a
entry_flips (feature d) (feature e) = text-flips d e
entry_flips (feature d) (dependency e) = refl
entry_flips (feature d) (dependency_feature e g) = refl
entry_flips (feature d) (weak_feature e g) = refl
entry_flips (dependency d) (feature e) = refl
entry_flips (dependency d) (dependency e) = text-flips d e
entry_flips (dependency d) (dependency_feature e g) = refl
entry_flips (dependency d) (weak_feature e g) = refl
entry_flips (dependency_feature d f) (feature e) = refl
entry_flips (dependency_feature d f) (dependency e) = refl
entry_flips (dependency_feature d f) (dependency_feature e g) = ap₂ (λ a b. a && b) (text-flips d e) (text-flips f g)
entry_flips (dependency_feature d f) (weak_feature e g) = refl
entry_flips (weak_feature d f) (feature e) = refl
entry_flips (weak_feature d f) (dependency e) = refl
entry_flips (weak_feature d f) (dependency_feature e g) = refl
entry_flips (weak_feature d f) (weak_feature e g) = ap₂ (λ a b. a && b) (text-flips d e) (text-flips f g)

module _ {S : Type 0} where
  pub has_is : (s : HashSet Named S) (x : Named) → contains same_named s x ≡ has_named s x
  has_is s x = any-same _ _ (named_same x) s.keys

  pub entry_put : (old new : HashSet Named S) (y : Named) (e : Entry) → named_view y ≡ e
      → Updates same_named old new y true → AddsEntries old new (λ f. same_entry f e)
  entry_put old new y e is u x =
      sym (has_is new x) ∙ u.0 x
      ∙ ap₂ (λ a b. cond a true b) (named_same y x ∙ entry_flips (named_view y) (named_view x)
      ∙ ap (same_entry (named_view x)) is) (has_is old x)
      ∙ by (same_entry (named_view x) e) (has_named old x)
    where
      by : (a b : Bool) → cond a true b ≡ (b || a)
      by true true = refl
      by true false = refl
      by false true = refl
      by false false = refl

  -- what came to none is all
  pub all_added : (old new : HashSet Named S) (test : Entry → Bool) → IsEmpty old → AddsEntries old new test
      → HasEntries test new
  all_added old new test none adds x =
      adds x ∙ ap (λ ks. list_any (λ y. same_entry (named_view x) (named_view y)) ks || test (named_view x)) none

-- ---- rows

pub row_has_is : (e : Entry) (table : Table) (row : List ℕ × List Entry)
    → list_any (same_entry e) (unwrap_or (entries_at row.0 table) []) ≡ row_has e table row
unfolding row_has
row_has_is e table row = ap (list_any (same_entry e)) (none_are (entries_at row.0 table))

pub rows_have : (e : Entry) (table : Table) → list_any (row_has e table) table
    ≡ list_any (λ row. list_any (same_entry e) (entries_or_none (entries_at row.0 table))) table
unfolding row_has
rows_have e table = refl

pub owner_has : (e : Entry) (a b : Summary) → a ≡ b → list_any (row_has e a.features) a.features
    ≡ list_any (λ row. list_any (same_entry e) (entries_or_none (entries_at row.0 b.features))) b.features
owner_has e a b is = rows_have e a.features
    ∙ ap (λ (o : Summary). list_any (λ row. list_any (same_entry e) (entries_or_none (entries_at row.0 o.features)))
    o.features) is
