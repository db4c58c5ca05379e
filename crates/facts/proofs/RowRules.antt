-- The rules of a table's features, row by row: the numbers of its features follow one another.
use Rattle.std.proofs.Common.{◌≡◌, ℕ, suc, ◌+◌, List, [], ◌∷◌, ◌++◌, Some, option_map, unwrap_or, slice_get, refl, sym}
use Rattle.std.proofs.Common.{ap, ap₂, ◌∙◌, arith}
use Rattle.std.specs.List.{flat_map}
use Rattle.std.proofs.lemmas.List.{append_assoc}
use Rattle.facts.specs.declared.rule.Rule.{Rule}
use Rattle.model.specs.Summary.{Entry, Table, entries_at}
use Rattle.model.specs.Tables.{IsInOrder}
use Rattle.features.proofs.PlaceLemmas.{place_of-row, entries_at-row}
use Rattle.facts.specs.inner.FactNumbers.{FactNumbersView, number_in}
use Rattle.facts.specs.inner.RuleLists.{number_on, entries_rules, feature_rules, features_rules}

module _ (ps : List FactNumbersView) (p : FactNumbersView) where
  -- each row has its number, from k on
  abbrev pub numbered_rules : ℕ → Table → List Rule
  numbered_rules k [] = []
  numbered_rules k (row ∷ rows) = entries_rules ps p k row.1 ++ numbered_rules (suc k) rows

  same_rows : (table : Table) (k : ℕ) (rows : Table)
      → ((i : ℕ) (row : List ℕ × List Entry) → slice_get rows i ≡ Some row
      → (number_on p row.0 ≡ k + i) × (entries_at row.0 table ≡ Some row.1))
      → numbered_rules k rows ≡ flat_map (λ row. feature_rules ps p table row.0) rows
  same_rows table k [] h = refl
  same_rows table k (row ∷ rows) h =
      let first = h 0 row refl in
      let at : k ≡ k + 0 = omega arith in
      ap₂ (λ a b. a ++ b)
      (ap₂ (λ n o. entries_rules ps p n (unwrap_or o [])) (at ∙ sym first.0) (sym first.1))
      (same_rows table (suc k) rows (λ i r got.
      let later = h (suc i) r got in
      let next : k + suc i ≡ suc k + i = omega arith in (later.0 ∙ next, later.1)))

  -- so have the features of a table, each with the entries of its row
  pub by_numbers : (table : Table) (k : ℕ) → IsInOrder table → ((f : List ℕ) → p.numbers f ≡ number_in k f table)
      → numbered_rules k table ≡ features_rules ps p table
  by_numbers table k order numbers = same_rows table k table (λ i row got. (
    ap (λ o. unwrap_or o p.lacks) (numbers row.0 ∙ ap (option_map (λ j. k + j)) (place_of-row table i row order got)),
    entries_at-row table i row order got,
  ))

  -- one row more
  pub numbered_more : (old new whole : List Rule) (k n : ℕ) (row : List ℕ × List Entry) (rows : Table)
      → old ++ numbered_rules k (row ∷ rows) ≡ whole → new ≡ old ++ entries_rules ps p k row.1 → n ≡ suc k
      → new ++ numbered_rules n rows ≡ whole
  numbered_more old new whole k n row rows told step next =
      ap₂ (λ m k. m ++ numbered_rules k rows) step next
      ∙ append_assoc old (entries_rules ps p k row.1) (numbered_rules (suc k) rows) ∙ told
