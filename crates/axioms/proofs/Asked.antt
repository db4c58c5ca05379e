-- What the root and versions ask for by their entries.
use Rattle.std.proofs.Common.{◌≡◌, ◌||◌, List, [], ◌∷◌, refl, sym, ap, ap₂, ◌∙◌}
use Rattle.std.specs.Prelude.{ℕ}
use Rattle.std.specs.List.{list_any, flat_map}
use Rattle.std.proofs.lemmas.List.Folds.{list_any-append}
use Rattle.model.specs.Summary.{Summary, Entry, feature, dependency, dependency_feature, weak_feature, Table}
use Rattle.model.specs.Summary.{entries_at}
use Rattle.manifest.specs.Manifests.{asked_by, root_asks}
use Rattle.model.specs.Causes.{asks_for, entries_or_none, same_pair}
use Rattle.axioms.specs.inner.Asking.{row_may_ask, row_names}

entries_ask : (d g : List ℕ) (es : List Entry)
    → list_any (asks_for d g) es ≡ list_any (same_pair (d, g)) (flat_map asked_by es)
entries_ask d g [] = refl
entries_ask d g (feature h ∷ es) = entries_ask d g es
entries_ask d g (dependency e ∷ es) = entries_ask d g es
entries_ask d g (dependency_feature e h ∷ es) = ap (λ b. same_pair (d, g) (e, h) || b) (entries_ask d g es)
entries_ask d g (weak_feature e h ∷ es) = ap (λ b. same_pair (d, g) (e, h) || b) (entries_ask d g es)

pub rows_ask : (d g : List ℕ) (table : Table)
    → list_any (row_names d g) table ≡ list_any (same_pair (d, g)) (root_asks table)
unfolding row_names
rows_ask d g [] = refl
rows_ask d g (row ∷ rows) = ap₂ (λ a b. a || b) (entries_ask d g row.1) (rows_ask d g rows)
    ∙ sym (list_any-append (same_pair (d, g)) (flat_map asked_by row.1) (root_asks rows))

may_ask_is : (d g : List ℕ) (table : Table)
    → list_any (row_may_ask d g table) table
    ≡ list_any (λ row. list_any (asks_for d g) (entries_or_none (entries_at row.0 table))) table
unfolding row_may_ask
may_ask_is d g table = refl

pub owner_may_ask : (d g : List ℕ) (a b : Summary) → a ≡ b
    → list_any (row_may_ask d g a.features) a.features
    ≡ list_any (λ row. list_any (asks_for d g) (entries_or_none (entries_at row.0 b.features))) b.features
owner_may_ask d g a b e = may_ask_is d g a.features
    ∙ ap (λ (o : Summary).
    list_any (λ row. list_any (asks_for d g) (entries_or_none (entries_at row.0 o.features))) o.features) e
