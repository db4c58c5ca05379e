-- A built table is what is written with the rows of its implicit features and `default`.
use Rattle.std.proofs.Common.{◌≡◌, ℕ, List, [], ◌∷◌, map, Bool, true, false, cond, Result, Ok, Err, Vec, refl}
use Rattle.std.proofs.Common.{ap, ap₂, ◌∙◌}
use Rattle.std.specs.BTreeMap.{insert_entry}
use Rattle.std.specs.List.{filter}
use Rattle.std.specs.declared.alloc.Global.{Global}
use Rattle.model.specs.Summary.{Table, has_feature}
use Rattle.model.specs.Order.{text_cmp}
use Rattle.model.specs.Outcome.{◌>>=◌}
use Rattle.model.specs.Tables.{DepName, TableFault, no_such_feature, no_such_dependency, not_optional, free_of}
use Rattle.model.specs.Tables.{is_implicit, default_feature, implicit_entries, with_row, with_implicit, with_default}
use Rattle.model.specs.Tables.{table_of}
use Rattle.model.proofs.Tables.{seen-insert_entry}
use Rattle.features.specs.inner.Drafts.{or_fault, implicit_rows, rows_or_fault, with_rows}
use Rattle.features.specs.EntryViews.{entry_views}
use Rattle.features.specs.inner.Tables.{built, rows_of, table_or_fault}
use Rattle.features.specs.declared.entry.Entry.{Entry}

-- a map with one more feature is a table with one more row
pub rows_of-insert_entry : (es : List (List ℕ × Vec Entry Global)) (f : List ℕ) (v : Vec Entry Global)
    → rows_of (insert_entry text_cmp es f v) ≡ with_row (rows_of es) f (entry_views v.items)
rows_of-insert_entry es f v = seen-insert_entry (λ (v : Vec Entry Global). entry_views v.items) es f v

with_implicit-rows : (implicit : List ℕ → Bool) (ds : List DepName) (table : Table)
    → with_implicit implicit ds table ≡ with_rows table (implicit_rows implicit ds)
unfolding with_implicit
with_implicit-rows implicit [] table = refl
with_implicit-rows implicit (d ∷ ds) table =
    with_implicit-rows implicit ds
    (cond (implicit d.name) (with_row table d.name (implicit_entries d.name)) table) ∙ by (implicit d.name)
  where
    rows : List DepName → Table
    rows ds = map (λ d. (d.name, implicit_entries d.name)) ds

    by : (b : Bool)
        → with_rows (cond b (with_row table d.name (implicit_entries d.name)) table) (implicit_rows implicit ds)
        ≡ with_rows table (map (λ d. (d.name, implicit_entries d.name))
        (cond b (d ∷ filter (λ d. implicit d.name) ds) (filter (λ d. implicit d.name) ds)))
    by true = refl
    by false = refl

-- the steps of building
pub built-rows : (ds : List DepName) (written : Table)
    → built ds written ≡ (rows_or_fault ds written >>= λ rows. Ok (with_default (with_rows written rows)))
unfolding table_of
built-rows ds written =
    by (free_of ds written no_such_feature) (free_of ds written no_such_dependency) (free_of ds written not_optional)
  where
    rows : Table
    rows = implicit_rows (is_implicit ds written) ds

    by : (a b c : Result (Unit {0}) (TableFault × List ℕ)) → table_or_fault (a >>= λ x. b >>= λ y. c >>= λ z.
        Ok (with_default (with_implicit (is_implicit ds written) ds written)))
        ≡ (((or_fault a >>= λ x. or_fault b >>= λ y. or_fault c) >>= λ u. Ok rows) >>= λ rows.
        Ok (with_default (with_rows written rows)))
    by (Err e) b c = refl
    by (Ok x) (Err e) c = refl
    by (Ok x) (Ok y) (Err e) = refl
    by (Ok x) (Ok y) (Ok z) = ap (λ t. Ok (with_default t)) (with_implicit-rows (is_implicit ds written) ds written)

pub default-put : (es new : List (List ℕ × Vec Entry Global)) (f : List ℕ) (v : Vec Entry Global)
    → has_feature (rows_of es) default_feature ≡ false → f ≡ default_feature → v.items ≡ []
    → new ≡ insert_entry text_cmp es f v → rows_of new ≡ with_default (rows_of es)
default-put es new f v absent same empty put =
    rw absent (ap rows_of put ∙ rows_of-insert_entry es f v
    ∙ ap₂ (λ k xs. with_row (rows_of es) k (entry_views xs)) same empty)

-- a row that was put to a map is no longer left
pub row-put : (es new rest : List (List ℕ × Vec Entry Global)) (f : List ℕ) (v : Vec Entry Global) (whole : Table)
    → new ≡ insert_entry text_cmp es f v
    → with_rows (rows_of es) (rows_of ((f, v) ∷ rest)) ≡ whole → with_rows (rows_of new) (rows_of rest) ≡ whole
row-put es new rest f v whole put told =
    ap (λ t. with_rows t (rows_of rest)) (ap rows_of put ∙ rows_of-insert_entry es f v) ∙ told
