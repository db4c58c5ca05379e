-- What is read as an entry, and what a built table has, is of names that are names.
use Rattle.std.proofs.Common.{◌≡◌, ℕ, List, [], ◌∷◌, Bool, true, false, ◌&&◌, cond, Option, Some, None, IfSome, Ok}
use Rattle.std.proofs.Common.{Ordering, Less, Equal, Greater, All, refl, subst, codes}
use Rattle.std.specs.Ordering.{match_ordering}
use Rattle.model.specs.Order.{text_cmp}
use Rattle.model.specs.Summary.{Entry, Table, has_feature, dependency, dependency_feature, weak_feature}
use Rattle.model.specs.Tables.{DepName, Written, default_feature, is_implicit, implicit_entries, with_row}
use Rattle.model.specs.Tables.{with_implicit}
use Rattle.model.specs.Tables.{table_of}
use Rattle.model.proofs.Lists.{all_none, all_cons, all_first, all_rest}
use Rattle.model.proofs.Same.{both}
use Rattle.model.proofs.Tables.{built}
use Rattle.features.specs.Names.{is_package_name, is_feature_name, after_text, before_text, around, feature_of}
use Rattle.features.specs.Names.{dependency_of, asked_of, weak_or, asking_or, dependency_or, entry_of}
use Rattle.features.specs.inner.Valid.{IsPackageName, IsFeatureName, IsValidEntry, IsValidRow}
use Rattle.features.proofs.NameLemmas.{feature_name-package}

-- ---- entries

feature-valid : (g : List ℕ) → IfSome (feature_of g) IsValidEntry
feature-valid g = elim (is_feature_name g) as (λ b. IfSome (cond b (Some (Entry.feature g)) None) IsValidEntry)
    [ true ↦ tt | false ↦ tt ]

dependency-valid : (d : List ℕ) → IfSome (dependency_of d) IsValidEntry
dependency-valid d = elim (is_package_name d) as (λ b. IfSome (cond b (Some (dependency d)) None) IsValidEntry)
    [ true ↦ tt | false ↦ tt ]

asked-valid : (form : List ℕ → List ℕ → Entry) (d g : List ℕ) → (IsFeatureName g → IsValidEntry (form d g))
    → IfSome (asked_of form d g) IsValidEntry
asked-valid form d g valid = by (is_package_name d && is_feature_name g) refl
  where
    by : (b : Bool) → (is_package_name d && is_feature_name g) ≡ b → IfSome (cond b (Some (form d g)) None) IsValidEntry
    by true e = valid (both (is_package_name d) (is_feature_name g) e).1
    by false e = tt

weak-valid : (o : Option (List ℕ)) (left g : List ℕ) → IfSome (weak_or o left g) IsValidEntry
weak-valid (Some d) left g = asked-valid weak_feature d g (λ h. h)
weak-valid None left g = asked-valid dependency_feature left g (λ h. h)

asking-valid : (o : Option (List ℕ × List ℕ)) (text : List ℕ) → IfSome (asking_or o text) IsValidEntry
asking-valid (Some (left, g)) text = weak-valid (before_text (codes "?") left) left g
asking-valid None text = feature-valid text

either-valid : (o : Option (List ℕ)) (text : List ℕ) → IfSome (dependency_or o text) IsValidEntry
either-valid (Some d) text = dependency-valid d
either-valid None text = asking-valid (around 47 text) text

pub entry-valid : (text : List ℕ) → IfSome (entry_of text) IsValidEntry
entry-valid text = either-valid (after_text (codes "dep:") text) text

-- ---- tables

pub row-valid : (table : Table) (f : List ℕ) (es : List Entry) → IsFeatureName f → All IsValidEntry es
    → All IsValidRow table → All IsValidRow (with_row table f es)
row-valid [] f es name entries h = all_cons IsValidRow (f, es) [] (name, entries) (all_none IsValidRow)
row-valid (row ∷ rows) f es name entries h =
    by (text_cmp f row.0) (row-valid rows f es name entries (all_rest IsValidRow row rows h))
  where
    by : (o : Ordering) → All IsValidRow (with_row rows f es) → All IsValidRow
        (match_ordering o ((f, es) ∷ row ∷ rows) ((row.0, es) ∷ rows) (row ∷ with_row rows f es))
    by Less more = all_cons IsValidRow (f, es) (row ∷ rows) (name, entries) h
    by Equal more = all_cons IsValidRow (row.0, es) rows ((all_first IsValidRow row rows h).0, entries)
        (all_rest IsValidRow row rows h)
    by Greater more = all_cons IsValidRow row (with_row rows f es) (all_first IsValidRow row rows h) more

implicit-valid : (implicit : List ℕ → Bool) (ds : List DepName) (table : Table) → All (λ d. IsPackageName d.name) ds
    → All IsValidRow table → All IsValidRow (with_implicit implicit ds table)
unfolding with_implicit
implicit-valid implicit [] table names h = h
implicit-valid implicit (d ∷ ds) table names h =
    implicit-valid implicit ds (cond (implicit d.name) (with_row table d.name (implicit_entries d.name)) table)
    (all_rest (λ d. IsPackageName d.name) d ds names)
    (elim (implicit d.name) as (λ b. All IsValidRow (cond b (with_row table d.name (implicit_entries d.name)) table)) [
      | true ↦
          row-valid table d.name (implicit_entries d.name)
          (feature_name-package d.name (all_first (λ d. IsPackageName d.name) d ds names))
          (all_cons IsValidEntry (dependency d.name) [] tt (all_none IsValidEntry)) h
      | false ↦ h
    ])

-- where what is written is of names, and dependencies are called by names, the table is of names too
pub built-valid : (ds : List DepName) (written : Written) (table : Table) → All (λ d. IsPackageName d.name) ds
    → All IsValidRow written → table_of ds written ≡ Ok table → All IsValidRow table
built-valid ds written table names h e =
    let t = with_implicit (is_implicit ds written) ds written in
    let valid : All IsValidRow t = implicit-valid (is_implicit ds written) ds written names h in
    subst (All IsValidRow) (built ds written table e).is_completed
    (elim (has_feature t default_feature) as (λ b. All IsValidRow (cond b t (with_row t default_feature [])))
    [ true ↦ valid | false ↦ row-valid t default_feature [] refl (all_none IsValidEntry) valid ])
