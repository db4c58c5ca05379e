-- Looking up in a table is looking up in its map.
use Rattle.std.proofs.Common.{◌≡◌, ℕ, List, [], ◌∷◌, Bool, true, false, cond, Option, Some, None, option_map, refl, sym}
use Rattle.std.proofs.Common.{ap, ◌∙◌, Vec, is_some}
use Rattle.std.specs.Map.{lookup}
use Rattle.std.specs.Ordering.{nat_cmp}
use Rattle.std.specs.Cmp.Lexicographic.{slice_cmp, texts_ties}
use Rattle.std.specs.BTreeMap.{is_at}
use Rattle.std.specs.declared.alloc.Global.{Global}
use Rattle.model.specs.Summary.{Table, entries_at, same_text}
use Rattle.features.specs.inner.Tables.{rows_of}
use Rattle.features.specs.EntryViews.{entry_views}
use Rattle.features.specs.declared.entry.Entry.{Entry}

-- the test of a map's look-up is the comparison of names
pub at_is : (name key : List ℕ) → is_at (slice_cmp nat_cmp name) key ≡ same_text name key
at_is name key = sym (texts_ties name key)

pub entries_at-rows_of : (name : List ℕ) (es : List (List ℕ × Vec Entry Global))
    → entries_at name (rows_of es) ≡ option_map (λ v. entry_views v.items) (lookup (is_at (slice_cmp nat_cmp name)) es)
entries_at-rows_of name [] = refl
entries_at-rows_of name (e ∷ es) = ap (λ b. cond b (Some (entry_views e.1.items)) (entries_at name (rows_of es)))
    (sym (at_is name e.0)) ∙ by (entries_at-rows_of name es) (is_at (slice_cmp nat_cmp name) e.0)
  where
    by : entries_at name (rows_of es)
        ≡ option_map (λ v. entry_views v.items) (lookup (is_at (slice_cmp nat_cmp name)) es)
        → (b : Bool) → cond b (Some (entry_views e.1.items)) (entries_at name (rows_of es))
        ≡ option_map (λ v. entry_views v.items) (cond b (Some e.1) (lookup (is_at (slice_cmp nat_cmp name)) es))
    by rest true = refl
    by rest false = rest

pub is_some-option_map : {A B : Type 0} (f : A → B) (o : Option A) → is_some (option_map f o) ≡ is_some o
is_some-option_map f None = refl
is_some-option_map f (Some x) = refl

-- what a map's answer says of its table
pub entries_at-get : (t : Table) (es : List (List ℕ × Vec Entry Global)) (name : List ℕ) (r : Option (Vec Entry Global))
    → rows_of es ≡ t
    → r ≡ lookup (is_at (slice_cmp nat_cmp name)) es → entries_at name t ≡ option_map (λ v. entry_views v.items) r
entries_at-get t es name r seen found =
    ap (λ (u : Table). entries_at name u) (sym seen) ∙ entries_at-rows_of name es
    ∙ ap (option_map (λ v. entry_views v.items)) (sym found)

-- whether it has the feature
pub has-get : (t : Table) (es : List (List ℕ × Vec Entry Global)) (name : List ℕ) → rows_of es ≡ t
    → is_some (entries_at name t) ≡ is_some (lookup (is_at (slice_cmp nat_cmp name)) es)
has-get t es name seen = ap is_some (entries_at-get t es name _ seen refl)
    ∙ is_some-option_map (λ v. entry_views v.items) (lookup (is_at (slice_cmp nat_cmp name)) es)
