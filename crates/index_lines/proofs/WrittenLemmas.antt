-- Features are joined one after another, in a map as in a table.
use Rattle.std.proofs.Common.{◌≡◌, ℕ, List, [], ◌∷◌, ◌++◌, Bool, true, false, cond, Some, None, option_map, refl, sym}
use Rattle.std.proofs.Common.{ap, ◌∙◌, ◌==◌, suc, Ok, Vec, length, arith}
use Rattle.std.proofs.lemmas.Bool.{eqb-true}
use Rattle.std.specs.Map.{lookup, set_value}
use Rattle.std.specs.Ordering.{nat_cmp, match_ordering}
use Rattle.std.specs.declared.cmp.Ordering.{Ordering}
use Rattle.std.specs.declared.cmp.Ordering.TheVariants.{Less, Equal, Greater}
use Rattle.std.specs.Cmp.Lexicographic.{slice_cmp}
use Rattle.std.specs.BTreeMap.{is_at, insert_entry}
use Rattle.std.specs.declared.alloc.Global.{Global}
use Rattle.model.specs.Summary as model
use Rattle.model.specs.Summary.{same_text}
use Rattle.model.specs.Order.{text_cmp}
use Rattle.model.specs.Tables.{Written}
use Rattle.features.specs.inner.Tables.{rows_of}
use Rattle.features.specs.EntryViews.{entry_views}
use Rattle.features.specs.declared.entry.Entry.{Entry}
use Rattle.features.proofs.TableLemmas.{at_is, entries_at-rows_of}
use Rattle.index_lines.specs.inner.ShapeViews.{feature_views}
use Rattle.index_lines.specs.Shapes.{ShapeView}
use Rattle.index_lines.specs.declared.shape.FeatureShape.{FeatureShape}
use Rattle.index_lines.specs.Records.{with_more, joined, with_features, written_of}

pub set-rows : (name : List ℕ) (es : List (List ℕ × Vec Entry Global)) (w : Vec Entry Global)
    → rows_of (set_value (is_at (slice_cmp nat_cmp name)) es w)
    ≡ set_value (same_text name) (rows_of es) (entry_views w.items)
set-rows name [] w = refl
set-rows name (e ∷ es) w = by (set-rows name es w) (is_at (slice_cmp nat_cmp name) e.0)
    ∙ ap (λ b. cond b ((e.0, entry_views w.items) ∷ rows_of es)
    ((e.0, entry_views e.1.items) ∷ set_value (same_text name) (rows_of es) (entry_views w.items))) (at_is name e.0)
  where
    by : rows_of (set_value (is_at (slice_cmp nat_cmp name)) es w)
        ≡ set_value (same_text name) (rows_of es) (entry_views w.items)
        → (b : Bool) → rows_of (cond b ((e.0, w) ∷ es) (e ∷ set_value (is_at (slice_cmp nat_cmp name)) es w))
        ≡ cond b ((e.0, entry_views w.items) ∷ rows_of es)
        ((e.0, entry_views e.1.items) ∷ set_value (same_text name) (rows_of es) (entry_views w.items))
    by rest true = refl
    by rest false = ap (λ rows. (e.0, entry_views e.1.items) ∷ rows) rest

pub insert-rows : (es : List (List ℕ × Vec Entry Global)) (name : List ℕ) (v : Vec Entry Global)
    → rows_of (insert_entry (slice_cmp nat_cmp) es name v)
    ≡ insert_entry text_cmp (rows_of es) name (entry_views v.items)
insert-rows [] name v = refl
insert-rows (e ∷ es) name v = by (insert-rows es name v) (slice_cmp nat_cmp name e.0)
  where
    by : rows_of (insert_entry (slice_cmp nat_cmp) es name v)
        ≡ insert_entry text_cmp (rows_of es) name (entry_views v.items)
        → (o : Ordering) → rows_of (match_ordering o ((name, v) ∷ e ∷ es) ((e.0, v) ∷ es)
        (e ∷ insert_entry (slice_cmp nat_cmp) es name v))
        ≡ match_ordering o ((name, entry_views v.items) ∷ (e.0, entry_views e.1.items) ∷ rows_of es)
        ((e.0, entry_views v.items) ∷ rows_of es)
        ((e.0, entry_views e.1.items) ∷ insert_entry text_cmp (rows_of es) name (entry_views v.items))
    by rest Less = refl
    by rest Equal = refl
    by rest Greater = ap (λ rows. (e.0, entry_views e.1.items) ∷ rows) rest

-- entries behind those that a map has of a feature
pub joined-set : (es : List (List ℕ × Vec Entry Global)) (name : List ℕ) (before w : Vec Entry Global)
    (more : List model.Entry) → lookup (is_at (slice_cmp nat_cmp name)) es ≡ Some before
    → entry_views w.items ≡ entry_views before.items ++ more
    → rows_of (set_value (is_at (slice_cmp nat_cmp name)) es w) ≡ joined (rows_of es) (name, more)
joined-set es name before w more found same =
    set-rows name es w ∙ ap (set_value (same_text name) (rows_of es)) same
    ∙ sym (ap (λ o. with_more o (rows_of es) name more)
    (entries_at-rows_of name es ∙ ap (option_map (λ v. entry_views v.items)) found))

-- the entries of a feature that a map lacks
pub joined-insert : (es : List (List ℕ × Vec Entry Global)) (name : List ℕ) (v : Vec Entry Global)
    → lookup (is_at (slice_cmp nat_cmp name)) es ≡ None
    → rows_of (insert_entry (slice_cmp nat_cmp) es name v) ≡ joined (rows_of es) (name, entry_views v.items)
joined-insert es name v absent =
    insert-rows es name v ∙ sym (ap (λ o. with_more o (rows_of es) name (entry_views v.items))
    (entries_at-rows_of name es ∙ ap (option_map (λ v. entry_views v.items)) absent))

-- a line without `features2` writes just the others
pub nothing-more : (s : ShapeView) (written : Written) → s.features2 ≡ [] → with_features [] s.features ≡ Ok written
    → written_of s ≡ Ok written
unfolding with_features
nothing-more s written none read = rw (read, none) refl

pub none-viewed : (fs : List FeatureShape) → (length fs == 0) ≡ true → feature_views fs ≡ []
none-viewed [] h = refl
none-viewed (f ∷ fs) h = absurd (let k = eqb-true (suc (length fs)) 0 h in omega (arith, k))
