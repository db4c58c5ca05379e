-- Features that are read in the order of their names go to the end of a map.
use Rattle.std.proofs.Common.{◌≡◌, ℕ, List, [], ◌∷◌, ◌++◌, map, append_assoc, string_bytes, String, Vec, refl, ap, ◌∙◌}
use Rattle.std.proofs.lemmas.List.{map-append}
use Rattle.std.specs.BTreeMap.{insert_entry}
use Rattle.std.specs.Cmp.Lexicographic.{nat_list_cmp_total}
use Rattle.std.specs.List.{AllByRecursion}
use Rattle.std.specs.List.Sorted.{IsStrictlySortedBy}
use Rattle.std.specs.Map.{keys_of}
use Rattle.std.specs.Ordering.{match_ordering, ordering_reverse}
use Rattle.std.specs.String.{string_cmp}
use Rattle.std.specs.declared.alloc.Global.{Global}
use Rattle.std.specs.declared.cmp.Ordering.TheVariants.{Less}
use Rattle.toml.specs.declared.value.Value.{Value}
use Rattle.model.specs.Order.{text_cmp}
use Rattle.model.specs.Summary as model
use Rattle.features.specs.EntryViews.{entry_views}
use Rattle.features.specs.declared.entry.Entry.{Entry}

-- the names of the features of a map
abbrev pub row_names : List (List ℕ × Vec Entry Global) → List (List ℕ)
row_names es = keys_of es

-- a feature of a map, as a row of a table
abbrev pub row_view : List ℕ × Vec Entry Global → List ℕ × List model.Entry
row_view e = (e.0, entry_views e.1.items)

-- the texts of the keys of a table
abbrev pub key_texts : List (String Global × Value) → List (List ℕ)
key_texts ms = map (λ m. string_bytes m.0) ms

-- the keys of a table rise by their bytes
pub texts_rise : (ms : List (String Global × Value)) → IsStrictlySortedBy string_cmp (keys_of ms)
    → IsStrictlySortedBy text_cmp (key_texts ms)
unfolding IsStrictlySortedBy
texts_rise [] sorted = tt
texts_rise (m ∷ ms) (below, rest) = (each m.0 ms below, texts_rise ms rest)
  where
    each : (k : String Global) (ms : List (String Global × Value)) → AllByRecursion (λ y. string_cmp k y ≡ Less)
        (keys_of ms) → AllByRecursion (λ y. text_cmp (string_bytes k) y ≡ Less) (key_texts ms)
    each k [] all = tt
    each k (m ∷ ms) (first, others) = (first, each k ms others)

-- what holds of each element holds of one in the middle
in_middle : {A : Type 0} (P : A → Type 0) (xs : List A) (x : A) (rest : List A)
    → AllByRecursion P (xs ++ x ∷ rest) → P x
in_middle P [] x rest all = all.0
in_middle P (y ∷ xs) x rest all = in_middle P xs x rest all.1

-- the entry of a name that comes after all others is the last
insert_last : (es : List (List ℕ × Vec Entry Global)) (k : List ℕ) (v : Vec Entry Global) (rest : List (List ℕ))
    → IsStrictlySortedBy text_cmp (row_names es ++ k ∷ rest) → insert_entry text_cmp es k v ≡ es ++ (k, v) ∷ []
unfolding IsStrictlySortedBy
insert_last [] k v rest sorted = refl
insert_last (e ∷ es) k v rest (below, sorted) =
    ap (λ o. match_ordering o ((k, v) ∷ e ∷ es) ((e.0, v) ∷ es) (e ∷ insert_entry text_cmp es k v))
    (nat_list_cmp_total.antisymm k e.0
    ∙ ap ordering_reverse (in_middle (λ y. text_cmp e.0 y ≡ Less) (row_names es) k rest below))
    ∙ ap (λ l. e ∷ l) (insert_last es k v rest sorted)

-- the names of a map with one more feature, and those that are left, are the names as they were
names_moved : (es fs : List (List ℕ × Vec Entry Global)) (k : List ℕ) (v : Vec Entry Global) (rest : List (List ℕ))
    → fs ≡ es ++ (k, v) ∷ [] → row_names fs ++ rest ≡ row_names es ++ k ∷ rest
names_moved es fs k v rest is =
    ap (λ (l : List (List ℕ × Vec Entry Global)). row_names l ++ rest) is
    ∙ ap (λ l. l ++ rest) (map-append (λ (e : List ℕ × Vec Entry Global). e.0) es ((k, v) ∷ []))
    ∙ append_assoc (row_names es) (k ∷ []) rest

-- the next feature is the last of the map, and the names stay in order
pub inserted : (es fs : List (List ℕ × Vec Entry Global)) (k : List ℕ) (v : Vec Entry Global) (rest : List (List ℕ))
    → fs ≡ insert_entry text_cmp es k v → IsStrictlySortedBy text_cmp (row_names es ++ k ∷ rest)
    → (fs ≡ es ++ (k, v) ∷ []) × IsStrictlySortedBy text_cmp (row_names fs ++ rest)
inserted es fs k v rest is sorted = let last : fs ≡ es ++ (k, v) ∷ [] =
    is ∙ insert_last es k v rest sorted in (last, rw (names_moved es fs k v rest last) sorted)
