-- Rows that rise by the names of their features: where a feature is found among them, and where it is put.
use Rattle.std.proofs.Common.{◌≡◌, ℕ, zero, suc, ◌+◌, ◌<◌, ◌≤◌, List, [], ◌∷◌, Some, None, Ok, Err}
use Rattle.std.proofs.Common.{Vec, length, map, get_or}
use Rattle.std.proofs.Common.{Ordering, Less, Equal, Greater, true, cond, T, ◌&&◌, slice_set, refl, sym, ap, ◌∙◌, ap₂}
use Rattle.std.proofs.Common.{subst, arith}
use Rattle.std.specs.BTreeMap.{BTreeMap, IsFromIterResult, insert_entry, is_at}
use Rattle.std.specs.Cmp.{eq_by_cmp_equiv}
use Rattle.std.specs.Cmp.Lexicographic.{nat_list_cmp_total}
use Rattle.std.specs.FinMap.Entries.{below_all, find, is_sorted, same_entries}
use Rattle.std.specs.List.{AllByRecursion, insert}
use Rattle.std.specs.List.Sorted.{IsBinarySearchResult, IsNonDecreasingBy, IsStrictlySortedBy}
use Rattle.std.specs.Map.{keys_of, lookup}
use Rattle.std.specs.Ordering.{eq_by_cmp, is_eq, is_lt, match_ordering, ordering_index, ordering_reverse}
use Rattle.std.specs.declared.alloc.Global.{Global}
use Rattle.std.proofs.lemmas.List.{get_or-map}
use Rattle.std.proofs.lemmas.List.Sorted.{searchable_from_sorted}
use Rattle.std.proofs.lemmas.Map.Entries.{length-keys_of, lookup_from_place, lookup_at_gap}
use Rattle.std.proofs.lemmas.Map.Keys.{Less-from_sorted, IsDistinct-from_sorted}
use Rattle.std.proofs.lemmas.Map.Lookups.{exact_bytes}
use Rattle.std.proofs.lemmas.Map.Made.{update_all_none}
use Rattle.std.proofs.lemmas.Option.{slice_get-get_or, get_or_from_slice_get, slice_get_within}
use Rattle.model.specs.Order.{text_cmp}
use Rattle.features.specs.inner.Tables.{AreRising, rows_of}
use Rattle.features.specs.declared.entry.Entry.{Entry}

abbrev Row : Type 0
Row = List ℕ × Vec Entry Global

names_rise : (es : List Row) (i j : ℕ) (d : Row) → AreRising es → i < j → j < length es
    → text_cmp (get_or es i d).0 (get_or es j d).0 ≡ Less
names_rise es i j d rising less within =
    ap₂ text_cmp (sym (get_or-map (λ (e : Row). e.0) es i d d.0 (omega (arith, less, within))))
    (sym (get_or-map (λ (e : Row). e.0) es j d d.0 within))
    ∙ Less-from_sorted text_cmp (keys_of es) i j d.0 rising less (rw (length-keys_of es) within)

-- the names of rows, and those of what they are as a table
names-of-table : (es : List Row) → keys_of es ≡ map (λ row. row.0) (rows_of es)
names-of-table [] = refl
names-of-table (e ∷ es) = ap (λ names. e.0 ∷ names) (names-of-table es)

-- rows that are the same table as rows that rise
pub rise_too : (es fs : List Row) → rows_of fs ≡ rows_of es → AreRising es → AreRising fs
rise_too es fs same rising =
    subst (IsStrictlySortedBy text_cmp) (names-of-table es ∙ ap (λ rows. map (λ row. row.0) rows) (sym same)
    ∙ sym (names-of-table fs)) rising

can_be_searched : (es : List Row) (name : List ℕ) → AreRising es
    → IsNonDecreasingBy (λ (e : Row). ordering_index (text_cmp e.0 name)) es
can_be_searched es name rising =
    searchable_from_sorted nat_list_cmp_total (λ (e : Row). e.0) es name (λ k d from within.
    ap is_lt (nat_list_cmp_total.antisymm (get_or es (k + 1) d).0 (get_or es k d).0
    ∙ ap ordering_reverse (names_rise es k (k + 1) d rising (omega arith) within)))

-- the row that a search found is the one of the name
pub row_found : (es : List Row) (name : List ℕ) (i : ℕ) (d : Row) → AreRising es
    → IsBinarySearchResult (λ (e : Row). text_cmp e.0 name) es (Ok i) → i < length es
    → Some (get_or es i d).1 ≡ lookup (is_at (text_cmp name)) es
row_found es name i d rising found inside =
    let y = get_or es i d in
    subst (λ n. Some y.1 ≡ lookup (is_at (text_cmp n)) es) (exact_bytes y.0 name (found d))
    (sym (lookup_from_place (eq_by_cmp_equiv nat_list_cmp_total) es i y.0 y.1
    (IsDistinct-from_sorted text_cmp (keys_of es) rising) (slice_get-get_or es i d inside)))

-- a search that ends between two rows found none of that name
pub row_lacking : (es : List Row) (name : List ℕ) (i : ℕ) → AreRising es
    → IsBinarySearchResult (λ (e : Row). text_cmp e.0 name) es (Err i) → None ≡ lookup (is_at (text_cmp name)) es
row_lacking es name i rising found =
    let split = found (can_be_searched es name rising) in
    sym (lookup_at_gap nat_list_cmp_total name es i rising
    (λ j e less at. nat_list_cmp_total.antisymm name e.0
    ∙ ap ordering_reverse (ap (λ (d : Row). text_cmp d.0 name) (sym (get_or_from_slice_get es j e e at))
    ∙ split.0 j e (omega arith) less))
    (λ e at. nat_list_cmp_total.antisymm name e.0
    ∙ ap ordering_reverse (ap (λ (d : Row). text_cmp d.0 name) (sym (get_or_from_slice_get es i e e at))
    ∙ split.1 i e (omega arith) (slice_get_within es i e at))))

-- ---- where a row is put

pub after : (name key : List ℕ) → text_cmp key name ≡ Less → text_cmp name key ≡ Greater
after name key less = nat_list_cmp_total.antisymm name key ∙ ap ordering_reverse less

before : (name key : List ℕ) → text_cmp key name ≡ Greater → text_cmp name key ≡ Less
before name key greater = nat_list_cmp_total.antisymm name key ∙ ap ordering_reverse greater

-- one step of putting
step : (name : List ℕ) (v : Vec Entry Global) (e : Row) (es : List Row) (o : Ordering) → text_cmp name e.0 ≡ o
    → insert_entry text_cmp (e ∷ es) name v
    ≡ match_ordering o ((name, v) ∷ e ∷ es) ((e.0, v) ∷ es) (e ∷ insert_entry text_cmp es name v)
step name v e es o is =
    ap (λ o. match_ordering o ((name, v) ∷ e ∷ es) ((e.0, v) ∷ es) (e ∷ insert_entry text_cmp es name v)) is

over : (es : List Row) (name : List ℕ) (v : Vec Entry Global) (i : ℕ)
    → ((j : ℕ) (d : Row) → j < i → text_cmp (get_or es j d).0 name ≡ Less) → i < length es
    → ((d : Row) → text_cmp (get_or es i d).0 name ≡ Equal) → slice_set es i (name, v) ≡ insert_entry text_cmp es name v
over [] name v i lower inside at = absurd (omega arith)
over (e ∷ es) name v zero lower inside at =
    ap (λ key. (key, v) ∷ es) (sym (exact_bytes e.0 name (at e)))
    ∙ sym (step name v e es Equal (nat_list_cmp_total.antisymm name e.0 ∙ ap ordering_reverse (at e)))
over (e ∷ es) name v (suc i) lower inside at =
    ap (λ rows. e ∷ rows) (over es name v i (λ j d less. lower (suc j) d (omega arith)) (omega arith) at)
    ∙ sym (step name v e es Greater (after name e.0 (lower 0 e (omega arith))))

between : (es : List Row) (name : List ℕ) (v : Vec Entry Global) (i : ℕ) → i ≤ length es
    → ((j : ℕ) (d : Row) → j < i → text_cmp (get_or es j d).0 name ≡ Less)
    → ((d : Row) → i < length es → text_cmp (get_or es i d).0 name ≡ Greater)
    → insert es i (name, v) ≡ insert_entry text_cmp es name v
between [] name v zero within lower upper = refl
between [] name v (suc i) within lower upper = absurd (omega arith)
between (e ∷ es) name v zero within lower upper =
    sym (step name v e es Less (before name e.0 (upper e (omega arith))))
between (e ∷ es) name v (suc i) within lower upper =
    ap (λ rows. e ∷ rows) (between es name v i (omega arith) (λ j d less. lower (suc j) d (omega arith))
    (λ d less. upper d (omega arith))) ∙ sym (step name v e es Greater (after name e.0 (lower 0 e (omega arith))))

-- a row in the place of the one that a search found
pub put_found : (es : List Row) (name : List ℕ) (v : Vec Entry Global) (i : ℕ) → AreRising es
    → IsBinarySearchResult (λ (e : Row). text_cmp e.0 name) es (Ok i) → i < length es
    → slice_set es i (name, v) ≡ insert_entry text_cmp es name v
put_found es name v i rising found inside =
    over es name v i
    (λ j d less. subst (λ n. text_cmp (get_or es j d).0 n ≡ Less) (exact_bytes (get_or es i d).0 name (found d))
    (names_rise es j i d rising less inside)) inside found

-- a row between those that a search stopped at
pub put_between : (es : List Row) (name : List ℕ) (v : Vec Entry Global) (i : ℕ) → AreRising es
    → IsBinarySearchResult (λ (e : Row). text_cmp e.0 name) es (Err i) → i ≤ length es
    → insert es i (name, v) ≡ insert_entry text_cmp es name v
put_between es name v i rising found within =
    let split = found (can_be_searched es name rising) in
    between es name v i within (λ j d less. split.0 j d (omega arith) less)
    (λ d less. split.1 i d (omega arith) less)

-- names that come after one come after it with one more of them
all_put : (first name : List ℕ) (v : Vec Entry Global) (es : List Row) → text_cmp first name ≡ Less
    → AllByRecursion (λ key. text_cmp first key ≡ Less) (keys_of es)
    → AllByRecursion (λ key. text_cmp first key ≡ Less) (keys_of (insert_entry text_cmp es name v))
all_put first name v [] less all = (less, tt)
all_put first name v (e ∷ es) less (own, others) = by (text_cmp name e.0) (all_put first name v es less others)
  where
    by : (o : Ordering)
        → AllByRecursion (λ key. text_cmp first key ≡ Less) (keys_of (insert_entry text_cmp es name v))
        → AllByRecursion (λ key. text_cmp first key ≡ Less)
        (keys_of (match_ordering o ((name, v) ∷ e ∷ es) ((e.0, v) ∷ es) (e ∷ insert_entry text_cmp es name v)))
    by Less rest = (less, (own, others))
    by Equal rest = (own, others)
    by Greater rest = (own, rest)

pub all_after : (name first : List ℕ) (keys : List (List ℕ)) → text_cmp name first ≡ Less
    → AllByRecursion (λ key. text_cmp first key ≡ Less) keys → AllByRecursion (λ key. text_cmp name key ≡ Less) keys
all_after name first [] less all = tt
all_after name first (key ∷ keys) less (own, others) =
    (nat_list_cmp_total.trans name first key less own, all_after name first keys less others)

-- rows with one more rise
pub rising_put : (es : List Row) (name : List ℕ) (v : Vec Entry Global) → AreRising es
    → AreRising (insert_entry text_cmp es name v)
unfolding IsStrictlySortedBy
rising_put [] name v rising = (tt, tt)
rising_put (e ∷ es) name v (first, others) = by (text_cmp name e.0) refl (rising_put es name v others)
  where
    by : (o : Ordering) → text_cmp name e.0 ≡ o → AreRising (insert_entry text_cmp es name v)
        → AreRising (match_ordering o ((name, v) ∷ e ∷ es) ((e.0, v) ∷ es) (e ∷ insert_entry text_cmp es name v))
    by Less is rest = ((is, all_after name e.0 (keys_of es) is first), (first, others))
    by Equal is rest = (first, others)
    by Greater is rest = (
      all_put e.0 name v es (nat_list_cmp_total.antisymm e.0 name ∙ ap ordering_reverse is) first,
      rest,
    )

-- ---- the map of such rows

below-test : (key : List ℕ) (es : List Row) → AllByRecursion (λ k. text_cmp key k ≡ Less) (keys_of es)
    → below_all text_cmp key es ≡ true
below-test key [] all = refl
below-test key (e ∷ es) (first, rest) = ap (λ o. is_lt o && below_all text_cmp key es) first ∙ below-test key es rest

sorted-test : (es : List Row) → AreRising es → is_sorted text_cmp es ≡ true
unfolding IsStrictlySortedBy
sorted-test [] sorted = refl
sorted-test (e ∷ es) (first, rest) =
    ap (λ b. b && is_sorted text_cmp es) (below-test e.0 es first) ∙ sorted-test es rest

-- a look-up in rows, whichever of the two ways it is written
found-same : (q : List ℕ) (es : List Row) → find text_cmp q es ≡ lookup (is_at (text_cmp q)) es
found-same q [] = refl
found-same q (e ∷ es) = ap (λ o. cond (is_eq (text_cmp q e.0)) (Some e.1) o) (found-same q es)

-- the map that is collected from rows that rise has just these
pub map-rows : (es : List Row) (m : BTreeMap (List ℕ) (Vec Entry Global)) → IsFromIterResult text_cmp es m
    → AreRising es → m.entries ≡ es
map-rows es m (found, ordered) rising =
    same_entries text_cmp nat_list_cmp_total exact_bytes m.entries es (subst T (sym (sorted-test m.entries ordered)) tt)
    (subst T (sym (sorted-test es rising)) tt)
    (λ q. found-same q m.entries ∙ found q
    ∙ update_all_none (eq_by_cmp_equiv nat_list_cmp_total) (eq_by_cmp text_cmp)
    (λ x y. refl) es q (IsDistinct-from_sorted text_cmp (keys_of es) rising) ∙ sym (found-same q es))
