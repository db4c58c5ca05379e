-- A feature is found at its place, in a table whose rows are in order.
use Rattle.std.proofs.Common.{◌≡◌, ℕ, zero, suc, ◌<◌, List, [], ◌∷◌, length, get_or, Bool, true, false, cond, Option}
use Rattle.std.proofs.Common.{Some, None, option_map, slice_get, Result, Ok, Err, Vec, Bor, refl, sym, ap, ◌∙◌, subst}
use Rattle.std.proofs.Common.{arith, not}
use Rattle.std.specs.Cmp.Lexicographic.{nat_list_cmp_total, texts_ties}
use Rattle.std.specs.List.{All, AllByRecursion}
use Rattle.std.specs.List.Sorted.{IsBinarySearchResult, IsSearchInRange}
use Rattle.std.specs.Map.{keys_of}
use Rattle.std.specs.Option.{is_none, is_some}
use Rattle.std.specs.Ordering.{is_eq, ordering_reverse}
use Rattle.std.specs.Result.{result_ok}
use Rattle.std.specs.Slice.{IsItemAt}
use Rattle.std.specs.declared.alloc.Global.{Global}
use Rattle.std.specs.declared.cmp.Ordering.TheVariants.{Less}
use Rattle.std.proofs.lemmas.List.Kept.{AllPairs-cons}
use Rattle.std.proofs.lemmas.Map.Keys.{sorted_head, sorted_tail}
use Rattle.std.proofs.lemmas.Map.Lookups.{exact_bytes}
use Rattle.std.proofs.lemmas.Option.{slice_get-get_or, slice_get-map}
use Rattle.model.specs.Order.{text_cmp}
use Rattle.model.specs.Summary as model
use Rattle.model.specs.Summary.{Table, same_text, entries_at, has_feature}
use Rattle.model.specs.Tables.{Before, IsInOrder}
use Rattle.model.proofs.Same.{text-refl, text-same}
use Rattle.model.proofs.Lists.{all_none, all_cons, all_get, pairs_all, pairs_rest}
use Rattle.features.specs.EntryViews.{entry_views}
use Rattle.features.specs.inner.Places.{place_of}
use Rattle.features.specs.inner.Tables.{AreRising, rows_of}
use Rattle.features.specs.declared.entry.Entry.{Entry}
use Rattle.features.proofs.RowLemmas.{row_lacking}
use Rattle.features.proofs.TableLemmas.{entries_at-rows_of}

abbrev Row : Type 0
Row = List ℕ × Vec Entry Global

abbrev seen : Row → List ℕ × List model.Entry
seen e = (e.0, entry_views e.1.items)

-- ---- rows that rise are in order

rows_behind : (e : Row) (es : List Row) → AllByRecursion (λ y. text_cmp e.0 y ≡ Less) (keys_of es)
    → All (Before (seen e)) (rows_of es)
rows_behind e [] h = all_none (Before (seen e))
rows_behind e (x ∷ es) h = all_cons (Before (seen e)) (seen x) (rows_of es) h.0 (rows_behind e es h.1)

pub rows_in_order : (es : List Row) → AreRising es → IsInOrder (rows_of es)
rows_in_order [] s = λ i j d lt within. absurd (omega arith)
rows_in_order (e ∷ es) s =
    AllPairs-cons Before (seen e) (rows_of es) (rows_behind e es (sorted_head text_cmp e.0 (keys_of es) s))
    (rows_in_order es (sorted_tail text_cmp e.0 (keys_of es) s))

-- ---- places in tables that are in order

apart : (f g : List ℕ) → text_cmp g f ≡ Less → same_text f g ≡ false
apart f g less = texts_ties f g ∙ ap is_eq (nat_list_cmp_total.antisymm f g ∙ ap ordering_reverse less)

-- a row stands at the place of its feature
pub place_of-row : (t : Table) (i : ℕ) (row : List ℕ × List model.Entry) → IsInOrder t → slice_get t i ≡ Some row
    → place_of row.0 t ≡ Some i
place_of-row [] i row o got = let z : None ≡ Some row = got in absurd cc
place_of-row (r ∷ t) zero row o got =
    let s : r ≡ row = cc in
    rw (ap (λ (q : List ℕ × List model.Entry). same_text row.0 q.0) s ∙ text-refl row.0) refl
place_of-row (r ∷ t) (suc i) row o got =
    let less : text_cmp r.0 row.0 ≡ Less = all_get (Before r) t i row (pairs_all Before r t o) got in
    rw (apart row.0 r.0 less) (ap (option_map suc) (place_of-row t i row (pairs_rest Before r t o) got))

-- its entries are those of its feature
pub entries_at-row : (t : Table) (i : ℕ) (row : List ℕ × List model.Entry) → IsInOrder t → slice_get t i ≡ Some row
    → entries_at row.0 t ≡ Some row.1
entries_at-row [] i row o got = let z : None ≡ Some row = got in absurd cc
entries_at-row (r ∷ t) zero row o got =
    let s : r ≡ row = cc in
    rw (ap (λ (q : List ℕ × List model.Entry). same_text row.0 q.0) s ∙ text-refl row.0)
    (ap (λ (q : List ℕ × List model.Entry). Some q.1) s)
entries_at-row (r ∷ t) (suc i) row o got =
    let less : text_cmp r.0 row.0 ≡ Less = all_get (Before r) t i row (pairs_all Before r t o) got in
    rw (apart row.0 r.0 less) (entries_at-row t i row (pairs_rest Before r t o) got)

-- a feature without a row has no place
pub place_of-none : (f : List ℕ) (t : Table) → entries_at f t ≡ None → place_of f t ≡ None
place_of-none f [] e = refl
place_of-none f (row ∷ t) e = by (same_text f row.0) e (λ e. place_of-none f t e)
  where
    by : (b : Bool) → cond b (Some row.1) (entries_at f t) ≡ None → (entries_at f t ≡ None → place_of f t ≡ None)
        → cond b (Some 0) (option_map suc (place_of f t)) ≡ None
    by true e rest = let z : Some row.1 ≡ None = e in absurd cc
    by false e rest = ap (option_map suc) (rest e)

-- a table lacks what has no place in it
pub none-lacking : (f : List ℕ) (t : Table) → is_none (place_of f t) ≡ not (has_feature t f)
none-lacking f [] = refl
none-lacking f (row ∷ t) = by (same_text f row.0) (none-lacking f t)
  where
    later : (o : Option ℕ) → is_none (option_map suc o) ≡ is_none o
    later None = refl
    later (Some i) = refl

    by : (b : Bool) → is_none (place_of f t) ≡ not (has_feature t f)
        → is_none (cond b (Some 0) (option_map suc (place_of f t)))
        ≡ not (is_some (cond b (Some row.1) (entries_at f t)))
    by true e = refl
    by false e = later (place_of f t) ∙ e

pub place_of-within : (f : List ℕ) (t : Table) (i : ℕ) → place_of f t ≡ Some i → i < length t
place_of-within f [] i e = let z : None ≡ Some i = e in absurd cc
place_of-within f (row ∷ t) i e = by (same_text f row.0) e (place_of-within f t)
  where
    later : (o : Option ℕ) → ((j : ℕ) → o ≡ Some j → j < length t) → option_map suc o ≡ Some i → i < suc (length t)
    later None h e = let z : None ≡ Some i = e in absurd cc
    later (Some j) h e = let s : suc j ≡ i = cc in omega (arith, h j refl, s)

    by : (b : Bool) → cond b (Some 0) (option_map suc (place_of f t)) ≡ Some i
        → ((j : ℕ) → place_of f t ≡ Some j → j < length t) → i < suc (length t)
    by true e h = let s : 0 ≡ i = cc in omega (arith, s)
    by false e h = later (place_of f t) h e

-- the row of a feature stands at its place
pub place_held : (es : List Row) (name : List ℕ) (i : ℕ) (r : Option (Bor Row)) (b : Bor Row) → AreRising es
    → IsItemAt es i r → r ≡ Some b → same_text b.now.0 name ≡ true → place_of name (rows_of es) ≡ Some i
place_held es name i r b rising held some same =
    let h : IsItemAt es i (Some b) = subst (IsItemAt es i) some held in
    let got : slice_get (rows_of es) i ≡ Some (seen b.now) = slice_get-map seen es i
    ∙ ap (option_map seen) (slice_get-get_or es i b.now h.3.0 ∙ ap Some (sym (h.3.1 b.now))) in
    subst (λ n. place_of n (rows_of es) ≡ Some i) (text-same b.now.0 name same)
    (place_of-row (rows_of es) i (seen b.now) (rows_in_order es rising) got)

-- ---- what a search finds

place_at : (es : List Row) (name : List ℕ) (i : ℕ) (d : Row) → AreRising es
    → IsBinarySearchResult (λ (e : Row). text_cmp e.0 name) es (Ok i) → i < length es
    → Some i ≡ place_of name (rows_of es)
place_at es name i d rising found inside =
    let y = get_or es i d in
    let got : slice_get (rows_of es) i ≡ Some (seen y)
    = slice_get-map seen es i ∙ ap (option_map seen) (slice_get-get_or es i d inside) in
    subst (λ n. Some i ≡ place_of n (rows_of es)) (exact_bytes y.0 name (found d))
    (sym (place_of-row (rows_of es) i (seen y) (rows_in_order es rising) got))

-- a search among rows that rise finds the place of a feature, or that it has none
pub place_found : (es : List Row) (name : List ℕ) (r : Result ℕ ℕ) → AreRising es
    → IsBinarySearchResult (λ (e : Row). text_cmp e.0 name) es r → IsSearchInRange r (length es)
    → result_ok r ≡ place_of name (rows_of es)
place_found [] name (Ok i) rising found inside = absurd (omega (arith, inside))
place_found (e ∷ es) name (Ok i) rising found inside = place_at (e ∷ es) name i e rising found inside
place_found es name (Err i) rising found inside =
    sym (place_of-none name (rows_of es) (entries_at-rows_of name es
    ∙ ap (option_map (λ v. entry_views v.items)) (sym (row_lacking es name i rising found))))
