-- Features whose names rise are joined one behind another.
use Rattle.std.proofs.Common.{◌≡◌, ℕ, List, [], ◌∷◌, ◌++◌, Bool, true, false, cond, ◌&&◌, Some, None, Ok, Err, Vec}
use Rattle.std.proofs.Common.{Result, Ordering, Less, Equal, Greater, IfOk, refl, sym, ap, ◌∙◌, subst}
use Rattle.std.proofs.lemmas.List.{append-nil}
use Rattle.std.specs.Cmp.Lexicographic.{nat_list_cmp_total, texts_ties}
use Rattle.std.specs.List.{AllByRecursion}
use Rattle.std.specs.List.Sorted.{IsStrictlySortedBy}
use Rattle.std.specs.Map.{keys_of}
use Rattle.std.specs.Ordering.{is_eq, is_lt, match_ordering}
use Rattle.std.specs.declared.alloc.Global.{Global}
use Rattle.model.specs.Outcome.{◌>>=◌, Gives}
use Rattle.model.specs.Order.{text_cmp}
use Rattle.model.specs.Summary as model
use Rattle.model.specs.Summary.{entries_at}
use Rattle.model.specs.Tables.{Written, with_row}
use Rattle.features.specs.Names.{is_feature_name}
use Rattle.features.specs.inner.Tables.{AreRising, rows_of}
use Rattle.features.specs.declared.entry.Entry.{Entry}
use Rattle.features.proofs.RowLemmas.{after, all_after}
use Rattle.index_lines.specs.Shapes.{Line, FeatureView, wants_memory}
use Rattle.index_lines.specs.declared.fault.LineFault.{LineFault}
use Rattle.index_lines.specs.declared.fault.LineFault.TheVariants.{Skipped}
use Rattle.index_lines.specs.declared.fault.SkipReason.TheVariants.{BadFeatures}
use Rattle.index_lines.specs.Records.{entries_read, feature_read, features_read, joined, names_rise, with_features}
use Rattle.index_lines.specs.Records.{with_more}
use Rattle.model.proofs.Fronts.{with_front, with_front-next}

-- ---- a row behind others

-- each of the rows comes before that name
abbrev AllBefore : List ℕ → Written → Type 0
AllBefore name rows = AllByRecursion (λ key. text_cmp key name ≡ Less) (keys_of rows)

-- so do they and a row before it
before-last : (name : List ℕ) (row : List ℕ × List model.Entry) (rows : Written) → text_cmp row.0 name ≡ Less
    → AllBefore row.0 rows → AllBefore name (rows ++ row ∷ [])
before-last name row [] less before = (less, tt)
before-last name row (r ∷ rows) less (first, rest) =
    (nat_list_cmp_total.trans r.0 row.0 name first less, before-last name row rows less rest)

absent : (name : List ℕ) (rows : Written) → AllBefore name rows → entries_at name rows ≡ None
absent name [] before = refl
absent name (row ∷ rows) (first, rest) =
    ap (λ b. cond b (Some row.1) (entries_at name rows))
    (texts_ties name row.0 ∙ ap is_eq (after name row.0 first)) ∙ absent name rows rest

put-last : (name : List ℕ) (es : List model.Entry) (rows : Written) → AllBefore name rows
    → with_row rows name es ≡ rows ++ (name, es) ∷ []
put-last name es [] before = refl
put-last name es (row ∷ rows) (first, rest) =
    ap (λ o. match_ordering o ((name, es) ∷ row ∷ rows) ((row.0, es) ∷ rows) (row ∷ with_row rows name es))
    (after name row.0 first)
    ∙ ap (λ others. row ∷ others) (put-last name es rows rest)

joined-last : (row : List ℕ × List model.Entry) (rows : Written) → AllBefore row.0 rows
    → joined rows row ≡ rows ++ row ∷ []
joined-last row rows before =
    ap (λ o. with_more o rows row.0 row.1) (absent row.0 rows before) ∙ put-last row.0 row.1 rows before

-- ---- rows of rising names

is-less : (o : Ordering) → is_lt o ≡ true → o ≡ Less
is-less Less h = refl
is-less Equal h = cc
is-less Greater h = cc

and-first : (a b : Bool) → (a && b) ≡ true → a ≡ true
and-first true b h = refl
and-first false b h = h

and-second : (a b : Bool) → (a && b) ≡ true → b ≡ true
and-second true b h = h
and-second false b h = cc

pub named : (f : FeatureView) (row : List ℕ × List model.Entry) → feature_read f ≡ Ok row → f.name ≡ row.0
unfolding feature_read
named f row read = by (is_feature_name f.name) (entries_read f.entries) read
  where
    by : (b : Bool) (r : Line (List model.Entry))
        → (cond b (Ok f.name) (Err (Skipped BadFeatures)) >>= λ name. r >>= λ entries. Ok (name, entries))
        ≡ Ok row → f.name ≡ row.0
    by true (Ok es) h = cc
    by true (Err e) h = cc
    by false r h = cc

front-none : {A : Type 0} (r : Line (List A)) → with_front [] r ≡ r
front-none (Ok xs) = refl
front-none (Err e) = refl

-- the row that is read first comes after that name, and the others after it
rises-to : (name : List ℕ) (f : FeatureView) (row : List ℕ × List model.Entry) (fs : List FeatureView)
    → feature_read f ≡ Ok row → names_rise name (f ∷ fs) ≡ true
    → (text_cmp name row.0 ≡ Less) × (names_rise row.0 fs ≡ true)
rises-to name f row fs read rise =
    let same : f.name ≡ row.0 = named f row read in (
      ap (text_cmp name) (sym same)
          ∙ is-less (text_cmp name f.name) (and-first (is_lt (text_cmp name f.name)) (names_rise f.name fs) rise),
      ap (λ n. names_rise n fs) (sym same) ∙ and-second (is_lt (text_cmp name f.name)) (names_rise f.name fs) rise,
    )

-- features whose names rise after those of the rows are put behind them
rising-behind : (rows : Written) (name : List ℕ) (fs : List FeatureView)
    → ((next : List ℕ) → text_cmp name next ≡ Less → AllBefore next rows) → names_rise name fs ≡ true
    → with_features rows fs ≡ with_front rows (features_read fs)
unfolding with_features features_read
rising-behind rows name [] before rise = ap Ok (sym (append-nil rows))
rising-behind rows name (f ∷ fs) before rise =
    by (λ rows name before rise. rising-behind rows name fs before rise) (feature_read f) refl
  where
    by : ((rows : Written) (name : List ℕ) → ((next : List ℕ) → text_cmp name next ≡ Less → AllBefore next rows)
        → names_rise name fs ≡ true → with_features rows fs ≡ with_front rows (features_read fs))
        → (r : Line (List ℕ × List model.Entry)) → feature_read f ≡ r
        → ((r >>= λ row. Ok (joined rows row)) >>= λ next. with_features next fs)
        ≡ with_front rows (r >>= λ first. features_read fs >>= λ others. Ok (first ∷ others))
    by others (Err e) is = refl
    by others (Ok row) is =
        let rises = rises-to name f row fs is rise in
        ap (λ next. with_features next fs) (joined-last row rows (before row.0 rises.0))
        ∙ others (rows ++ row ∷ []) row.0 (λ next h. before-last next row rows h (before row.0 rises.0)) rises.1
        ∙ with_front-next rows row (features_read fs) _ refl

-- features whose names rise are the rows that are read
pub all-rising : (fs : List FeatureView) → names_rise [] fs ≡ true → with_features [] fs ≡ features_read fs
all-rising fs rise = rising-behind [] [] fs (λ next less. tt) rise ∙ front-none (features_read fs)

-- ---- the rows that are read

sorted-read : (name : List ℕ) (fs : List FeatureView) (rows : Written) → names_rise name fs ≡ true
    → features_read fs ≡ Ok rows → IsStrictlySortedBy text_cmp (name ∷ keys_of rows)
unfolding features_read IsStrictlySortedBy
sorted-read name [] rows rise read =
    let whole : [] ≡ rows = cc in
    subst (λ rows. IsStrictlySortedBy text_cmp (name ∷ keys_of rows)) whole (tt, tt)
sorted-read name (f ∷ fs) rows rise read = by (λ row others rise read. sorted-read row fs others rise read)
    (feature_read f) refl (features_read fs) refl rows read
  where
    by : ((row : List ℕ) (others : Written) → names_rise row fs ≡ true → features_read fs ≡ Ok others
        → IsStrictlySortedBy text_cmp (row ∷ keys_of others))
        → (r : Line (List ℕ × List model.Entry)) → feature_read f ≡ r → (s : Line Written)
        → features_read fs ≡ s → (rows : Written)
        → (r >>= λ first. s >>= λ others. Ok (first ∷ others)) ≡ Ok rows
        → IsStrictlySortedBy text_cmp (name ∷ keys_of rows)
    by later (Err e) is s next rows h = cc
    by later (Ok row) is (Err e) next rows h = cc
    by later (Ok row) is (Ok others) next rows h =
        let rises = rises-to name f row fs is rise in
        let sorted = later row.0 others rises.1 next in
        let whole : row ∷ others ≡ rows = cc in
        subst (λ rows. IsStrictlySortedBy text_cmp (name ∷ keys_of rows)) whole
        ((rises.0, all_after name row.0 (keys_of others) rises.0 sorted.0), sorted)

keys-rows : (es : List (List ℕ × Vec Entry Global)) → keys_of (rows_of es) ≡ keys_of es
keys-rows [] = refl
keys-rows (e ∷ es) = ap (λ keys. e.0 ∷ keys) (keys-rows es)

tail-sorted : (key : List ℕ) (keys : List (List ℕ)) → IsStrictlySortedBy text_cmp (key ∷ keys)
    → IsStrictlySortedBy text_cmp keys
unfolding IsStrictlySortedBy
tail-sorted key keys s = s.1

-- the rows of features whose names rise do too
pub rows-rise : (fs : List FeatureView) (es : List (List ℕ × Vec Entry Global)) → names_rise [] fs ≡ true
    → features_read fs ≡ Ok (rows_of es) → AreRising es
rows-rise fs es rise read =
    subst (IsStrictlySortedBy text_cmp) (keys-rows es)
    (tail-sorted [] (keys_of (rows_of es)) (sorted-read [] fs (rows_of es) rise read))

pub read-rise : (fs : List FeatureView) (r : Result (Vec (List ℕ × Vec Entry Global) Global) LineFault)
    → names_rise [] fs ≡ true → Gives wants_memory (λ v. rows_of v.items) r (features_read fs)
    → IfOk r (λ v. AreRising v.items)
read-rise fs (Ok v) rise read = rows-rise fs v.items rise read
read-rise fs (Err e) rise read = tt
