-- What a feature table has once it is built.
use Rattle.std.proofs.Common.{◌≡◌, ℕ, List, [], ◌∷◌, get_or, Bool, true, false, not, ◌&&◌, ◌||◌, cond, Contains, Option}
use Rattle.std.proofs.Common.{Some, None, Result, Ok, Err, is_some, Ordering, Less, Equal, Greater, refl, sym, ap}
use Rattle.std.proofs.Common.{map, ◌∙◌, subst, inl, inr, true≢false}
use Rattle.std.specs.BTreeMap.{insert_entry}
use Rattle.std.specs.Cmp.Lexicographic.{nat_list_cmp_total}
use Rattle.std.specs.List.{list_any, All}
use Rattle.std.specs.Ordering.{match_ordering, ordering_reverse}
use Rattle.std.specs.Option.{option_or}
use Rattle.std.proofs.lemmas.Map.Lookups.{exact_bytes}
use Rattle.std.proofs.lemmas.Option.{none-some, same_Some}
use Rattle.model.specs.Summary.{Entry, feature, dependency, Table, entries_at, has_feature, same_text, KnowsFeatures}
use Rattle.model.specs.Order.{text_cmp}
use Rattle.model.specs.Outcome.{◌>>=◌}
use Rattle.model.specs.Tables.{Before, IsInOrder, DepName, Written, default_feature, is_optional, has_dep_entry}
use Rattle.model.specs.Tables.{is_implicit, implicit_entries, is_feature, entries_meant, with_row, with_implicit}
use Rattle.model.specs.Tables.{with_default, completed, no_such_feature, no_such_dependency, not_optional, has_fault}
use Rattle.model.specs.Tables.{first_with, fault_at, table_of}
use Rattle.model.proofs.Same.{both, text-same}
use Rattle.std.proofs.lemmas.List.Kept.{AllPairs-cons}
use Rattle.std.proofs.lemmas.Bool.{not-false, not-true}
use Rattle.model.proofs.Lists.{in_none, in_cons, any_of, to_any, all_first, all_rest, all_cons, pairs_one, pairs_rest}
use Rattle.model.proofs.Lists.{pairs_all}
use Rattle.model.proofs.Contents.{text-equal}

-- a table with a row has that row, and at each other feature what it had
pub entries_at-with_row : (f k : List ℕ) (es : List Entry) (table : Table)
    → entries_at f (with_row table k es) ≡ cond (same_text f k) (Some es) (entries_at f table)
entries_at-with_row f k es [] = refl
entries_at-with_row f k es (row ∷ rows) = by (text_cmp k row.0) refl (entries_at-with_row f k es rows)
  where
    by : (o : Ordering) → text_cmp k row.0 ≡ o
        → entries_at f (with_row rows k es) ≡ cond (same_text f k) (Some es) (entries_at f rows)
        → entries_at f (match_ordering o ((k, es) ∷ row ∷ rows) ((row.0, es) ∷ rows) (row ∷ with_row rows k es))
        ≡ cond (same_text f k) (Some es) (cond (same_text f row.0) (Some row.1) (entries_at f rows))
    by Less e rest = refl
    by Equal e rest =
        let same : k ≡ row.0 = exact_bytes k row.0 e in
        subst (λ x. cond (same_text f row.0) (Some es) (entries_at f rows)
        ≡ cond (same_text f x) (Some es) (cond (same_text f row.0) (Some row.1) (entries_at f rows))) (sym same)
        (elim (same_text f row.0) as (λ b. cond b (Some es) (entries_at f rows)
        ≡ cond b (Some es) (cond b (Some row.1) (entries_at f rows))) [ true ↦ refl | false ↦ refl ])
    by Greater e rest =
        ap (λ o. cond (same_text f row.0) (Some row.1) o) rest ∙ apart (same_text f k) (same_text f row.0) refl refl
      where
        apart : (a b : Bool) → same_text f k ≡ a → same_text f row.0 ≡ b
            → cond b (Some row.1) (cond a (Some es) (entries_at f rows))
            ≡ cond a (Some es) (cond b (Some row.1) (entries_at f rows))
        apart true true x y =
            let z : Equal ≡ Greater = sym (text-equal k row.0 (sym (text-same f k x) ∙ text-same f row.0 y)) ∙ e in cc
        apart true false x y = refl
        apart false true x y = refl
        apart false false x y = refl

-- rows with other values, each seen by view
module _ {X Y : Type 0} (view : X → Y) where
  abbrev pub seen : List (List ℕ × X) → List (List ℕ × Y)
  seen rows = map (λ (row : List ℕ × X). (row.0, view row.1)) rows

  pub seen-insert_entry : (rows : List (List ℕ × X)) (f : List ℕ) (x : X)
      → seen (insert_entry text_cmp rows f x) ≡ insert_entry text_cmp (seen rows) f (view x)
  seen-insert_entry [] f x = refl
  seen-insert_entry (row ∷ rows) f x = by (text_cmp f row.0) (seen-insert_entry rows f x)
    where
      by : (o : Ordering) → seen (insert_entry text_cmp rows f x) ≡ insert_entry text_cmp (seen rows) f (view x)
          → seen (match_ordering o ((f, x) ∷ row ∷ rows) ((row.0, x) ∷ rows) (row ∷ insert_entry text_cmp rows f x))
          ≡ match_ordering o ((f, view x) ∷ seen (row ∷ rows)) ((row.0, view x) ∷ seen rows)
          ((row.0, view row.1) ∷ insert_entry text_cmp (seen rows) f (view x))
      by Less e = refl
      by Equal e = refl
      by Greater e = ap (λ rs. (row.0, view row.1) ∷ rs) e

module _ (implicit : List ℕ → Bool) (f : List ℕ) where
  abbrev called : List DepName → Bool
  called ds = list_any (λ e. same_text f e.name) ds

  one_more : (i j s a : Bool) (x y t : Option (List Entry)) → (s ≡ true → (i ≡ j) × (x ≡ y))
      → cond (i && a) x (cond j (cond s y t) t) ≡ cond (i && (s || a)) x t
  one_more i j true a x y t h =
      let e = h refl in
      subst (λ z. cond (i && a) x (cond j z t) ≡ cond (i && true) x t) e.1
      (subst (λ k. cond (i && a) x (cond k x t) ≡ cond (i && true) x t) e.0 (at i a))
    where
      at : (i a : Bool) → cond (i && a) x (cond i x t) ≡ cond (i && true) x t
      at true true = refl
      at true false = refl
      at false a = refl
  one_more i true false a x y t h = refl
  one_more i false false a x y t h = refl

  pub entries_at-with_implicit : (ds : List DepName) (table : Table)
      → entries_at f (with_implicit implicit ds table)
      ≡ cond (implicit f && called ds) (Some (implicit_entries f)) (entries_at f table)
  unfolding with_implicit
  entries_at-with_implicit [] table = elim (implicit f) as (λ b. entries_at f table
      ≡ cond (b && false) (Some (implicit_entries f)) (entries_at f table)) [ true ↦ refl | false ↦ refl ]
  entries_at-with_implicit (d ∷ ds) table =
      entries_at-with_implicit ds (cond (implicit d.name) (with_row table d.name (implicit_entries d.name)) table)
      ∙ ap (λ o. cond (implicit f && called ds) (Some (implicit_entries f)) o) (there (implicit d.name))
      ∙ one_more (implicit f) (implicit d.name) (same_text f d.name) (called ds) (Some (implicit_entries f))
      (Some (implicit_entries d.name)) (entries_at f table)
      (λ s. let e = text-same f d.name s in (ap implicit e, ap (λ n. Some (implicit_entries n)) e))
    where
      there : (j : Bool) → entries_at f (cond j (with_row table d.name (implicit_entries d.name)) table)
          ≡ cond j
          (cond (same_text f d.name) (Some (implicit_entries d.name)) (entries_at f table)) (entries_at f table)
      there true = entries_at-with_row f d.name (implicit_entries d.name) table
      there false = refl

or_none : {X : Type 0} (o : Option X) → option_or o None ≡ o
or_none None = refl
or_none (Some x) = refl

not_some : {X : Type 0} (o : Option X) → is_some o ≡ false → o ≡ None
not_some None h = refl
not_some (Some x) h = absurd (true≢false h)

entries_at-with_default : (f : List ℕ) (table : Table) → entries_at f (with_default table)
    ≡ option_or (entries_at f table) (cond (same_text f default_feature) (Some []) None)
entries_at-with_default f table = by (has_feature table default_feature) (same_text f default_feature) refl refl
  where
    by : (h s : Bool) → has_feature table default_feature ≡ h → same_text f default_feature ≡ s
        → entries_at f (cond h table (with_row table default_feature []))
        ≡ option_or (entries_at f table) (cond s (Some []) None)
    by true true x y =
        there (entries_at f table) (ap (λ n. is_some (entries_at n table)) (text-same f default_feature y) ∙ x)
      where
        there : (o : Option (List Entry)) → is_some o ≡ true → o ≡ option_or o (Some [])
        there None h = absurd (true≢false (sym h))
        there (Some es) h = refl
    by true false x y = sym (or_none (entries_at f table))
    by false true x y =
        let none : entries_at f table ≡ None = ap (λ n. entries_at n table) (text-same f default_feature y)
        ∙ not_some (entries_at default_feature table) x in
        entries_at-with_row f default_feature [] table ∙ ap (λ b. cond b (Some []) (entries_at f table)) y
        ∙ sym (ap (λ o. option_or o (Some [])) none)
    by false false x y = entries_at-with_row f default_feature [] table
        ∙ ap (λ b. cond b (Some []) (entries_at f table)) y ∙ sym (or_none (entries_at f table))

ok_inner : {X E : Type 0} (x y : X) → (let r : Result X E = Ok x in r) ≡ Ok y → x ≡ y
ok_inner x y e = cc

err_ok : {X E : Type 0} (f : E) (y : X) → (let r : Result X E = Err f in r) ≡ Ok y → ⊥
err_ok f y e = cc

-- an optional name is that of a dependency
optional-called : (ds : List DepName) (f : List ℕ) → is_optional ds f ≡ true
    → list_any (λ e. same_text f e.name) ds ≡ true
optional-called ds f h =
    let r = any_of (λ (e : DepName). same_text f e.name && e.optional) ds h in
    to_any (λ (e : DepName). same_text f e.name) ds r.0 r.1 (both (same_text f (r.0).name) (r.0).optional r.2).0

module _ (ds : List DepName) (written : Written) where
  -- an implicit feature is the name of a dependency, and isn't written
  implicit-parts : (f : List ℕ) → is_implicit ds written f ≡ true
      → (list_any (λ e. same_text f e.name) ds ≡ true) × (entries_at f written ≡ None)
  implicit-parts f h =
      let a = both (is_optional ds f) (not (has_dep_entry written f) && not (has_feature written f)) h in
      let b = both (not (has_dep_entry written f)) (not (has_feature written f)) a.1 in
      (optional-called ds f a.0, not_some (entries_at f written) (not-true (has_feature written f) b.1))

  -- each feature of a completed table, and what it has
  pub entries_at-completed : (f : List ℕ) → entries_at f (completed ds written) ≡ entries_meant ds written f
  entries_at-completed f =
      entries_at-with_default f (with_implicit (is_implicit ds written) ds written)
      ∙ ap (λ o. option_or o (cond (same_text f default_feature) (Some []) None))
      (entries_at-with_implicit (is_implicit ds written) f ds written)
      ∙ by (is_implicit ds written f) (cond (same_text f default_feature) (Some []) None) refl
    where
      by : (b : Bool) (o : Option (List Entry)) → is_implicit ds written f ≡ b
          → option_or (cond (b && list_any (λ e. same_text f e.name) ds) (Some (implicit_entries f))
          (entries_at f written)) o
          ≡ option_or (entries_at f written) (cond b (Some (implicit_entries f)) o)
      by true o h = let p = implicit-parts f h in
          ap (λ c. option_or (cond c (Some (implicit_entries f)) (entries_at f written)) o) p.0
          ∙ sym (ap (λ x. option_or x (Some (implicit_entries f))) p.1)
      by false o h = refl

  -- a built table is the completed one, and no entry has a fault
  pub record IsBuilt (table : Table) : Type 0 where
    pub is_completed : completed ds written ≡ table
    pub features : first_with (has_fault ds written no_such_feature) written ≡ None
    pub dependencies : first_with (has_fault ds written no_such_dependency) written ≡ None
    pub optional : first_with (has_fault ds written not_optional) written ≡ None

  pub built : (table : Table) → table_of ds written ≡ Ok table → IsBuilt table
  unfolding table_of
  built table h = by (first_with (has_fault ds written no_such_feature) written)
      (first_with (has_fault ds written no_such_dependency) written)
      (first_with (has_fault ds written not_optional) written) refl refl refl h
    where
      by : (a b c : Option (List ℕ)) → first_with (has_fault ds written no_such_feature) written ≡ a
          → first_with (has_fault ds written no_such_dependency) written ≡ b
          → first_with (has_fault ds written not_optional) written ≡ c
          → (fault_at no_such_feature a >>= λ x. fault_at no_such_dependency b >>= λ y. fault_at not_optional c >>= λ z.
          Ok (completed ds written)) ≡ Ok table
          → IsBuilt table
      by None None None x y z e = record {
        is_completed = ok_inner (completed ds written) table e;
        features =
            x;
        dependencies = y;
        optional = z;
      }
      by None None (Some f) x y z e = absurd (err_ok (not_optional, f) table e)
      by None (Some f) c x y z e = absurd (err_ok (no_such_dependency, f) table e)
      by (Some f) b c x y z e = absurd (err_ok (no_such_feature, f) table e)

  -- a completed table has the features that it is to have
  has_feature-completed : (g : List ℕ) → has_feature (completed ds written) g ≡ is_feature ds written g
  has_feature-completed g = ap is_some (entries_at-completed g)
      ∙ by (entries_at g written) (is_implicit ds written g) (same_text g default_feature)
    where
      by : (o : Option (List Entry)) (i s : Bool)
          → is_some (option_or o (cond i (Some (implicit_entries g)) (cond s (Some []) None))) ≡ (is_some o || (i || s))
      by (Some es) i s = refl
      by None true s = refl
      by None false true = refl
      by None false false = refl

-- where no feature has an entry that passes the test, an entry of a feature doesn't
no_entry : (test : Entry → Bool) (rows : Written) (f : List ℕ) (es : List Entry) (e : Entry)
    → first_with test rows ≡ None → entries_at f rows ≡ Some es → Contains es e → test e ≡ false
unfolding first_with
no_entry test [] f es e h at_f c = absurd (none-some es at_f)
no_entry test (row ∷ rows) f es e h at_f c =
    by (list_any test row.1) (same_text f row.0) refl h at_f (λ h at_f. no_entry test rows f es e h at_f c)
  where
    untrue : (b : Bool) → test e ≡ b → list_any test row.1 ≡ false → row.1 ≡ es → b ≡ false
    untrue true t none same = sym (to_any test row.1 e (subst (λ xs. Contains xs e) (sym same) c) t) ∙ none
    untrue false t none same = refl

    by : (a b : Bool) → list_any test row.1 ≡ a → cond a (Some row.0) (first_with test rows) ≡ None
        → cond b (Some row.1) (entries_at f rows) ≡ Some es
        → (first_with test rows ≡ None → entries_at f rows ≡ Some es → test e ≡ false) → test e ≡ false
    by true b any h at_f rest = absurd (none-some row.0 (sym h))
    by false true any h at_f rest = untrue (test e) refl any (same_Some row.1 es at_f)
    by false false any h at_f rest = rest h at_f

-- an entry `g` of a built table names one of its features
pub built-knows : (ds : List DepName) (written : Written) (table : Table)
    → table_of ds written ≡ Ok table → KnowsFeatures table
built-knows ds written table h f g es at_f c =
    let b = built ds written table h in
    let meant : entries_meant ds written f ≡ Some es =
    sym (entries_at-completed ds written f) ∙ ap (entries_at f) b.is_completed ∙ at_f in
    ap (λ t. has_feature t g) (sym b.is_completed) ∙ has_feature-completed ds written g
    ∙ by (entries_at f written) (is_implicit ds written f) (same_text f default_feature) refl meant b.features
  where
    by : (o : Option (List Entry)) (i s : Bool) → entries_at f written ≡ o
        → option_or o (cond i (Some (implicit_entries f)) (cond s (Some []) None)) ≡ Some es
        → first_with (has_fault ds written no_such_feature) written ≡ None → is_feature ds written g ≡ true
    by (Some xs) i s x e none = not-false (is_feature ds written g)
        (no_entry (has_fault ds written no_such_feature) written f es (feature g) none (x ∙ e) c)
    by None true s x e none = elim (in_cons (dependency f) (feature g) []
        (subst (λ xs. Contains xs (feature g)) (sym (same_Some (implicit_entries f) es e)) c)) [
          | inl same ↦ (let z : dependency f ≡ feature g = same in cc)
          | inr c ↦ absurd (in_none (feature g) c)
        ]
    by None false true x e none =
        absurd (in_none (feature g) (subst (λ xs. Contains xs (feature g)) (sym (same_Some [] es e)) c))
    by None false false x e none = absurd (none-some es e)

-- rows by the bytes of their features
module _ (k : List ℕ) (es : List Entry) where
  all-with_row : (P : List ℕ → Type 0) (rows : Table) → All (λ row. P row.0) rows → P k
      → All (λ row. P row.0) (with_row rows k es)
  all-with_row P [] h p = all_cons (λ row. P row.0) (k, es) [] p h
  all-with_row P (row ∷ rows) h p = by (text_cmp k row.0) (all-with_row P rows (all_rest (λ row. P row.0) row rows h) p)
    where
      by : (o : Ordering) → All (λ row. P row.0) (with_row rows k es)
          → All (λ row. P row.0)
          (match_ordering o ((k, es) ∷ row ∷ rows) ((row.0, es) ∷ rows) (row ∷ with_row rows k es))
      by Less rest = all_cons (λ row. P row.0) (k, es) (row ∷ rows) p h
      by Equal rest = all_cons (λ row. P row.0) (row.0, es) rows (all_first (λ row. P row.0) row rows h)
          (all_rest (λ row. P row.0) row rows h)
      by Greater rest = all_cons (λ row. P row.0) row (with_row rows k es) (all_first (λ row. P row.0) row rows h) rest

  ordered-with_row : (rows : Table) → IsInOrder rows → IsInOrder (with_row rows k es)
  ordered-with_row [] h = pairs_one Before (k, es)
  ordered-with_row (row ∷ rows) h = by (text_cmp k row.0) refl (ordered-with_row rows (pairs_rest Before row rows h))
    where
      after : All (λ r. text_cmp row.0 r.0 ≡ Less) rows
      after = pairs_all Before row rows h

      by : (o : Ordering) → text_cmp k row.0 ≡ o → IsInOrder (with_row rows k es)
          → IsInOrder (match_ordering o ((k, es) ∷ row ∷ rows) ((row.0, es) ∷ rows) (row ∷ with_row rows k es))
      by Less e rest = AllPairs-cons Before (k, es) (row ∷ rows)
          (all_cons (Before (k, es)) row rows e
          (λ i d lt. nat_list_cmp_total.trans k row.0 (get_or rows i d).0 e (after i d lt))) h
      by Equal e rest = AllPairs-cons Before (row.0, es) rows after (pairs_rest Before row rows h)
      by Greater e rest = AllPairs-cons Before row (with_row rows k es)
          (all-with_row (λ f. text_cmp row.0 f ≡ Less) rows after
          (nat_list_cmp_total.antisymm row.0 k ∙ ap ordering_reverse e)) rest

ordered-with_implicit : (implicit : List ℕ → Bool) (ds : List DepName) (table : Table) → IsInOrder table
    → IsInOrder (with_implicit implicit ds table)
unfolding with_implicit
ordered-with_implicit implicit [] table h = h
ordered-with_implicit implicit (d ∷ ds) table h =
    ordered-with_implicit implicit ds (cond (implicit d.name) (with_row table d.name (implicit_entries d.name)) table)
    (elim (implicit d.name) as (λ b. IsInOrder (cond b (with_row table d.name (implicit_entries d.name)) table))
    [ true ↦ ordered-with_row d.name (implicit_entries d.name) table h | false ↦ h ])

-- where what is written is in the order of the features, so is the table
pub built-in_order : (ds : List DepName) (written : Written) (table : Table) → IsInOrder written
    → table_of ds written ≡ Ok table → IsInOrder table
built-in_order ds written table h e =
    let t = with_implicit (is_implicit ds written) ds written in
    let ordered : IsInOrder t = ordered-with_implicit (is_implicit ds written) ds written h in
    subst IsInOrder (built ds written table e).is_completed
    (elim (has_feature t default_feature) as (λ b. IsInOrder (cond b t (with_row t default_feature [])))
    [ true ↦ ordered | false ↦ ordered-with_row default_feature [] t ordered ])

-- a built table has what it is to have
pub built-entries : (ds : List DepName) (written : Written) (table : Table) (f : List ℕ)
    → table_of ds written ≡ Ok table → entries_at f table ≡ entries_meant ds written f
built-entries ds written table f e =
    ap (entries_at f) (sym (built ds written table e).is_completed) ∙ entries_at-completed ds written f
