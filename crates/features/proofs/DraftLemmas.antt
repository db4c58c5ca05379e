-- Texts in a set, and what a loop has put there so far.
use Rattle.std.proofs.Common.{◌≡◌, ℕ, List, [], ◌∷◌, ◌++◌, Bool, true, false, ◌||◌, cond, Some, None, Vec}
use Rattle.std.proofs.Common.{zero, suc, ◌+◌, ◌<◌, length, get_or, take, drop, not, ◌&&◌, Ok, arith}
use Rattle.std.proofs.Common.{Ordering, Less, Equal, Greater, refl, sym, ap, ap₂, ◌∙◌, subst}
use Rattle.std.specs.Borrow.{Bor}
use Rattle.std.specs.BTreeMap.{is_at}
use Rattle.std.specs.BTreeSet.{insert_key}
use Rattle.std.specs.Ordering.{nat_cmp, match_ordering}
use Rattle.std.specs.Cmp.Lexicographic.{slice_cmp, texts_ties}
use Rattle.std.specs.List.{list_all, list_any}
use Rattle.std.proofs.lemmas.List.{drop_more}
use Rattle.std.proofs.lemmas.List.Folds.{list_any-append}
use Rattle.std.proofs.lemmas.Map.Lookups.{exact_bytes}
use Rattle.std.proofs.Math.Bool.{or-false, or_comm}
use Rattle.std.specs.declared.alloc.Global.{Global}
use Rattle.model.specs.Summary.{Table, same_text}
use Rattle.model.specs.Summary as model
use Rattle.model.specs.Tables.{DepName, TableFault, first_with, has_dep_entry, has_dependency, has_fault, is_dep}
use Rattle.model.specs.Tables.{is_optional, no_such_feature, no_such_dependency, not_optional}
use Rattle.model.proofs.Same.{both}
use Rattle.features.specs.inner.Drafts.{faultless, is_well}
use Rattle.features.specs.inner.Texts.{has_text, borrowed_cmp}
use Rattle.features.specs.EntryViews.{entry_view, entry_views}
use Rattle.features.specs.inner.Tables.{rows_of}
use Rattle.features.specs.declared.entry.Entry.{Entry}

pub contains-has : (d : List ℕ) (ks : List (Bor (List ℕ)))
    → list_any (is_at (λ k. slice_cmp nat_cmp d k.now)) ks ≡ has_text ks d
contains-has d [] = refl
contains-has d (k ∷ ks) = ap₂ (λ a b. a || b) (sym (texts_ties d k.now)) (contains-has d ks)

or_twice : (a b : Bool) → (a || b) ≡ ((a || b) || a)
or_twice true b = refl
or_twice false true = refl
or_twice false false = refl

or_assoc : (a b c : Bool) → (a || (b || c)) ≡ ((a || b) || c)
or_assoc true b c = refl
or_assoc false b c = refl

pub has_text-insert_key : (d : List ℕ) (k : Bor (List ℕ)) (ks : List (Bor (List ℕ)))
    → has_text (insert_key borrowed_cmp ks k) d ≡ (has_text ks d || same_text d k.now)
has_text-insert_key d k [] = or_comm (same_text d k.now) false
has_text-insert_key d k (x ∷ xs) = by (borrowed_cmp k x) refl (has_text-insert_key d k xs)
  where
    by : (o : Ordering) → borrowed_cmp k x ≡ o
        → has_text (insert_key borrowed_cmp xs k) d ≡ (has_text xs d || same_text d k.now)
        → has_text (match_ordering o (k ∷ x ∷ xs) (x ∷ xs) (x ∷ insert_key borrowed_cmp xs k)) d
        ≡ (has_text (x ∷ xs) d || same_text d k.now)
    by Less e rest = or_comm (same_text d k.now) (has_text (x ∷ xs) d)
    by Equal e rest = subst (λ n. has_text (x ∷ xs) d ≡ (has_text (x ∷ xs) d || same_text d n))
        (sym (exact_bytes k.now x.now e)) (or_twice (same_text d x.now) (has_text xs d))
    by Greater e rest =
        ap (λ b. same_text d x.now || b) rest ∙ or_assoc (same_text d x.now) (has_text xs d) (same_text d k.now)

-- a text that isn't among the first is looked up among the others
pub has_text-others : (d : List ℕ) (few more : List (Bor (List ℕ))) → has_text few d ≡ false
    → has_text more d ≡ has_text (few ++ more) d
has_text-others d few more none =
    sym (list_any-append (λ k. same_text d k.now) few more ∙ ap (λ b. b || has_text more d) none)

-- a text is put to the others
pub has_text-put : (d : List ℕ) (k : Bor (List ℕ)) (few more new : List (Bor (List ℕ)))
    → new ≡ insert_key borrowed_cmp more k
    → has_text (few ++ new) d ≡ (has_text (few ++ more) d || same_text d k.now)
has_text-put d k few more new put =
    list_any-append (λ k. same_text d k.now) few new
    ∙ ap (λ b. has_text few d || b) (ap (λ ks. has_text ks d) put ∙ has_text-insert_key d k more)
    ∙ or_assoc (has_text few d) (has_text more d) (same_text d k.now)
    ∙ ap (λ b. b || same_text d k.now) (sym (list_any-append (λ k. same_text d k.now) few more))

any-views : (test : model.Entry → Bool) (es : List Entry)
    → list_any test (entry_views es) ≡ list_any (λ e. test (entry_view e)) es
any-views test [] = refl
any-views test (e ∷ es) = ap (λ b. test (entry_view e) || b) (any-views test es)

-- the first feature with an entry that passes is the first row's, or one after it
module _ (test : model.Entry → Bool) (e : List ℕ × Vec Entry Global) (es : List (List ℕ × Vec Entry Global)) where
  first_with-row : first_with test (rows_of (e ∷ es))
      ≡ cond (list_any (λ entry. test (entry_view entry)) e.1.items) (Some e.0) (first_with test (rows_of es))
  unfolding first_with
  first_with-row = ap (λ b. cond b (Some e.0) (first_with test (rows_of es))) (any-views test e.1.items)

  pub first_with-here : list_any (λ entry. test (entry_view entry)) e.1.items ≡ true
      → Some e.0 ≡ first_with test (rows_of (e ∷ es))
  first_with-here h = sym (first_with-row ∙ ap (λ b. cond b (Some e.0) (first_with test (rows_of es))) h)

  pub first_with-later : list_any (λ entry. test (entry_view entry)) e.1.items ≡ false
      → first_with test (rows_of es) ≡ first_with test (rows_of (e ∷ es))
  first_with-later h = sym (first_with-row ∙ ap (λ b. cond b (Some e.0) (first_with test (rows_of es))) h)

pub first_with-none : (test : model.Entry → Bool) → None ≡ first_with test (rows_of [])
unfolding first_with
first_with-none test = refl

-- the first among the rows from a place on is the one of the row there, or one after it
module _ (test : model.Entry → Bool) (es : List (List ℕ × Vec Entry Global)) (i : ℕ)
    (row : List ℕ × Vec Entry Global) (inside : i < length es) (is : row ≡ get_or es i row) where
  from-row : drop i es ≡ row ∷ drop (i + 1) es
  from-row = drop_more es i row inside ∙ ap (λ r. r ∷ drop (i + 1) es) (sym is)

  pub first_with-at : list_any (λ entry. test (entry_view entry)) row.1.items ≡ true
      → Some row.0 ≡ first_with test (rows_of (drop i es))
  first_with-at h = first_with-here test row (drop (i + 1) es) h
      ∙ ap (λ rows. first_with test (rows_of rows)) (sym from-row)

  pub first_with-beyond : list_any (λ entry. test (entry_view entry)) row.1.items ≡ false
      → first_with test (rows_of (drop (i + 1) es)) ≡ first_with test (rows_of (drop i es))
  first_with-beyond h = first_with-later test row (drop (i + 1) es) h
      ∙ ap (λ rows. first_with test (rows_of rows)) (sym from-row)

dep_entry-next : (d : List ℕ) (es : List (List ℕ × Vec Entry Global)) (i : ℕ) (row : List ℕ × Vec Entry Global)
    → i < length es → has_dep_entry (rows_of (take (suc i) es)) d
    ≡ (has_dep_entry (rows_of (take i es)) d || list_any (is_dep d) (entry_views (get_or es i row).1.items))
dep_entry-next d [] i row inside = absurd (omega arith)
dep_entry-next d (e ∷ es) zero row inside = or-false (list_any (is_dep d) (entry_views e.1.items))
dep_entry-next d (e ∷ es) (suc i) row inside =
    ap (λ b. list_any (is_dep d) (entry_views e.1.items) || b) (dep_entry-next d es i row (omega arith))
    ∙ or_assoc (list_any (is_dep d) (entry_views e.1.items)) (has_dep_entry (rows_of (take i es)) d)
    (list_any (is_dep d) (entry_views (get_or es i row).1.items))

-- one row more
pub has_dep_entry-more : (d : List ℕ) (es : List (List ℕ × Vec Entry Global)) (i : ℕ)
    (row : List ℕ × Vec Entry Global) → i < length es → row ≡ get_or es i row
    → (has_dep_entry (rows_of (take i es)) d || list_any (is_dep d) (entry_views row.1.items))
    ≡ has_dep_entry (rows_of (take (i + 1) es)) d
has_dep_entry-more d es i row inside is =
    let on : i + 1 ≡ suc i = omega arith in
    ap (λ r. has_dep_entry (rows_of (take i es)) d || list_any (is_dep d) (entry_views r.1.items)) is
    ∙ sym (ap (λ n. has_dep_entry (rows_of (take n es)) d) on ∙ dep_entry-next d es i row inside)

-- ---- where no entry has a fault

-- an optional dependency is one
optional-called : (ds : List DepName) (d : List ℕ) → is_optional ds d ≡ true → has_dependency ds d ≡ true
optional-called [] d h = h
optional-called (e ∷ ds) d h = by (same_text d e.name) e.optional (λ rest. optional-called ds d rest) h
  where
    by : (same optional : Bool) → (is_optional ds d ≡ true → has_dependency ds d ≡ true)
        → ((same && optional) || is_optional ds d) ≡ true → (same || has_dependency ds d) ≡ true
    by true optional rest h = refl
    by false optional rest h = rest h

module _ (ds : List DepName) (written : Table) where
  unfaulty : (fault : TableFault) (e : model.Entry) → is_well ds written e ≡ true → has_fault ds written fault e ≡ false
  unfaulty no_such_feature (model.feature g) h = ap not h
  unfaulty no_such_feature (model.dependency d) h = refl
  unfaulty no_such_feature (model.dependency_feature d g) h = refl
  unfaulty no_such_feature (model.weak_feature d g) h = refl
  unfaulty no_such_dependency (model.feature g) h = refl
  unfaulty no_such_dependency (model.dependency d) h = ap not (optional-called ds d h)
  unfaulty no_such_dependency (model.dependency_feature d g) h = ap not h
  unfaulty no_such_dependency (model.weak_feature d g) h = ap not h
  unfaulty not_optional (model.feature g) h = refl
  unfaulty not_optional (model.dependency d) h = ap not h
  unfaulty not_optional (model.dependency_feature d g) h = refl
  unfaulty not_optional (model.weak_feature d g) h = refl

  none-faulty : (fault : TableFault) (es : List Entry) → list_all (λ e. is_well ds written (entry_view e)) es ≡ true
      → list_any (λ e. has_fault ds written fault (entry_view e)) es ≡ false
  none-faulty fault [] h = refl
  none-faulty fault (e ∷ es) h =
      let well =
      both (is_well ds written (entry_view e)) (list_all (λ e. is_well ds written (entry_view e)) es) h in
      ap₂ (λ a b. a || b) (unfaulty fault (entry_view e) well.0) (none-faulty fault es well.1)

  all-unfaulty : (fault : TableFault) (es : List (List ℕ × Vec Entry Global))
      → list_all (λ row. list_all (λ e. is_well ds written (entry_view e)) row.1.items) es ≡ true
      → first_with (has_fault ds written fault) (rows_of es) ≡ None
  all-unfaulty fault [] h = sym (first_with-none (has_fault ds written fault))
  all-unfaulty fault (e ∷ es) h =
      let well = both (list_all (λ e. is_well ds written (entry_view e)) e.1.items)
      (list_all (λ row. list_all (λ e. is_well ds written (entry_view e)) row.1.items) es) h in
      sym (first_with-later (has_fault ds written fault) e es (none-faulty fault e.1.items well.0))
      ∙ all-unfaulty fault es well.1

  -- a draft whose entries are all well has no fault
  pub faultless-well : (es : List (List ℕ × Vec Entry Global)) → written ≡ rows_of es
      → list_all (λ row. list_all (λ e. is_well ds written (entry_view e)) row.1.items) es ≡ true
      → faultless ds written ≡ Ok tt
  faultless-well es same h =
      let none : (fault : TableFault) → first_with (has_fault ds written fault) written ≡ None = λ fault.
      ap (first_with (has_fault ds written fault)) same ∙ all-unfaulty fault es h in
      rw (none no_such_feature, none no_such_dependency, none not_optional) refl
