-- Candidates are chosen one by one from records that are sorted by age.
use Rattle.std.proofs.Common.{◌≡◌, ℕ, ◌<◌, Bool, true, false, cond, List, [], ◌∷◌, ◌++◌, filter, length, get_or, Option}
use Rattle.std.proofs.Common.{Some, None, option_map, slice_get, refl, sym, ap, ap₂, ◌∙◌, subst, subst₂, arith}
use Rattle.std.proofs.Common.{Ordering}
use Rattle.std.proofs.Common.{All}
use Rattle.std.specs.List.{AllPairs}
use Rattle.std.specs.List.Sorted.{IsPermutation, IsSortedBy}
use Rattle.std.specs.Ordering.{is_lt, is_gt, ordering_reverse}
use Rattle.std.specs.declared.cmp.Ordering.TheVariants.{Less, Equal, Greater}
use Rattle.std.proofs.lemmas.List.{append-nil, append_assoc, length-map}
use Rattle.std.proofs.lemmas.List.Kept.{AllPairs-filter}
use Rattle.std.proofs.lemmas.List.Sorted.{IsPermutation-sym, Contains-permutation, sorted_far, ranks_by}
use Rattle.std.proofs.lemmas.Option.{slice_get-map, slice_get-get_or, get_or_from_slice_get}
use Rattle.std.proofs.lemmas.List.Elements.{All-contains}
use Rattle.semver.specs.OrderLaws.{precedence_total}
use Rattle.semver.specs.Eval.{precedence_cmp}
use Rattle.semver.specs.Grammar.{IsValid}
use Rattle.semver.specs.Identifiers.{parts_of}
use Rattle.semver.specs.Parse.{Parts}
use Rattle.semver.specs.declared.Version.{Version}
use Rattle.model.specs.Candidates.{RustVersion, Record, fits, IsOlder, IsApart, may_be_locked, oldest_first}
use Rattle.model.specs.Order.{precedence}
use Rattle.model.specs.Summary.{KnowsFeatures}
use Rattle.model.proofs.Candidates as model
use Rattle.model.proofs.Candidates.{oldest_first-permutes, oldest_first-rises, sorted_is_oldest_first}
use Rattle.model.proofs.Lists.{in_filter, to_filter, all_none, all_cons, all_first, all_rest}
use Rattle.model.proofs.Permuted.{rising-same}
use Rattle.model.proofs.Members.{all_in}
use Rattle.features.specs.inner.Valid.{BringsValid}
use Rattle.index_lines.specs.Views.{record_view}
use Rattle.index_lines.specs.declared.record.Record as reader
use Rattle.catalogue.specs.Loads.{records_view, with_ranks}
use Rattle.catalogue.specs.Runs.{as_record}
use Rattle.catalogue.specs.Stores.{Ranked, records, rank_of, fits_given, ranked_of, ranked_view, AreRising}
use Rattle.catalogue.specs.Stores.{AreRead}
use Rattle.catalogue.specs.declared.candidate.Candidate.{Candidate}
use Rattle.catalogue.specs.declared.candidate.Rank.TheVariants.{Locked, Fits, Rest}

-- what holds of a record that knows its features, and of one that brings valid parts
abbrev pub Knows : Record → Type 0
Knows r = KnowsFeatures (r.brings).features

abbrev pub Brings : Record → Type 0
Brings r = BringsValid r.brings

-- ---- one more

pub ranked-snoc : (vs : List Version) (cs : List Candidate) (v : Version) (c : Candidate) → length vs ≡ length cs
    → ranked_view (vs ++ v ∷ []) (cs ++ c ∷ []) ≡ ranked_view vs cs ++ ranked_of (v, c) ∷ []
ranked-snoc [] [] v c same = refl
ranked-snoc (w ∷ ws) (e ∷ es) v c same = ap (λ rs. ranked_of (w, e) ∷ rs) (ranked-snoc ws es v c (omega (arith, same)))
ranked-snoc [] (e ∷ es) v c same = absurd (omega (arith, same))
ranked-snoc (w ∷ ws) [] v c same = absurd (omega (arith, same))

module _ (locked : Parts → Bool) (rust : Option RustVersion) where
  -- what is left to choose from
  abbrev pub chosen : List reader.Record → List Ranked
  chosen rs = with_ranks locked rust (filter (may_be_locked locked) (records_view rs))

  pub chosen-yes : (vs : List Version) (cs : List Candidate) (v : Version) (c : Candidate) (r : reader.Record)
      (rest all : List reader.Record) → length vs ≡ length cs
      → may_be_locked locked (as_record (record_view r)) ≡ true
      → ranked_of (v, c) ≡ (as_record (record_view r), rank_of locked rust (as_record (record_view r)))
      → ranked_view vs cs ++ chosen (r ∷ rest) ≡ chosen all
      → ranked_view (vs ++ v ∷ []) (cs ++ c ∷ []) ++ chosen rest ≡ chosen all
  chosen-yes vs cs v c r rest all same may is told =
      ap (λ rs. rs ++ chosen rest) (ranked-snoc vs cs v c same)
      ∙ append_assoc (ranked_view vs cs) (ranked_of (v, c) ∷ []) (chosen rest)
      ∙ ap (λ x. ranked_view vs cs ++ x ∷ chosen rest) is
      ∙ sym (ap (λ b. ranked_view vs cs ++ with_ranks locked rust (cond b (as_record (record_view r) ∷ filter
      (may_be_locked locked) (records_view rest)) (filter (may_be_locked locked) (records_view rest)))) may)
      ∙ told

  pub chosen-no : (front : List Ranked) (r : reader.Record) (rest all : List reader.Record)
      → may_be_locked locked (as_record (record_view r)) ≡ false
      → front ++ chosen (r ∷ rest) ≡ chosen all → front ++ chosen rest ≡ chosen all
  chosen-no front r rest all may told =
      sym (ap (λ b. front ++ with_ranks locked rust (cond b (as_record (record_view r) ∷ filter (may_be_locked locked)
      (records_view rest)) (filter (may_be_locked locked) (records_view rest)))) may) ∙ told

  pub records-ranked : (rs : List Record) → records (with_ranks locked rust rs) ≡ rs
  records-ranked [] = refl
  records-ranked (r ∷ rs) = ap (λ zs. r ∷ zs) (records-ranked rs)

  -- all are chosen
  pub chosen-done : (front : List Ranked) (all : List reader.Record)
      → front ++ chosen [] ≡ chosen all → front ≡ chosen all
  chosen-done front all told = sym (append-nil front) ∙ told

  pub chosen-rise : (all : List reader.Record) → AllPairs IsOlder (records_view all) → AreRising (chosen all)
  chosen-rise all h = subst (AllPairs IsOlder) (sym (records-ranked (filter (may_be_locked locked) (records_view all))))
      (AllPairs-filter IsOlder (may_be_locked locked) (records_view all) h)

  -- what holds of each record holds of those that are chosen
  pub chosen-all : (P : Record → Type 0) (all : List reader.Record) → All P (records_view all)
      → All P (records (chosen all))
  chosen-all P all h =
      let kept : List Record = filter (may_be_locked locked) (records_view all) in
      subst (All P) (sym (records-ranked kept))
      (all_in P kept
      (λ r c. All-contains P (records_view all) r h (in_filter (may_be_locked locked) (records_view all) r c).0))

-- one more version that is read
pub read-snoc : (vs : List Version) (v : Version) → AreRead vs → IsValid (parts_of v) → AreRead (vs ++ v ∷ [])
read-snoc [] v h k =
    all_cons (λ (w : Version). IsValid (parts_of w)) v [] k (all_none (λ (w : Version). IsValid (parts_of w)))
read-snoc (w ∷ ws) v h k = all_cons
    (λ (w : Version). IsValid (parts_of w)) w (ws ++ v ∷ []) (all_first (λ (w : Version). IsValid (parts_of w)) w ws h)
    (read-snoc ws v (all_rest (λ (w : Version). IsValid (parts_of w)) w ws h) k)

-- and of records that are moved
pub moved-all : (P : Record → Type 0) (rs ys : List Record) → IsPermutation rs ys → All P rs → All P ys
moved-all P rs ys moved h =
    all_in P ys (λ r c. All-contains P rs r h (Contains-permutation ys rs r (IsPermutation-sym rs ys moved) c))

-- ---- sorted records

module _ (rs ys : List Record) (apart : AllPairs IsApart rs) (moved : IsPermutation rs ys)
    (sorted : AllPairs (λ a b. is_gt (precedence a.version b.version) ≡ false) ys) where
  is_sorted : ys ≡ oldest_first rs
  is_sorted = sorted_is_oldest_first rs ys apart moved sorted

  pub sorted-rise : AllPairs IsOlder ys
  sorted-rise = subst (AllPairs IsOlder) (sym is_sorted) (oldest_first-rises rs apart)

  never : (a b : Record) → IsOlder a b → IsOlder b a → ⊥
  never a b h k = let x : Less ≡ Greater =
      sym h ∙ model.precedence_total.antisymm a.version b.version ∙ ap ordering_reverse k in cc

  -- choosing after the sort chooses the same as sorting what was chosen
  pub sorted-chosen : (p : Record → Bool) → filter p ys ≡ oldest_first (filter p rs)
  sorted-chosen p =
      let kept = oldest_first-permutes (filter p rs) in
      rising-same IsOlder never (filter p ys) (oldest_first (filter p rs)) (AllPairs-filter IsOlder p ys sorted-rise)
      (oldest_first-rises (filter p rs) (AllPairs-filter IsApart p rs apart))
      (λ r c. let h = in_filter p ys r c in Contains-permutation (filter p rs) (oldest_first (filter p rs)) r kept
      (to_filter p rs r (Contains-permutation ys rs r (IsPermutation-sym rs ys moved) h.0) h.1))
      (λ r c. let h = in_filter p rs r (Contains-permutation (oldest_first (filter p rs)) (filter p rs) r
      (IsPermutation-sym (filter p rs) (oldest_first (filter p rs)) kept) c) in
      to_filter p ys r (Contains-permutation rs ys r moved h.0) h.1)

gt-reversed : (o : Ordering) → is_gt (ordering_reverse o) ≡ is_lt o
gt-reversed Less = refl
gt-reversed Equal = refl
gt-reversed Greater = refl

-- a sort of records by the precedence of their versions
pub sorted-views : (rs : List reader.Record)
    → IsSortedBy (λ (x y : reader.Record). is_lt (precedence_cmp x.version y.version)) rs
    → AllPairs (λ (a b : Record). is_gt (precedence a.version b.version) ≡ false) (records_view rs)
sorted-views [] h i j d lt within = absurd (omega (arith, within))
sorted-views (r ∷ rs) h i j d lt within =
    let all = r ∷ rs in
    let inside : j < length all = rw length-map at within in
    let x = get_or all i r in
    let y = get_or all j r in
    let far = sorted_far (λ (x y : reader.Record). is_lt (precedence_cmp x.version y.version))
    (ranks_by precedence_total (λ (x : reader.Record). x.version)) all h i j r (omega (arith, lt)) inside in
    subst₂ (λ (a b : Record). is_gt (precedence a.version b.version) ≡ false)
    (sym (seen i x (slice_get-get_or all i r (omega (arith, lt, inside)))))
    (sym (seen j y (slice_get-get_or all j r inside)))
    (ap is_gt (model.precedence_total.antisymm (parts_of x.version) (parts_of y.version))
    ∙ gt-reversed (precedence (parts_of y.version) (parts_of x.version)) ∙ far)
  where
    seen : (k : ℕ) (x : reader.Record) → slice_get (r ∷ rs) k ≡ Some x
        → get_or (records_view (r ∷ rs)) k d ≡ as_record (record_view x)
    seen k x got = get_or_from_slice_get (records_view (r ∷ rs)) k (as_record (record_view x)) d
        (slice_get-map (λ (r : reader.Record). as_record (record_view r)) (r ∷ rs) k
        ∙ ap (option_map (λ (r : reader.Record). as_record (record_view r))) got)

-- whether the Rust version fits
fits-is : (rust : Option RustVersion) (r : Record) → fits_given rust r.rust_version ≡ fits rust r
fits-is None r = refl
fits-is (Some v) r = refl

pub rank-is : (rust : Option RustVersion) (r : Record) (a b : Bool) → a ≡ b
    → cond a Locked (cond (fits_given rust r.rust_version) Fits Rest) ≡ cond b Locked (cond (fits rust r) Fits Rest)
rank-is rust r a b same = ap₂ (λ (a b : Bool). cond a Locked (cond b Fits Rest)) same (fits-is rust r)

-- an iterator that has none left has no items left
pub none-left : {X : Type 0} (n : ℕ) (xs : List X) → n ≡ length xs → n ≡ 0 → xs ≡ []
none-left n [] same none = refl
none-left n (x ∷ xs) same none = absurd (omega (arith, same, none))
