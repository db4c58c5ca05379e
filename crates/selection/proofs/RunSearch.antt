-- An order as runs of falling places, and the first of a run that is matched: it stands among those whose versions are
-- neither too new nor too old, which stand side by side.
use Rattle.std.proofs.Common.{◌≡◌, ℕ, zero, suc, ◌+◌, ◌-◌, ◌<◌, ◌≤◌, Bool, true, false, not, cond, List, [], ◌∷◌, ◌++◌}
use Rattle.std.proofs.Common.{length, map, take, drop, get_or, Vec, Option, Some, None, slice_get, is_some, refl, sym}
use Rattle.std.proofs.Common.{ap, ◌∙◌, subst, inl, inr, arith, true≢false}
use Rattle.std.specs.HashMap.{HashMap, Updates, get}
use Rattle.std.specs.List.{All, AllPairs, concat, find}
use Rattle.std.specs.List.Sorted.{IsPartitionPoint, IsPartitionedBy}
use Rattle.std.specs.Option.{option_or}
use Rattle.std.specs.declared.alloc.Global.{Global}
use Rattle.std.specs.declared.cmp.Ordering.TheVariants.{Less}
use Rattle.std.proofs.Math.Seq.{drop-cons, take-length}
use Rattle.std.proofs.lemmas.Bool.{cases_lt, ltb-true, not-false}
use Rattle.std.proofs.lemmas.List.{append-nil, append_assoc, map-append, take_more, take_rest}
use Rattle.std.proofs.lemmas.List.Elements.{All-push}
use Rattle.std.proofs.lemmas.List.Folds.{concat-append, find-append}
use Rattle.std.proofs.lemmas.List.Quantifiers.{all_pairs_push}
use Rattle.std.proofs.lemmas.Option.{get_or_from_slice_get, same_Some, slice_get-get_or, slice_get_within}
use Rattle.semver.specs.Eval.{precedence_cmp}
use Rattle.semver.specs.EvalViews.{matches_views}
use Rattle.semver.specs.Identifiers.{parts_of}
use Rattle.semver.specs.Parse.{Held, Parts}
use Rattle.semver.specs.declared.Version.{Version}
use Rattle.model.specs.Order.{precedence}
use Rattle.model.specs.Summary.{same_text}
use Rattle.model.proofs.Gathered.{pairs_map}
use Rattle.model.proofs.Lists.{pairs_none}
use Rattle.model.proofs.Same.{text-same}
use Rattle.catalogue.specs.inner.Bounds.{is_beyond, is_short}
use Rattle.catalogue.specs.Stores.{CatalogueView}
use Rattle.catalogue.proofs.Bounded.{beyond_after, not_beyond, not_short, short_before}
use Rattle.selection.specs.inner.Met.{AreOrders, AreRising, AreRuns, IsFalling, first_matched, is_lower}
use Rattle.selection.specs.inner.Met.{is_lower_than, is_matched, is_too_new, is_too_old, order_at, run_views}

-- ---- the runs of an order

-- the first n places as runs and one that is begun
pub record RunsTo (order : List ℕ) (n : ℕ) (runs : List (Vec ℕ Global)) (run : List ℕ) : Type 0 where
  pub joined : concat (run_views runs) ++ run ≡ take n order
  pub fall : All (λ (r : Vec ℕ Global). IsFalling r.items) runs
  pub last : IsFalling run

-- what is lower than the last is lower than all
lower_than_all : (run : List ℕ) (place : ℕ) → IsFalling run → is_lower run place ≡ true → (k d : ℕ) → k < length run
    → place < get_or run k d
lower_than_all run place falls h k d lt = elim (cases_lt k (length run - 1)) [
  | inl less ↦ let e = falls k (length run - 1) d less (omega (arith, lt)) in omega (arith, last, e)
  | inr back ↦ let e : k ≡ length run - 1 = omega (arith, back, lt) in subst (λ n. place < get_or run n d) (sym e) last
]
  where
    last : place < get_or run (length run - 1) d
    last = ltb-true place (get_or run (length run - 1) d)
        (sym (ap (λ o. is_lower_than o place) (slice_get-get_or run (length run - 1) d (omega (arith, lt)))) ∙ h)

-- a place goes to the run that is begun ..
pub goes_on : (order : List ℕ) (n : ℕ) (runs : List (Vec ℕ Global)) (run new : List ℕ) (place : ℕ)
    → RunsTo order n runs run → n < length order → place ≡ get_or order n 0 → is_lower run place ≡ true
    → new ≡ run ++ place ∷ [] → RunsTo order (n + 1) runs new
goes_on order n runs run new place so_far lt is lower e = subst (RunsTo order (n + 1) runs) (sym e) (record {
  joined = sym (append_assoc (concat (run_views runs)) run (place ∷ []))
      ∙ ap (λ xs. xs ++ place ∷ []) so_far.joined ∙ ap (λ p. take n order ++ p ∷ []) is ∙ sym (take_more order n 0 lt);
  fall = so_far.fall;
  last = all_pairs_push (λ a b. b < a) run place so_far.last (lower_than_all run place so_far.last lower);
})

-- .. or that run ends, and the next is begun
pub ends : (order : List ℕ) (n : ℕ) (runs new : List (Vec ℕ Global)) (run : Vec ℕ Global)
    → RunsTo order n runs run.items → new ≡ runs ++ run ∷ [] → RunsTo order n new []
ends order n runs new run so_far e = subst (λ rs. RunsTo order n rs []) (sym e) (record {
  joined = append-nil (concat (run_views (runs ++ run ∷ [])))
      ∙ ap concat (map-append (λ (r : Vec ℕ Global). r.items) runs (run ∷ []))
      ∙ concat-append (run_views runs) (run.items ∷ [])
      ∙ ap (λ xs. concat (run_views runs) ++ xs) (append-nil run.items) ∙ so_far.joined;
  fall = All-push (λ (r : Vec ℕ Global). IsFalling r.items) runs run so_far.fall so_far.last;
  last = pairs_none (λ a b. b < a);
})

pub are_runs : (order : List ℕ) (n : ℕ) (runs new : List (Vec ℕ Global)) (run : Vec ℕ Global)
    → RunsTo order n runs run.items → n ≡ length order → new ≡ runs ++ run ∷ [] → AreRuns order new
are_runs order n runs new run so_far all e =
    let whole = ends order n runs new run so_far e in
    record {
      joined = sym (append-nil (concat (run_views new))) ∙ whole.joined ∙ ap (λ k. take k order) all
          ∙ take-length order;
      fall = whole.fall;
    }

-- the run at a place and those behind it
pub runs_step : (runs : List (Vec ℕ Global)) (i : ℕ) (r : Vec ℕ Global) → i < length runs → get_or runs i r ≡ r
    → concat (run_views (drop i runs)) ≡ r.items ++ concat (run_views (drop (i + 1) runs))
runs_step runs i r lt is = ap (λ rs. concat (run_views rs)) (drop-cons runs i r lt)
    ∙ ap (λ (s : Vec ℕ Global). s.items ++ concat (run_views (drop (suc i) runs))) is
    ∙ ap (λ k. r.items ++ concat (run_views (drop k runs))) (next i)
  where
    next : (i : ℕ) → suc i ≡ i + 1
    next i = omega arith

-- the runs of one name more
pub more_orders : {S : Type 0} (index : CatalogueView) (old new : HashMap (List ℕ) (Vec (Vec ℕ Global) Global) S)
    (name : List ℕ) (runs : Vec (Vec ℕ Global) Global) → AreOrders index old
    → Updates same_text old new name (Some runs) → AreRuns (order_at index name) runs.items → AreOrders index new
more_orders index old new name runs are updates one other found got =
    by (same_text name other) refl (sym (updates.0 other) ∙ got)
  where
    by : (b : Bool) → same_text name other ≡ b → cond b (Some runs) (get same_text old other) ≡ Some found
        → AreRuns (order_at index other) found.items
    by true e f = subst (λ n. AreRuns (order_at index n) found.items) (text-same name other e)
        (subst (λ (rs : Vec (Vec ℕ Global) Global). AreRuns (order_at index name) rs.items) (same_Some runs found f)
        one)
    by false e f = are other found f

-- ---- the first of several lists

module _ (t : ℕ → Bool) where
  pub found_first : (xs ys : List ℕ) → is_some (find t xs) ≡ true → find t xs ≡ find t (xs ++ ys)
  found_first xs ys h = by (find t xs) h ∙ sym (find-append t xs ys)
    where
      by : (o : Option ℕ) → is_some o ≡ true → o ≡ option_or o (find t ys)
      by None h = absurd (true≢false (sym h))
      by (Some x) h = refl

  pub found_later : (xs ys : List ℕ) → is_some (find t xs) ≡ false → find t ys ≡ find t (xs ++ ys)
  found_later xs ys h = by (find t xs) h ∙ sym (find-append t xs ys)
    where
      by : (o : Option ℕ) → is_some o ≡ false → find t ys ≡ option_or o (find t ys)
      by None h = refl
      by (Some x) h = absurd (true≢false h)

  -- what fails at the front may be left out ..
  skipped : (xs : List ℕ) (i : ℕ) → ((k d : ℕ) → k < i → k < length xs → t (get_or xs k d) ≡ false)
      → find t (drop i xs) ≡ find t xs
  skipped [] zero h = refl
  skipped [] (suc i) h = refl
  skipped (x ∷ xs) zero h = refl
  skipped (x ∷ xs) (suc i) h =
      skipped xs i (λ k d low within. h (suc k) d (omega (arith, low)) (omega (arith, within)))
      ∙ sym (ap (λ b. cond b (Some x) (find t xs)) (h 0 x (omega arith) (omega arith)))

  -- .. and what fails at the end
  cut : (xs : List ℕ) (j : ℕ) → ((k d : ℕ) → j ≤ k → k < length xs → t (get_or xs k d) ≡ false)
      → find t (take j xs) ≡ find t xs
  cut [] zero h = refl
  cut [] (suc j) h = refl
  cut (x ∷ xs) zero h =
      cut xs zero (λ k d low within. h (suc k) d (omega arith) (omega (arith, within)))
      ∙ sym (ap (λ b. cond b (Some x) (find t xs)) (h 0 x (omega arith) (omega arith)))
  cut (x ∷ xs) (suc j) h =
      ap (λ o. cond (t x) (Some x) o)
      (cut xs j (λ k d low within. h (suc k) d (omega (arith, low)) (omega (arith, within))))

-- ---- versions along a run

fails : (b s : Bool) → (b ≡ true → s ≡ false) → s ≡ true → b ≡ false
fails false s f e = refl
fails true s f e = absurd (true≢false (sym e ∙ f refl))

-- a test that higher places pass too
parted : (t : ℕ → Bool) → ((a b : ℕ) → b < a → t b ≡ true → t a ≡ true) → (ns : List ℕ) → IsFalling ns
    → IsPartitionedBy t ns
parted t above ns falls i j d le within h = elim (cases_lt i j) [
  | inl less ↦ above (get_or ns i d) (get_or ns j d) (falls i j d less within) h
  | inr back ↦ let e : j ≡ i = omega arith in subst (λ n. t (get_or ns n d) ≡ true) e h
]

older_parts : (vs : List Version) → AreRising vs → AllPairs (λ v w. precedence v w ≡ Less) (map parts_of vs)
older_parts vs = pairs_map parts_of (λ v w. precedence_cmp v w ≡ Less) (λ v w. precedence v w ≡ Less) (λ v w h. h) vs

module _ (cs : List Held) (ps : List Parts) where
  abbrev New : ℕ → Bool
  New n = is_too_new cs (slice_get ps n)

  abbrev Old : ℕ → Bool
  Old n = is_too_old cs (slice_get ps n)

  abbrev Matched : ℕ → Bool
  Matched n = is_matched cs (slice_get ps n)

  new_fails : (n : ℕ) → New n ≡ true → Matched n ≡ false
  new_fails n h = by (slice_get ps n) h
    where
      by : (o : Option Parts) → is_too_new cs o ≡ true → is_matched cs o ≡ false
      by None h = refl
      by (Some v) h = fails (matches_views cs v) (is_beyond cs v) (not_beyond cs v) h

  old_fails : (n : ℕ) → Old n ≡ true → Matched n ≡ false
  old_fails n h = by (slice_get ps n) h
    where
      by : (o : Option Parts) → is_too_old cs o ≡ true → is_matched cs o ≡ false
      by None h = refl
      by (Some v) h = fails (matches_views cs v) (is_short cs v) (not_short cs v) h

  module _ (rising : AllPairs (λ v w. precedence v w ≡ Less) ps) where
    -- what stands below a version is older
    below : (a b : ℕ) → b < a → (v : Parts) → slice_get ps a ≡ Some v
        → (slice_get ps b ≡ Some (get_or ps b v)) × (precedence (get_or ps b v) v ≡ Less)
    below a b lt v at =
        let within = slice_get_within ps a v at in (
          slice_get-get_or ps b v (omega (arith, within, lt)),
          subst (λ w. precedence (get_or ps b v) w ≡ Less) (get_or_from_slice_get ps a v v at) (rising b a v lt within),
        )

    new_above : (a b : ℕ) → b < a → New b ≡ true → New a ≡ true
    new_above a b lt h = by (slice_get ps a) refl
      where
        by : (o : Option Parts) → slice_get ps a ≡ o → is_too_new cs o ≡ true
        by None at = refl
        by (Some v) at = let (got, less) = below a b lt v at in
            beyond_after cs (get_or ps b v) v less (sym (ap (is_too_new cs) got) ∙ h)

    old_below : (a b : ℕ) → b < a → Old a ≡ true → Old b ≡ true
    old_below a b lt = by (slice_get ps a) refl
      where
        by : (o : Option Parts) → slice_get ps a ≡ o → is_too_old cs o ≡ true → Old b ≡ true
        by None at h = absurd (true≢false (sym h))
        by (Some v) at h = let (got, less) = below a b lt v at in
            ap (is_too_old cs) got ∙ short_before cs (get_or ps b v) v less h

    not_old_above : (a b : ℕ) → b < a → not (Old b) ≡ true → not (Old a) ≡ true
    not_old_above a b lt h = by (Old a) refl
      where
        by : (x : Bool) → Old a ≡ x → not x ≡ true
        by false e = refl
        by true e = absurd (true≢false (sym h ∙ ap not (old_below a b lt e)))

  -- what is too new stands before what may be matched, and what is too old behind it
  pub narrowed : (ns : List ℕ) (i j : ℕ) → IsPartitionPoint (λ n. New n ≡ true) (λ n. New n ≡ false) ns i
      → IsPartitionPoint (λ n. not (Old n) ≡ true) (λ n. not (Old n) ≡ false) (take (length ns - i) (drop i ns)) j
      → first_matched cs ps (take j (take (length ns - i) (drop i ns))) ≡ first_matched cs ps ns
  narrowed ns i j first = rw (take_rest ns i) (λ last.
      cut Matched (drop i ns) j
      (λ k d low within. let n = get_or (drop i ns) k d in old_fails n (not-false (Old n) (last.1 k d low within)))
      ∙ skipped Matched ns i (λ k d low within. new_fails (get_or ns k d) (first.0 k d (omega arith) low)))

pub new_parted : (cs : List Held) (vs : List Version) → AreRising vs → (ns : List ℕ) → IsFalling ns
    → IsPartitionedBy (λ n. is_too_new cs (slice_get (map parts_of vs) n)) ns
new_parted cs vs rising = parted (λ n. is_too_new cs (slice_get (map parts_of vs) n))
    (new_above cs (map parts_of vs) (older_parts vs rising))

pub old_parted : (cs : List Held) (vs : List Version) → AreRising vs → (ns : List ℕ) → IsFalling ns
    → IsPartitionedBy (λ n. not (is_too_old cs (slice_get (map parts_of vs) n))) ns
old_parted cs vs rising = parted (λ n. not (is_too_old cs (slice_get (map parts_of vs) n)))
    (not_old_above cs (map parts_of vs) (older_parts vs rising))
