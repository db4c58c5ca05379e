-- The target of a dependency: of a list, those of its real name stand side by side, and the last of these that serves
-- is the target.
use Rattle.std.proofs.Common.{◌≡◌, ℕ, zero, suc, ◌<◌, ◌≤◌, Bool, true, false, cond, not, ◌&&◌, List, [], ◌∷◌, take}
use Rattle.std.proofs.Common.{length, get_or, Option, Some, None, slice_get, is_some, refl, sym, ap, ◌∙◌, subst, arith}
use Rattle.std.proofs.Common.{Ordering, inl, inr, true≢false}
use Rattle.std.specs.List.{All, AllPairs, AllWithin}
use Rattle.std.specs.List.Sorted.{IsPartitionedBy, IsNonDecreasingBy}
use Rattle.std.specs.Ordering.{is_lt, nat_cmp, ordering_index, ordering_then}
use Rattle.std.specs.declared.cmp.Ordering.TheVariants.{Less, Equal, Greater}
use Rattle.std.proofs.lemmas.Bool.{cases_lt, not-false}
use Rattle.std.proofs.lemmas.Map.Lookups.{exact_bytes, exact_unsigned}
use Rattle.std.proofs.lemmas.Option.{slice_get-get_or, get_or_from_slice_get}
use Rattle.semver.specs.EvalViews.{matches_views}
use Rattle.semver.specs.Identifiers.{parts_text}
use Rattle.semver.specs.Parse.{Held, Parts}
use Rattle.model.specs.Summary.{Dependency, same_text}
use Rattle.model.specs.Content.{Package, Content, serves_if, or_this, last_serving}
use Rattle.model.specs.Order.{text_cmp, package_cmp, precedence, source_cmp, version_cmp, IsContent}
use Rattle.model.proofs.Same.{text-same}
use Rattle.model.proofs.Contents.{text-equal}
use Rattle.model.proofs.Tests.{below-less, index-most}
use Rattle.lockfile.proofs.Ranges.{then-assoc}
use Rattle.catalogue.specs.inner.Bounds.{is_beyond}
use Rattle.catalogue.proofs.Bounded.{beyond_after, not_beyond}
use Rattle.selection.specs.inner.Names.{is_past, name_cmp, past_by}
use Rattle.selection.proofs.NameOrder.{names_rise}

both_equal : (a b : Ordering) → ordering_then a b ≡ Equal → (a ≡ Equal) × (b ≡ Equal)
both_equal Less b e = let no : Less ≡ Equal = e in cc
both_equal Equal b e = (refl, e)
both_equal Greater b e = let no : Greater ≡ Equal = e in cc

-- ---- by version

-- versions of equal precedence are as new
same_newness : (cs : List Held) (v w : Parts) → precedence v w ≡ Equal → is_beyond cs v ≡ true → is_beyond cs w ≡ true
same_newness cs v w e h =
    let first = both_equal (nat_cmp v.0 w.0) _ e in
    let second = both_equal (nat_cmp v.1 w.1) _ first.1 in
    let third = both_equal (nat_cmp v.2 w.2) _ second.1 in
    subst (λ n. is_beyond cs (w.0, w.1, n, w.3, w.4) ≡ true) (exact_unsigned v.2 w.2 third.0)
    (subst (λ n. is_beyond cs (w.0, n, v.2, w.3, w.4) ≡ true) (exact_unsigned v.1 w.1 second.0)
    (subst (λ n. is_beyond cs (n, v.1, v.2, w.3, w.4) ≡ true) (exact_unsigned v.0 w.0 first.0) h))

newer_after : (cs : List Held) (v w : Parts) (o : Ordering) → precedence v w ≡ o → (s : Ordering)
    → ordering_then o s ≡ Less → is_beyond cs v ≡ true → is_beyond cs w ≡ true
newer_after cs v w Less e s l h = beyond_after cs v w e h
newer_after cs v w Equal e s l h = same_newness cs v w e h
newer_after cs v w Greater e s l h = let no : Greater ≡ Less = l in cc

module _ (d : Dependency) where
  newer_of_name : (p r : Package) → text_cmp p.name d.real_name ≡ Equal → text_cmp r.name d.real_name ≡ Equal
      → package_cmp p r ≡ Less → is_beyond d.requirement p.version ≡ true → is_beyond d.requirement r.version ≡ true
  newer_of_name p r here there less h =
      let one : text_cmp p.name r.name ≡ Equal =
      text-equal p.name r.name (exact_bytes p.name d.real_name here ∙ sym (exact_bytes r.name d.real_name there)) in
      let rest = sym (ap (λ o. ordering_then o
      (ordering_then (version_cmp p.version r.version) (source_cmp p.source r.source))) one) ∙ less in
      newer_after d.requirement p.version r.version (precedence p.version r.version) refl
      (ordering_then (text_cmp (parts_text p.version) (parts_text r.version)) (source_cmp p.source r.source))
      (sym (then-assoc (precedence p.version r.version) (text_cmp (parts_text p.version) (parts_text r.version))
      (source_cmp p.source r.source)) ∙ rest) h

  pub past_after : (p r : Package) → package_cmp p r ≡ Less → is_past d (Some p) ≡ true → is_past d (Some r) ≡ true
  past_after p r less h =
      by (text_cmp p.name d.real_name) refl (text_cmp r.name d.real_name) refl (names_rise d.real_name p r less) h
    where
      by : (a : Ordering) → text_cmp p.name d.real_name ≡ a → (b : Ordering) → text_cmp r.name d.real_name ≡ b
          → ordering_index a ≤ ordering_index b → past_by a (is_beyond d.requirement p.version) ≡ true
          → past_by b (is_beyond d.requirement r.version) ≡ true
      by Less x b y le h = absurd (true≢false (sym h))
      by a x Greater y le h = refl
      by Equal x Less y le h = absurd (omega arith)
      by Equal x Equal y le h = newer_of_name p r x y less h
      by Greater x Less y le h = absurd (omega arith)
      by Greater x Equal y le h = absurd (omega arith)

-- ---- along a list

module _ (content : Content) (d : Dependency) where
  abbrev pub serving : ℕ → Bool
  serving i = serves_if d (slice_get content i)

  or_some : (s : Bool) (i x : ℕ) → or_this s i (Some x) ≡ Some x
  or_some true i x = refl
  or_some false i x = refl

  -- one place more
  one_more : (is : List ℕ) (k x e : ℕ) → k < length is → get_or is k e ≡ x
      → last_serving content d (take (suc k) is) ≡ cond (serving x) (Some x) (last_serving content d (take k is))
  one_more [] k x e lt h = absurd (omega arith)
  one_more (i ∷ is) zero x e lt h =
      subst (λ y. or_this (serving i) i None ≡ cond (serving y) (Some y) None) h (by (serving i))
    where
      by : (b : Bool) → or_this b i None ≡ cond b (Some i) None
      by true = refl
      by false = refl
  one_more (i ∷ is) (suc k) x e lt h = ap (or_this (serving i) i) (one_more is k x e (omega arith) h) ∙ by (serving x)
    where
      by : (b : Bool) → or_this (serving i) i (cond b (Some x) (last_serving content d (take k is)))
          ≡ cond b (Some x) (or_this (serving i) i (last_serving content d (take k is)))
      by true = or_some (serving i) i x
      by false = refl

  -- the last of the places serves ..
  pub last_serves : (is : List ℕ) (k left : ℕ) → suc k ≡ left → left ≤ length is → serving (get_or is k 0) ≡ true
      → Some (get_or is k 0) ≡ last_serving content d (take left is)
  last_serves is k left h le s =
      subst (λ n. Some (get_or is k 0) ≡ last_serving content d (take n is)) h
      (sym (one_more is k (get_or is k 0) 0 (omega arith) refl
      ∙ ap (λ b. cond b (Some (get_or is k 0)) (last_serving content d (take k is))) s))

  -- .. or doesn't
  pub last_fails : (is : List ℕ) (k left : ℕ) → suc k ≡ left → left ≤ length is → serving (get_or is k 0) ≡ false
      → last_serving content d (take k is) ≡ last_serving content d (take left is)
  last_fails is k left h le s =
      subst (λ n. last_serving content d (take k is) ≡ last_serving content d (take n is)) h
      (sym (one_more is k (get_or is k 0) 0 (omega arith) refl
      ∙ ap (λ b. cond b (Some (get_or is k 0)) (last_serving content d (take k is))) s))

  -- none of those after k serves
  pub none_after : (is : List ℕ) (k : ℕ) → AllWithin (λ i. serving i ≡ false) is k (length is)
      → last_serving content d (take k is) ≡ last_serving content d is
  none_after [] zero h = refl
  none_after [] (suc k) h = refl
  none_after (i ∷ is) zero h =
      sym (ap (λ o. or_this (serving i) i o)
      (sym (none_after is zero (λ k e l u. h (suc k) e (omega arith) (omega arith))))
      ∙ ap (λ b. or_this b i None) (h zero i (omega arith) (omega arith)))
  none_after (i ∷ is) (suc k) h =
      ap (or_this (serving i) i) (none_after is k (λ j e l u. h (suc j) e (omega arith) (omega arith)))

  -- none of those before k serves
  pub none_before : (is : List ℕ) (k : ℕ) → k ≤ length is → AllWithin (λ i. serving i ≡ false) is 0 k
      → last_serving content d (take k is) ≡ None
  none_before is zero lt h = refl
  none_before [] (suc k) lt h = absurd (omega arith)
  none_before (i ∷ is) (suc k) lt h =
      ap (or_this (serving i) i) (none_before is k (omega arith) (λ j e l u. h (suc j) e (omega arith) (omega arith)))
      ∙ ap (λ b. or_this b i None) (h zero i (omega arith) (omega arith))

  -- ---- by name

  abbrev pub beside : ℕ → Ordering
  beside i = name_cmp d (slice_get content i)

  -- another name doesn't serve
  other_name : (i : ℕ) → (text_cmp d.real_name d.real_name ≡ Equal) → (o : Option Package)
      → (name_cmp d o ≡ Equal → ⊥) → serves_if d o ≡ false
  other_name i t None h = refl
  other_name i t (Some p) h =
      by (is_some p.source) (same_text d.real_name p.name) refl (matches_views d.requirement p.version)
    where
      by : (a b : Bool) → same_text d.real_name p.name ≡ b → (c : Bool) → (a && b && c) ≡ false
      by false false e c = refl
      by true false e c = refl
      by false true e c = refl
      by true true e c = absurd (h (text-equal p.name d.real_name (sym (text-same d.real_name p.name e))))

  pub lower_fails : (i : ℕ) → is_lt (beside i) ≡ true → serving i ≡ false
  lower_fails i h = other_name i (text-equal d.real_name d.real_name refl) (slice_get content i)
      (λ e. true≢false (sym h ∙ ap is_lt e))

  pub past_fails : (i : ℕ) → not (is_past d (slice_get content i)) ≡ false → serving i ≡ false
  past_fails i h = of (slice_get content i) h
    where
      at_end : (a b : Bool) → (a && b && false) ≡ false
      at_end false false = refl
      at_end true false = refl
      at_end false true = refl
      at_end true true = refl

      too_new : (p : Package) → is_beyond d.requirement p.version ≡ true → serves_if d (Some p) ≡ false
      too_new p new = by (matches_views d.requirement p.version) refl
        where
          by : (b : Bool) → matches_views d.requirement p.version ≡ b
              → (is_some p.source && same_text d.real_name p.name && b) ≡ false
          by false e = at_end (is_some p.source) (same_text d.real_name p.name)
          by true e = absurd (true≢false (sym new ∙ not_beyond d.requirement p.version e))

      of_package : (p : Package) (o : Ordering) → text_cmp p.name d.real_name ≡ o
          → not (past_by o (is_beyond d.requirement p.version)) ≡ false → serves_if d (Some p) ≡ false
      of_package p Less e h = absurd (true≢false h)
      of_package p Equal e h = too_new p (not-false (is_beyond d.requirement p.version) h)
      of_package p Greater e h = other_name i (text-equal d.real_name d.real_name refl) (Some p)
          (λ same. let no : Greater ≡ Equal = sym e ∙ same in cc)

      of : (o : Option Package) → not (is_past d o) ≡ false → serves_if d o ≡ false
      of None h = refl
      of (Some p) h = of_package p (text_cmp p.name d.real_name) refl h

  beside_rises : IsContent content → (i j : ℕ) → i < j → j < length content
      → ordering_index (beside i) ≤ ordering_index (beside j)
  beside_rises formed i j lt within = by (slice_get content j) refl
    where
      by : (o : Option Package) → slice_get content j ≡ o → ordering_index (beside i) ≤ ordering_index (name_cmp d o)
      by None e = index-most (beside i)
      by (Some r) e =
          let got : slice_get content i ≡ Some (get_or content i r) = slice_get-get_or content i r (omega arith) in
          let before = formed.in_order i j r lt within in
          let here : get_or content j r ≡ r = get_or_from_slice_get content j r r e in
          subst (λ o. ordering_index (name_cmp d o) ≤ ordering_index (text_cmp r.name d.real_name)) (sym got)
          (names_rise d.real_name (get_or content i r) r
          (subst (λ z. package_cmp (get_or content i r) z ≡ Less) here before))

  list_rises : IsContent content → (is : List ℕ) → All (λ t. t < length content) is → AllPairs (λ i j. i < j) is
      → IsNonDecreasingBy (λ t. ordering_index (beside t)) is
  list_rises formed is within rising i j k le lt = elim (cases_lt i j) [
    | inl less ↦ beside_rises formed (get_or is i k) (get_or is j k) (rising i j k less lt) (within j k lt)
    | inr back ↦ (let e : i ≡ j = omega arith in rw e (omega arith))
  ]

  pub less_partitioned : IsContent content → (is : List ℕ) → All (λ t. t < length content) is
      → AllPairs (λ i j. i < j) is → IsPartitionedBy (λ t. is_lt (beside t)) is
  less_partitioned formed is within rising i j k le lt h =
      below-less (beside (get_or is i k)) (beside (get_or is j k)) (list_rises formed is within rising i j k le lt) h

  past_rises : IsContent content → (i j : ℕ) → i < j → j < length content → is_past d (slice_get content i) ≡ true
      → is_past d (slice_get content j) ≡ true
  past_rises formed i j lt within past = by (slice_get content j) refl
    where
      by : (o : Option Package) → slice_get content j ≡ o → is_past d o ≡ true
      by None e = refl
      by (Some r) e =
          let got : slice_get content i ≡ Some (get_or content i r) = slice_get-get_or content i r (omega arith) in
          let before = formed.in_order i j r lt within in
          let here : get_or content j r ≡ r = get_or_from_slice_get content j r r e in
          past_after d (get_or content i r) r (subst (λ z. package_cmp (get_or content i r) z ≡ Less) here before)
          (subst (λ o. is_past d o ≡ true) got past)

  pub past_partitioned : IsContent content → (is : List ℕ) → All (λ t. t < length content) is
      → AllPairs (λ i j. i < j) is → IsPartitionedBy (λ t. not (is_past d (slice_get content t))) is
  past_partitioned formed is within rising i j k le lt h = elim (cases_lt i j) [
    | inl less ↦ back (get_or is i k) (get_or is j k) (rising i j k less lt) (within j k lt) h
    | inr ge ↦ let e : j ≡ i = omega arith in
        subst (λ n. not (is_past d (slice_get content (get_or is n k))) ≡ true) e h
  ]
    where
      back : (a b : ℕ) → a < b → b < length content → not (is_past d (slice_get content b)) ≡ true
          → not (is_past d (slice_get content a)) ≡ true
      back a b less within h = by (is_past d (slice_get content a)) refl
        where
          by : (x : Bool) → is_past d (slice_get content a) ≡ x → not x ≡ true
          by false e = refl
          by true e = absurd (true≢false (sym h ∙ ap not (past_rises formed a b less within e)))
