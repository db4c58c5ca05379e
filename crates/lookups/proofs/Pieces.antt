-- Versions that are oldest first have those of a class in one piece.
use Rattle.std.proofs.Common.{◌≡◌, ℕ, zero, suc, ◌+◌, ◌-◌, ◌<◌, ◌≤◌, Bool, true, false, not, cond, List, [], ◌∷◌, map}
use Rattle.std.proofs.Common.{filter, take, drop, length, get_or, refl, sym, ap, ◌∙◌, subst, arith, true≢false, inl}
use Rattle.std.proofs.Common.{inr}
use Rattle.std.specs.List.Sorted.{IsPartitionedBy, IsPartitionPoint}
use Rattle.std.specs.Ordering.{is_gt}
use Rattle.std.specs.declared.cmp.Ordering.TheVariants.{Less}
use Rattle.std.proofs.lemmas.Bool.{cases_lt, eq-eqb, lt-ltb, ltb-false, ltb-true, not-false, not-true}
use Rattle.std.proofs.lemmas.List.{drop-map, get_or-drop, length-drop, length-map, take-map, take_rest}
use Rattle.semver.specs.Identifiers.{parts_of}
use Rattle.semver.specs.Parse.{Parts}
use Rattle.semver.specs.declared.Version.{Version}
use Rattle.model.specs.Axioms.{is_lower}
use Rattle.model.specs.Candidates.{Record}
use Rattle.model.specs.Order.{precedence}
use Rattle.model.specs.Selection.{Class, patch, minor, major, class_of}
use Rattle.model.specs.Vertices.{same_class}
use Rattle.model.proofs.Orders.{class_above, not_lower_itself}
use Rattle.model.proofs.Same.{class-same}
use Rattle.catalogue.specs.Stores.{said, said_by}
use Rattle.catalogue.specs.declared.candidate.Candidate.{Candidate}
use Rattle.lookups.specs.inner.Ranges.{AreRising, is_above, is_below, is_of}

-- ---- the order of classes

-- a class that isn't above another is below what that one is below, ..
pub lower_first : (c d k : Class) → is_lower d c ≡ false → is_lower d k ≡ true → is_lower c k ≡ true
lower_first (patch a) (patch b) (patch n) h l = let x = ltb-false b a h in let y =
    ltb-true b n l in lt-ltb a n (omega arith)
lower_first (patch a) (minor b) (patch n) h l = absurd (true≢false (sym l))
lower_first (patch a) (major b) (patch n) h l = absurd (true≢false (sym l))
lower_first (patch a) d (minor n) h l = refl
lower_first (patch a) d (major n) h l = refl
lower_first (minor a) (patch b) k h l = absurd (true≢false h)
lower_first (minor a) (minor b) (patch n) h l = absurd (true≢false (sym l))
lower_first (minor a) (minor b) (minor n) h l = let x = ltb-false b a h in let y =
    ltb-true b n l in lt-ltb a n (omega arith)
lower_first (minor a) (minor b) (major n) h l = refl
lower_first (minor a) (major b) (patch n) h l = absurd (true≢false (sym l))
lower_first (minor a) (major b) (minor n) h l = absurd (true≢false (sym l))
lower_first (minor a) (major b) (major n) h l = refl
lower_first (major a) (patch b) k h l = absurd (true≢false h)
lower_first (major a) (minor b) k h l = absurd (true≢false h)
lower_first (major a) (major b) (patch n) h l = absurd (true≢false (sym l))
lower_first (major a) (major b) (minor n) h l = absurd (true≢false (sym l))
lower_first (major a) (major b) (major n) h l = let x = ltb-false b a h in let y =
    ltb-true b n l in lt-ltb a n (omega arith)

-- .. and the other is above what it is above
pub lower_last : (k c d : Class) → is_lower d c ≡ false → is_lower k c ≡ true → is_lower k d ≡ true
lower_last k c d h l = by (is_lower k d) refl
  where
    by : (b : Bool) → is_lower k d ≡ b → b ≡ true
    by true e = refl
    by false e = absurd (true≢false (sym (lower_first d k c e l) ∙ h))

pub apart_below : (k c : Class) → is_lower c k ≡ true → same_class k c ≡ false
apart_below k c l = by (same_class k c) refl
  where
    by : (b : Bool) → same_class k c ≡ b → b ≡ false
    by false e = refl
    by true e = absurd (not_lower_itself c (ap (is_lower c) (sym (class-same k c e)) ∙ l))

pub apart_above : (k c : Class) → is_lower k c ≡ true → same_class k c ≡ false
apart_above k c l = by (same_class k c) refl
  where
    by : (b : Bool) → same_class k c ≡ b → b ≡ false
    by false e = refl
    by true e = absurd (not_lower_itself k (ap (is_lower k) (class-same k c e) ∙ l))

pub neither : (k c : Class) → is_lower c k ≡ false → is_lower k c ≡ false → same_class k c ≡ true
neither (patch a) (patch b) h l = let x = ltb-false b a h in let y = ltb-false a b l in eq-eqb a b (omega arith)
neither (patch a) (minor b) h l = absurd (true≢false l)
neither (patch a) (major b) h l = absurd (true≢false l)
neither (minor a) (patch b) h l = absurd (true≢false h)
neither (minor a) (minor b) h l = let x = ltb-false b a h in let y = ltb-false a b l in eq-eqb a b (omega arith)
neither (minor a) (major b) h l = absurd (true≢false l)
neither (major a) (patch b) h l = absurd (true≢false h)
neither (major a) (minor b) h l = absurd (true≢false h)
neither (major a) (major b) h l = let x = ltb-false b a h in let y = ltb-false a b l in eq-eqb a b (omega arith)

-- ---- versions that rise

-- the class of a version isn't below that of an older one
pub classes_rise : (v w : Parts) → precedence v w ≡ Less → is_lower (class_of w) (class_of v) ≡ false
classes_rise v w h = by (is_lower (class_of w) (class_of v)) refl
  where
    by : (b : Bool) → is_lower (class_of w) (class_of v) ≡ b → b ≡ false
    by false e = refl
    by true e = absurd (true≢false (sym (class_above w v e) ∙ ap is_gt h))

-- a test that older versions pass too
module _ (t : Parts → Bool) (older : (v w : Parts) → precedence v w ≡ Less → t w ≡ true → t v ≡ true) where
  pub parted : (vs : List Version) → AreRising vs → IsPartitionedBy (λ v. t (parts_of v)) vs
  parted vs rising i j d le within h = elim (cases_lt i j) [
    | inl less ↦ older (parts_of (get_or vs i d)) (parts_of (get_or vs j d)) (rising i j d less within) h
    | inr back ↦ let e : j ≡ i = omega arith in subst (λ n. t (parts_of (get_or vs n d)) ≡ true) e h
  ]

pub below_parted : (k : Class) (vs : List Version) → AreRising vs → IsPartitionedBy (λ v. is_below k (parts_of v)) vs
below_parted k = parted (is_below k) (λ v w less h. lower_first (class_of v) (class_of w) k (classes_rise v w less) h)

pub above_parted : (k : Class) (vs : List Version) → AreRising vs
    → IsPartitionedBy (λ v. not (is_above k (parts_of v))) vs
above_parted k = parted (λ v. not (is_above k v))
    (λ v w less h. by v w (lower_last k (class_of v) (class_of w) (classes_rise v w less)) h (is_above k v) refl)
  where
    by : (v w : Parts) → (is_above k v ≡ true → is_above k w ≡ true) → not (is_above k w) ≡ true → (b : Bool)
        → is_above k v ≡ b → not b ≡ true
    by v w f h false e = refl
    by v w f h true e = absurd (true≢false (sym h ∙ ap not (f e)))

-- ---- what lies between

module _ {X : Type 0} (p : X → Bool) where
  -- what fails at the front may be left out
  pub skipped : (xs : List X) (i : ℕ) → ((k : ℕ) (d : X) → k < i → k < length xs → p (get_or xs k d) ≡ false)
      → filter p xs ≡ filter p (drop i xs)
  skipped [] zero h = refl
  skipped [] (suc i) h = refl
  skipped (x ∷ xs) zero h = refl
  skipped (x ∷ xs) (suc i) h =
      ap (λ b. cond b (x ∷ filter p xs) (filter p xs)) (h 0 x (omega arith) (omega arith))
      ∙ skipped xs i (λ k d low within. h (suc k) d (omega (arith, low)) (omega (arith, within)))

  pub kept : (xs : List X) (j : ℕ) → j ≤ length xs → ((k : ℕ) (d : X) → k < j → p (get_or xs k d) ≡ true)
      → ((k : ℕ) (d : X) → j ≤ k → k < length xs → p (get_or xs k d) ≡ false) → filter p xs ≡ take j xs
  kept [] zero few low high = refl
  kept [] (suc j) few low high = absurd (omega (arith, few))
  kept (x ∷ xs) zero few low high =
      ap (λ b. cond b (x ∷ filter p xs) (filter p xs)) (high 0 x (omega arith) (omega arith))
      ∙ kept xs zero (omega arith) (λ k d less. absurd (omega (arith, less)))
      (λ k d more within. high (suc k) d (omega arith) (omega (arith, within)))
  kept (x ∷ xs) (suc j) few low high =
      ap (λ b. cond b (x ∷ filter p xs) (filter p xs)) (low 0 x (omega arith))
      ∙ ap (λ ys. x ∷ ys) (kept xs j (omega (arith, few)) (λ k d less. low (suc k) d (omega (arith, less)))
      (λ k d more within. high (suc k) d (omega (arith, more)) (omega (arith, within))))

  -- where all pass from a place on, and none before it
  pub all_pass : (xs : List X) → ((k : ℕ) (d : X) → k < length xs → p (get_or xs k d) ≡ true) → xs ≡ filter p xs
  all_pass [] h = refl
  all_pass (x ∷ xs) h =
      ap (λ ys. x ∷ ys) (all_pass xs (λ k d within. h (suc k) d (omega (arith, within))))
      ∙ sym (ap (λ b. cond b (x ∷ filter p xs) (filter p xs)) (h 0 x (omega arith)))

  pub from_there : (xs : List X) (i : ℕ) → ((k : ℕ) (d : X) → k < i → k < length xs → p (get_or xs k d) ≡ false)
      → ((k : ℕ) (d : X) → i ≤ k → k < length xs → p (get_or xs k d) ≡ true) → drop i xs ≡ filter p xs
  from_there [] zero low high = refl
  from_there [] (suc i) low high = refl
  from_there (x ∷ xs) zero low high = all_pass (x ∷ xs) (λ k d within. high k d (omega arith) within)
  from_there (x ∷ xs) (suc i) low high =
      from_there xs i (λ k d less within. low (suc k) d (omega (arith, less)) (omega (arith, within)))
      (λ k d more within. high (suc k) d (omega (arith, more)) (omega (arith, within)))
      ∙ sym (ap (λ b. cond b (x ∷ filter p xs) (filter p xs)) (low 0 x (omega arith) (omega arith)))

-- what stands beside versions, at the places of those
module _ {Y : Type 0} (g : Y → Parts) where
  as_many : (vs : List Version) (ys : List Y) → map parts_of vs ≡ map g ys → length vs ≡ length ys
  as_many vs ys same = sym (length-map vs parts_of) ∙ ap length same ∙ length-map ys g

  beside : (vs : List Version) (ys : List Y) → map parts_of vs ≡ map g ys → (n : ℕ) (d : Y) → n < length ys
      → (v : Version) × (parts_of (get_or vs n v) ≡ g (get_or ys n d))
  beside vs [] same n d within = absurd (omega (arith, within))
  beside [] (y ∷ ys) same n d within = absurd (omega (arith, as_many [] (y ∷ ys) same))
  beside (v ∷ vs) (y ∷ ys) same zero d within = (v, cc)
  beside (v ∷ vs) (y ∷ ys) same (suc n) d within =
      let rest : map parts_of vs ≡ map g ys = cc in beside vs ys rest n d (omega (arith, within))

  between : (k : Class) (vs : List Version) (ys : List Y) (i j : ℕ) → map parts_of vs ≡ map g ys
      → IsPartitionPoint (λ v. is_below k (parts_of v) ≡ true) (λ v. is_below k (parts_of v) ≡ false) vs i
      → j ≤ length (drop i vs)
      → IsPartitionPoint (λ v. not (is_above k (parts_of v)) ≡ true)
      (λ v. not (is_above k (parts_of v)) ≡ false) (drop i vs) j
      → take j (drop i ys) ≡ filter (λ y. is_of k (g y)) ys
  between k vs ys i j same first less last =
      let many = as_many vs ys same in
      let long = length-drop i vs in
      let wide = length-drop i ys in
      let rest : map parts_of (drop i vs) ≡ map g (drop i ys)
      = sym (drop-map parts_of i vs) ∙ ap (drop i) same ∙ drop-map g i ys in
      sym (skipped (λ y. is_of k (g y)) ys i
      (λ n d low within. let b = beside vs ys same n d within in subst (λ v. same_class k (class_of v) ≡ false) b.1
      (apart_below k (class_of (parts_of (get_or vs n b.0))) (first.0 n b.0 (omega arith) low)))
      ∙ kept (λ y. is_of k (g y)) (drop i ys) j (omega (arith, less, many, long, wide))
      (λ n d low. let b = beside (drop i vs) (drop i ys) rest n d (omega (arith, low, less, many, long, wide)) in
      subst (λ v. same_class k (class_of v) ≡ true) b.1
      (neither k (class_of (parts_of (get_or (drop i vs) n b.0)))
      (subst (λ v. is_below k (parts_of v) ≡ false) (sym (get_or-drop i vs n b.0))
      (first.1 (i + n) b.0 (omega arith) (omega arith)))
      (not-true (is_above k (parts_of (get_or (drop i vs) n b.0))) (last.0 n b.0 (omega arith) low))))
      (λ n d high within. let b = beside (drop i vs) (drop i ys) rest n d within in
      subst (λ v. same_class k (class_of v) ≡ false) b.1
      (apart_above k (class_of (parts_of (get_or (drop i vs) n b.0)))
      (not-false (is_above k (parts_of (get_or (drop i vs) n b.0)))
      (last.1 n b.0 high (omega (arith, within, many, long, wide)))))))

-- the versions of a class lie between those below it and those above it
pub piece_is : (k : Class) (vs : List Version) (i j : ℕ)
    → IsPartitionPoint (λ v. is_below k (parts_of v) ≡ true) (λ v. is_below k (parts_of v) ≡ false) vs i
    → j ≤ length (take (length vs - i) (drop i vs))
    → IsPartitionPoint (λ v. not (is_above k (parts_of v)) ≡ true)
    (λ v. not (is_above k (parts_of v)) ≡ false) (take (length vs - i) (drop i vs)) j
    → take j (take (length vs - i) (drop i vs)) ≡ filter (λ v. is_of k (parts_of v)) vs
piece_is k vs i j first = rw (take_rest vs i) (λ less last. between parts_of k vs vs i j refl first less last)

-- and those above it are last
pub above_is : (k : Class) (vs : List Version) (i : ℕ)
    → IsPartitionPoint (λ v. not (is_above k (parts_of v)) ≡ true) (λ v. not (is_above k (parts_of v)) ≡ false) vs i
    → take (length vs - i) (drop i vs) ≡ filter (λ v. is_above k (parts_of v)) vs
above_is k vs i point = take_rest vs i ∙ from_there (λ v. is_above k (parts_of v)) vs i
    (λ n d low within. not-true (is_above k (parts_of (get_or vs n d))) (point.0 n d (omega arith) low))
    (λ n d high within. not-false (is_above k (parts_of (get_or vs n d))) (point.1 n d high within))

-- so does what is said of their candidates, which lie beside them
pub said_between : (k : Class) (vs : List Version) (cs : List Candidate) (rs : List Record) (i j : ℕ)
    → map parts_of vs ≡ map (λ (r : Record). r.version) rs → map said_by cs ≡ map said rs
    → IsPartitionPoint (λ v. is_below k (parts_of v) ≡ true) (λ v. is_below k (parts_of v) ≡ false) vs i
    → j ≤ length (take (length vs - i) (drop i vs))
    → IsPartitionPoint (λ v. not (is_above k (parts_of v)) ≡ true)
    (λ v. not (is_above k (parts_of v)) ≡ false) (take (length vs - i) (drop i vs)) j
    → map said_by (take j (take (length cs - i) (drop i cs)))
    ≡ map said (filter (λ (r : Record). is_of k r.version) rs)
said_between k vs cs rs i j same told first = rw (take_rest vs i, take_rest cs i)
    (λ less last. sym (take-map said_by j (drop i cs))
    ∙ ap (take j) (sym (drop-map said_by i cs) ∙ ap (drop i) told ∙ drop-map said i rs) ∙ take-map said j (drop i rs)
    ∙ ap (map said) (between (λ (r : Record). r.version) k vs rs i j same first less last))

-- ---- as parts

pub parts_filtered : (t : Parts → Bool) (vs : List Version)
    → map parts_of (filter (λ v. t (parts_of v)) vs) ≡ filter t (map parts_of vs)
parts_filtered t [] = refl
parts_filtered t (v ∷ vs) = by (t (parts_of v)) (parts_filtered t vs)
  where
    by : (b : Bool) → map parts_of (filter (λ v. t (parts_of v)) vs) ≡ filter t (map parts_of vs)
        → map parts_of (cond b (v ∷ filter (λ v. t (parts_of v)) vs) (filter (λ v. t (parts_of v)) vs))
        ≡ cond b (parts_of v ∷ filter t (map parts_of vs)) (filter t (map parts_of vs))
    by true e = ap (λ ps. parts_of v ∷ ps) e
    by false e = e
