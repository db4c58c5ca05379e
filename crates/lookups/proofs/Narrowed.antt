-- What is left out by the bounds of a requirement isn't matched.
use Rattle.std.proofs.Common.{◌≡◌, ℕ, zero, suc, ◌-◌, ◌<◌, ◌≤◌, Bool, true, false, not, cond, ◌||◌, List, [], ◌∷◌, map}
use Rattle.std.proofs.Common.{filter, take, drop, length, get_or, refl, sym, ap, ◌∙◌, arith, true≢false}
use Rattle.std.specs.List.{list_any}
use Rattle.std.specs.List.Sorted.{IsPartitionedBy, IsPartitionPoint}
use Rattle.std.proofs.lemmas.Bool.{not-false, not-true}
use Rattle.std.proofs.lemmas.List.{take_rest}
use Rattle.semver.specs.EvalViews.{matches_views}
use Rattle.semver.specs.Identifiers.{parts_of}
use Rattle.semver.specs.Parse.{Held, Parts}
use Rattle.semver.specs.declared.Version.{Version}
use Rattle.model.proofs.Mapped.{any-map}
use Rattle.catalogue.specs.inner.Bounds.{is_beyond, is_short}
use Rattle.catalogue.proofs.Bounded.{beyond_after, not_beyond, not_short, short_before}
use Rattle.lookups.specs.inner.Ranges.{AreRising}
use Rattle.lookups.proofs.Pieces.{parted, parts_filtered, skipped}

pub short_parted : (cs : List Held) (vs : List Version) → AreRising vs
    → IsPartitionedBy (λ v. is_short cs (parts_of v)) vs
short_parted cs = parted (is_short cs) (short_before cs)

pub beyond_parted : (cs : List Held) (vs : List Version) → AreRising vs
    → IsPartitionedBy (λ v. not (is_beyond cs (parts_of v))) vs
beyond_parted cs = parted (λ v. not (is_beyond cs v))
    (λ v w less h. by v w (is_beyond cs v) refl (beyond_after cs v w less) (not-true (is_beyond cs w) h))
  where
    by : (v w : Parts) (b : Bool) → is_beyond cs v ≡ b → (is_beyond cs v ≡ true → is_beyond cs w ≡ true)
        → is_beyond cs w ≡ false → not b ≡ true
    by v w false e f n = refl
    by v w true e f n = absurd (true≢false (sym (f e) ∙ n))

-- ---- what is cut off

module _ {X : Type 0} (p : X → Bool) where
  -- what fails at the end may be left out
  cut : (xs : List X) (j : ℕ) → ((k : ℕ) (d : X) → j ≤ k → k < length xs → p (get_or xs k d) ≡ false)
      → filter p (take j xs) ≡ filter p xs
  cut [] zero h = refl
  cut [] (suc j) h = refl
  cut (x ∷ xs) zero h =
      cut xs zero (λ k d low within. h (suc k) d (omega arith) (omega (arith, within)))
      ∙ sym (ap (λ b. cond b (x ∷ filter p xs) (filter p xs)) (h 0 x (omega arith) (omega arith)))
  cut (x ∷ xs) (suc j) h =
      ap (λ ys. cond (p x) (x ∷ ys) ys)
      (cut xs j (λ k d low within. h (suc k) d (omega (arith, low)) (omega (arith, within))))

fails : (t s : Bool) → (t ≡ true → s ≡ false) → s ≡ true → t ≡ false
fails false s f e = refl
fails true s f e = absurd (true≢false (sym e ∙ f refl))

-- so is what stands before the place up to which all are too old, ..
pub too_old_fails : (cs : List Held) (vs : List Version) (i : ℕ)
    → IsPartitionPoint (λ v. is_short cs (parts_of v) ≡ true) (λ v. is_short cs (parts_of v) ≡ false) vs i
    → (n : ℕ) (d : Version) → n < i → matches_views cs (parts_of (get_or vs n d)) ≡ false
too_old_fails cs vs i point n d low = let v = parts_of (get_or vs n d) in
    fails (matches_views cs v) (is_short cs v) (not_short cs v) (point.0 n d (omega arith) low)

-- .. and what stands from the place on from which all are too new
pub too_new_fails : (cs : List Held) (vs : List Version) (j : ℕ)
    → IsPartitionPoint (λ v. not (is_beyond cs (parts_of v)) ≡ true)
    (λ v. not (is_beyond cs (parts_of v)) ≡ false) vs j
    → (n : ℕ) (d : Version) → j ≤ n → n < length vs → matches_views cs (parts_of (get_or vs n d)) ≡ false
too_new_fails cs vs j point n d high within = let v = parts_of (get_or vs n d) in
    fails (matches_views cs v) (is_beyond cs v) (not_beyond cs v) (not-false (is_beyond cs v) (point.1 n d high within))

between : (cs : List Held) (vs : List Version) (i j : ℕ)
    → IsPartitionPoint (λ v. is_short cs (parts_of v) ≡ true) (λ v. is_short cs (parts_of v) ≡ false) vs i
    → IsPartitionPoint (λ v. not (is_beyond cs (parts_of v)) ≡ true)
    (λ v. not (is_beyond cs (parts_of v)) ≡ false) (drop i vs) j
    → filter (λ v. matches_views cs (parts_of v)) (take j (drop i vs))
    ≡ filter (λ v. matches_views cs (parts_of v)) vs
between cs vs i j first last =
    let t : Version → Bool = λ v. matches_views cs (parts_of v) in
    cut t (drop i vs) j (λ k d low within. let v = parts_of (get_or (drop i vs) k d) in
    fails (matches_views cs v) (is_beyond cs v) (not_beyond cs v)
    (not-false (is_beyond cs v) (last.1 k d low within)))
    ∙ sym (skipped t vs i (λ k d low within. let v = parts_of (get_or vs k d) in
    fails (matches_views cs v) (is_short cs v) (not_short cs v) (first.0 k d (omega arith) low)))

pub narrowed : (cs : List Held) (vs : List Version) (i j : ℕ)
    → IsPartitionPoint (λ v. is_short cs (parts_of v) ≡ true) (λ v. is_short cs (parts_of v) ≡ false) vs i
    → IsPartitionPoint (λ v. not (is_beyond cs (parts_of v)) ≡ true)
    (λ v. not (is_beyond cs (parts_of v)) ≡ false) (take (length vs - i) (drop i vs)) j
    → filter (matches_views cs) (map parts_of (take j (take (length vs - i) (drop i vs))))
    ≡ filter (matches_views cs) (map parts_of vs)
narrowed cs vs i j first = rw (take_rest vs i) (λ last.
    sym (parts_filtered (matches_views cs) (take j (drop i vs)))
    ∙ ap (map parts_of) (between cs vs i j first last) ∙ parts_filtered (matches_views cs) vs)

-- ---- whether there is one

abbrev is_some_of : {X : Type 0} → List X → Bool
is_some_of [] = false
is_some_of (x ∷ xs) = true

any_is : (t : Parts → Bool) (vs : List Parts) → list_any t vs ≡ is_some_of (filter t vs)
any_is t [] = refl
any_is t (v ∷ vs) = by (t v) (any_is t vs)
  where
    by : (b : Bool) → list_any t vs ≡ is_some_of (filter t vs)
        → (b || list_any t vs) ≡ is_some_of (cond b (v ∷ filter t vs) (filter t vs))
    by true e = refl
    by false e = e

-- where the same pass, some pass of both
pub same_any : (t : Parts → Bool) (vs ws : List Version) → filter t (map parts_of vs) ≡ filter t (map parts_of ws)
    → list_any (λ v. t (parts_of v)) vs ≡ list_any (λ v. t (parts_of v)) ws
same_any t vs ws same =
    sym (any-map t parts_of vs) ∙ any_is t (map parts_of vs) ∙ ap is_some_of same ∙ sym (any_is t (map parts_of ws))
    ∙ any-map t parts_of ws
