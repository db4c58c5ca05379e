-- The classes of what passes, found by hops: what follows in a class that is found adds nothing.
use Rattle.std.proofs.Common.{◌≡◌, ◌<◌, ◌-◌, suc, Bool, true, false, not, cond, List, [], ◌∷◌, ◌++◌, length, map}
use Rattle.std.proofs.Common.{filter, take, drop, get_or, refl, sym, ap, ◌∙◌, subst, arith}
use Rattle.std.specs.List.{All}
use Rattle.std.specs.declared.cmp.Ordering.TheVariants.{Less}
use Rattle.std.proofs.lemmas.List.{take_rest}
use Rattle.semver.specs.Eval.{precedence_cmp}
use Rattle.semver.specs.Identifiers.{parts_of}
use Rattle.semver.specs.Parse.{Parts}
use Rattle.semver.specs.declared.Version.{Version}
use Rattle.model.specs.Axioms.{is_lower}
use Rattle.model.specs.Selection.{Class, class_of}
use Rattle.model.specs.Vertices.{same_class}
use Rattle.model.proofs.Lists.{all_first, all_rest, pairs_rest}
use Rattle.model.proofs.Same.{class-same}
use Rattle.classes.specs.Groups.{each_once}
use Rattle.lookups.specs.inner.Ranges.{AreRising, is_above}
use Rattle.lookups.proofs.Pieces.{apart_above, classes_rise, neither}

-- ---- what is left after the first

abbrev pub later_than_first : List Version → List Version
later_than_first vs = take (length vs - 1) (drop 1 vs)

pub later_rise : (vs : List Version) → AreRising vs → AreRising (later_than_first vs)
later_rise [] rising = subst AreRising (sym (take_rest [] 1)) rising
later_rise (v ∷ vs) rising =
    subst AreRising (sym (take_rest (v ∷ vs) 1)) (pairs_rest (λ v w. precedence_cmp v w ≡ Less) v vs rising)

pub fewer : (p : Version → Bool) (vs : List Version) → 0 < length vs
    → length (filter p (later_than_first vs)) < length vs
fewer p [] some = absurd (omega (arith, some))
fewer p (v ∷ vs) some = subst (λ ls. length (filter p ls) < suc (length vs)) (sym (take_rest (v ∷ vs) 1)) (none_more vs)
  where
    none_more : (vs : List Version) → length (filter p vs) < suc (length vs)
    none_more [] = omega arith
    none_more (v ∷ vs) = by (p v) (none_more vs)
      where
        by : (b : Bool) → length (filter p vs) < suc (length vs)
            → length (cond b (v ∷ filter p vs) (filter p vs)) < suc (suc (length vs))
        by true h = omega (arith, h)
        by false h = omega (arith, h)

-- one that is put at the end of a list stands before what follows the list
pub onto : {A B : Type 0} (f : A → B) (xs : List A) (x : A) (ys : List B)
    → map f (xs ++ x ∷ []) ++ ys ≡ map f xs ++ f x ∷ ys
onto f [] x ys = refl
onto f (z ∷ xs) x ys = ap (λ l. f z ∷ l) (onto f xs x ys)

-- ---- lists without some

module _ {X : Type 0} (p q : X → Bool) where
  -- in either order
  pub either_first : (xs : List X) → filter p (filter q xs) ≡ filter q (filter p xs)
  either_first [] = refl
  either_first (x ∷ xs) = by (p x) (q x) refl refl (either_first xs)
    where
      by : (a b : Bool) → p x ≡ a → q x ≡ b → filter p (filter q xs) ≡ filter q (filter p xs)
          → filter p (cond (q x) (x ∷ filter q xs) (filter q xs))
          ≡ filter q (cond (p x) (x ∷ filter p xs) (filter p xs))
      by true true e f rest =
          ap (λ b. filter p (cond b (x ∷ filter q xs) (filter q xs))) f
          ∙ ap (λ b. cond b (x ∷ filter p (filter q xs)) (filter p (filter q xs))) e
          ∙ ap (λ l. x ∷ l) rest
          ∙ sym (ap (λ b. filter q (cond b (x ∷ filter p xs) (filter p xs))) e
          ∙ ap (λ b. cond b (x ∷ filter q (filter p xs)) (filter q (filter p xs))) f)
      by true false e f rest =
          ap (λ b. filter p (cond b (x ∷ filter q xs) (filter q xs))) f ∙ rest
          ∙ sym (ap (λ b. filter q (cond b (x ∷ filter p xs) (filter p xs))) e
          ∙ ap (λ b. cond b (x ∷ filter q (filter p xs)) (filter q (filter p xs))) f)
      by false true e f rest =
          ap (λ b. filter p (cond b (x ∷ filter q xs) (filter q xs))) f
          ∙ ap (λ b. cond b (x ∷ filter p (filter q xs)) (filter p (filter q xs))) e ∙ rest
          ∙ sym (ap (λ b. filter q (cond b (x ∷ filter p xs) (filter p xs))) e)
      by false false e f rest =
          ap (λ b. filter p (cond b (x ∷ filter q xs) (filter q xs))) f ∙ rest
          ∙ sym (ap (λ b. filter q (cond b (x ∷ filter p xs) (filter p xs))) e)

pub twice : {X : Type 0} (p : X → Bool) (xs : List X) → filter p (filter p xs) ≡ filter p xs
twice p [] = refl
twice p (x ∷ xs) = by (p x) refl (twice p xs)
  where
    by : (b : Bool) → p x ≡ b → filter p (filter p xs) ≡ filter p xs
        → filter p (cond b (x ∷ filter p xs) (filter p xs)) ≡ cond b (x ∷ filter p xs) (filter p xs)
    by true e rest = ap (λ b. cond b (x ∷ filter p (filter p xs)) (filter p (filter p xs))) e ∙ ap (λ l. x ∷ l) rest
    by false e rest = rest

-- ---- what a class adds

abbrev pub without : Class → List Class → List Class
without k ks = filter (λ c. not (same_class k c)) ks

module _ (t : Parts → Bool) where
  abbrev pub found : List Version → List Class
  found vs = each_once (map class_of (filter t (map parts_of vs)))

  -- the classes where one more passes, or doesn't
  abbrev found_with : Bool → Version → List Version → List Class
  found_with b v vs = each_once (map class_of (cond b
      (parts_of v ∷ filter t (map parts_of vs))
      (filter t (map parts_of vs))))

  -- of versions that aren't below a class those above it have the other classes
  others_of : (k : Class) (vs : List Version) → All (λ v. is_lower (class_of (parts_of v)) k ≡ false) vs
      → found (filter (λ v. is_above k (parts_of v)) vs) ≡ without k (found vs)
  others_of k [] not_below = refl
  others_of k (v ∷ vs) not_below = by (t (parts_of v)) (is_above k (parts_of v)) refl refl
      (others_of k vs (all_rest (λ v. is_lower (class_of (parts_of v)) k ≡ false) v vs not_below))
    where
      c : Class
      c = class_of (parts_of v)

      above : List Version
      above = filter (λ v. is_above k (parts_of v)) vs

      here : same_class k c ≡ true → without k (without c (found vs)) ≡ without k (found vs)
      here e = subst (λ d. without k (without d (found vs)) ≡ without k (found vs)) (class-same k c e)
          (twice (λ d. not (same_class k d)) (found vs))

      by : (m b : Bool) → t (parts_of v) ≡ m → is_above k (parts_of v) ≡ b
          → found above ≡ without k (found vs)
          → found (cond b (v ∷ above) above) ≡ without k (found_with m v vs)
      by false true e f rest = ap (λ m. found_with m v above) e ∙ rest
      by false false e f rest = rest
      by true true e f rest =
          ap (λ m. found_with m v above) e
          ∙ ap (λ ks. c ∷ without c ks) rest
          ∙ ap (λ ks. c ∷ ks) (either_first (λ d. not (same_class c d)) (λ d. not (same_class k d)) (found vs))
          ∙ sym (ap (λ b. cond (not b) (c ∷ without k (without c (found vs))) (without k (without c (found vs))))
          (apart_above k c f))
      by true false e f rest =
          let s = neither k c (all_first (λ v. is_lower (class_of (parts_of v)) k ≡ false) v vs not_below) f in
          rest ∙ sym (here s)
          ∙ sym (ap (λ b. cond (not b) (c ∷ without k (without c (found vs))) (without k (without c (found vs)))) s)

  pub passed : (vs : List Version) → 0 < length vs → (v : Version) → v ≡ get_or vs 0 v
      → t (parts_of v) ≡ false → found (later_than_first vs) ≡ found vs
  passed [] some v is e = absurd (omega (arith, some))
  passed (w ∷ ws) some v is e = ap found (take_rest (w ∷ ws) 1)
      ∙ ap (λ m. found_with m w ws) (sym (ap (λ u. t (parts_of u)) (sym is) ∙ e))

  pub taken : (vs : List Version) → 0 < length vs → (v : Version) → v ≡ get_or vs 0 v → AreRising vs
      → t (parts_of v) ≡ true
      → class_of (parts_of v)
      ∷ found (filter (λ w. is_above (class_of (parts_of v)) (parts_of w)) (later_than_first vs))
      ≡ found vs
  taken [] some v is rising e = absurd (omega (arith, some))
  taken (w ∷ ws) some v is rising e =
      subst (λ u. class_of (parts_of u)
      ∷ found (filter (λ w. is_above (class_of (parts_of u)) (parts_of w)) (later_than_first (w ∷ ws)))
      ≡ found (w ∷ ws)) (sym is)
      (ap (λ ls. k ∷ found (filter (λ u. is_above k (parts_of u)) ls)) (take_rest (w ∷ ws) 1)
      ∙ ap (λ ks. k ∷ ks) (others_of k ws (λ n d within. classes_rise (parts_of w) (parts_of (get_or ws n d))
      (rising 0 (suc n) d (omega arith) (omega arith))))
      ∙ ap (λ m. found_with m w ws) (sym (ap (λ u. t (parts_of u)) (sym is) ∙ e)))
    where
      k : Class
      k = class_of (parts_of w)

-- ---- all classes

abbrev pub every : List Version → List Class
every vs = each_once (map class_of (map parts_of vs))

all_kept : (ps : List Parts) → filter (λ p. true) ps ≡ ps
all_kept [] = refl
all_kept (p ∷ ps) = ap (λ qs. p ∷ qs) (all_kept ps)

found_all : (vs : List Version) → found (λ p. true) vs ≡ every vs
found_all vs = ap (λ ps. each_once (map class_of ps)) (all_kept (map parts_of vs))

-- that of the first, and those of the versions above it
pub first_and_above : (vs : List Version) → 0 < length vs → (v : Version) → v ≡ get_or vs 0 v → AreRising vs
    → class_of (parts_of v)
    ∷ every (filter (λ w. is_above (class_of (parts_of v)) (parts_of w)) (later_than_first vs))
    ≡ every vs
first_and_above vs some v is rising =
    let k = class_of (parts_of v) in
    ap (λ ks. k ∷ ks) (sym (found_all (filter (λ w. is_above k (parts_of w)) (later_than_first vs))))
    ∙ taken (λ p. true) vs some v is rising refl ∙ found_all vs
