-- The target of a dependency is the last package of the list that serves it, and classes are ordered as versions are.
use Rattle.std.proofs.Common.{◌≡◌, ℕ, ◌<◌, ◌≤◌, List, [], ◌∷◌, Bool, true, false, cond, Contains, Option, Some, None}
use Rattle.std.proofs.Common.{slice_get, refl, sym, ap, ◌∙◌, subst, inl, inr, ◌⊎◌, arith, true≢false, nat_lt, nat_cmp}
use Rattle.std.proofs.Common.{is_gt, Equal, Greater}
use Rattle.std.specs.List.{AllPairs}
use Rattle.std.specs.Ordering.{ordering_then}
use Rattle.std.specs.Cmp.{nat_cmp_is}
use Rattle.std.proofs.lemmas.Bool.{ltb-true, ltb-false}
use Rattle.std.proofs.lemmas.Option.{none-some, same_Some}
use Rattle.semver.specs.Parse.{Parts}
use Rattle.semver.specs.Order.{pre_cmp}
use Rattle.model.specs.Summary.{Dependency}
use Rattle.model.specs.Content.{Content, serves_if, or_this, last_serving}
use Rattle.model.specs.Selection.{Class, patch, minor, major, class_of}
use Rattle.model.specs.Axioms.{is_lower}
use Rattle.model.specs.Order.{precedence}
use Rattle.model.proofs.Lists.{in_none, in_cons, in_first, in_rest, pairs_first, pairs_rest}

module _ (content : Content) (d : Dependency) where
  abbrev pub Serves : ℕ → Type 0
  Serves t = serves_if d (slice_get content t) ≡ true

  pub none_serves : (is : List ℕ) (u : ℕ) → last_serving content d is ≡ None → Contains is u → Serves u → ⊥
  none_serves [] u e c h = in_none u c
  none_serves (i ∷ is) u e c h = by (λ e c. none_serves is u e c h) (serves_if d (slice_get content i))
      (last_serving content d is) refl refl e (in_cons i u is c)
    where
      by : (last_serving content d is ≡ None → Contains is u → ⊥) → (s : Bool) (o : Option ℕ)
          → serves_if d (slice_get content i) ≡ s → last_serving content d is ≡ o
          → or_this s i o ≡ None → (i ≡ u) ⊎ Contains is u → ⊥
      by rest true None se oe e c = none-some i (sym e)
      by rest true (Some j) se oe e c = none-some j (sym e)
      by rest false (Some j) se oe e c = none-some j (sym e)
      by rest false None se oe e (inl s) = true≢false (sym h ∙ ap (λ t. serves_if d (slice_get content t)) (sym s) ∙ se)
      by rest false None se oe e (inr c) = rest oe c

  pub record IsLast (is : List ℕ) (t : ℕ) : Type 0 where
    pub listed : Contains is t
    pub serving : Serves t
    pub last : AllPairs (λ i j. i < j) is → (u : ℕ) → Contains is u → Serves u → u ≤ t

  pub last_is : (is : List ℕ) (t : ℕ) → last_serving content d is ≡ Some t → IsLast is t
  last_is [] t e = absurd (none-some t e)
  last_is (i ∷ is) t e =
      by (λ e. last_is is t e) (serves_if d (slice_get content i)) (last_serving content d is) refl refl e
    where
      later : IsLast is t → IsLast (i ∷ is) t
      later l = record {
        listed = in_rest i t is l.listed;
        serving = l.serving;
        last = λ up u c h. elim (in_cons i u is c) [
          | inl s ↦ let lt : i < t = pairs_first (λ i j. i < j) i t is up l.listed in omega arith
          | inr c ↦ l.last (pairs_rest (λ i j. i < j) i is up) u c h
        ];
      }

      only : serves_if d (slice_get content i) ≡ true → last_serving content d is ≡ None → i ≡ t → IsLast (i ∷ is) t
      only se oe e = record {
        listed = subst (λ k. Contains (i ∷ is) k) e (in_first i is);
        serving = subst Serves e se;
        last = λ up u c h. elim (in_cons i u is c) [ inl s ↦ omega arith | inr c ↦ absurd (none_serves is u oe c h) ];
      }

      by : (last_serving content d is ≡ Some t → IsLast is t) → (s : Bool) (o : Option ℕ)
          → serves_if d (slice_get content i) ≡ s → last_serving content d is ≡ o
          → or_this s i o ≡ Some t → IsLast (i ∷ is) t
      by rest true None se oe e = only se oe (same_Some i t e)
      by rest false None se oe e = absurd (none-some t e)
      by rest true (Some j) se oe e = later (rest (oe ∙ e))
      by rest false (Some j) se oe e = later (rest (oe ∙ e))

-- the first of the three numbers that differs is lower
abbrev IsBelow : Parts → Parts → Type 0
IsBelow v w = (v.0 < w.0) ⊎ (((v.0 ≡ w.0) × (v.1 < w.1)) ⊎ ((v.0 ≡ w.0) × (v.1 ≡ w.1) × (v.2 < w.2)))

below : (v w : Parts) → is_lower (class_of v) (class_of w) ≡ true → IsBelow v w
below v w h = by (nat_lt 0 v.0) (nat_lt 0 v.1) (nat_lt 0 w.0) (nat_lt 0 w.1) refl refl refl refl h
  where
    by : (a b c e : Bool) → nat_lt 0 v.0 ≡ a → nat_lt 0 v.1 ≡ b → nat_lt 0 w.0 ≡ c → nat_lt 0 w.1 ≡ e
        → is_lower (cond a (major v.0) (cond b (minor v.1) (patch v.2)))
        (cond c (major w.0) (cond e (minor w.1) (patch w.2))) ≡ true → IsBelow v w
    by true b true e p q r s h = inl (ltb-true v.0 w.0 h)
    by true b false true p q r s h = absurd (true≢false (sym h))
    by true b false false p q r s h = absurd (true≢false (sym h))
    by false true true e p q r s h = inl (let x = ltb-false 0 v.0 p in let y = ltb-true 0 w.0 r in omega arith)
    by false true false true p q r s h =
        inr (inl ((let x = ltb-false 0 v.0 p in let y = ltb-false 0 w.0 r in omega arith), ltb-true v.1 w.1 h))
    by false true false false p q r s h = absurd (true≢false (sym h))
    by false false true e p q r s h = inl (let x = ltb-false 0 v.0 p in let y = ltb-true 0 w.0 r in omega arith)
    by false false false true p q r s h =
        inr (inl (
          (let x = ltb-false 0 v.0 p in let y = ltb-false 0 w.0 r in omega arith),
          let x =
              ltb-false 0 v.1 q in let y = ltb-true 0 w.1 s in omega arith,
        ))
    by false false false false p q r s h =
        inr (inr (
          (let x = ltb-false 0 v.0 p in let y = ltb-false 0 w.0 r in omega arith),
          (let x = ltb-false 0 v.1 q in let y = ltb-false 0 w.1 s in omega arith),
          ltb-true v.2 w.2 h,
        ))

greater : (x y : ℕ) → y < x → nat_cmp x y ≡ Greater
greater x y lt = sym (nat_cmp_is x y Greater lt)

equal : (x y : ℕ) → x ≡ y → nat_cmp x y ≡ Equal
equal x y e = sym (nat_cmp_is x y Equal e)

above : (v w : Parts) → IsBelow v w → is_gt (precedence w v) ≡ true
above v w (inl lt) = ap (λ r. is_gt (ordering_then r
    (ordering_then (nat_cmp w.1 v.1) (ordering_then (nat_cmp w.2 v.2) (pre_cmp (w.3) (v.3)))))) (greater w.0 v.0 lt)
above v w (inr (inl h)) =
    ap (λ r. is_gt
    (ordering_then r (ordering_then (nat_cmp w.1 v.1) (ordering_then (nat_cmp w.2 v.2) (pre_cmp (w.3) (v.3))))))
    (equal w.0 v.0 (sym h.0))
    ∙ ap (λ r. is_gt (ordering_then r (ordering_then (nat_cmp w.2 v.2) (pre_cmp (w.3) (v.3))))) (greater w.1 v.1 h.1)
above v w (inr (inr h)) =
    ap (λ r. is_gt
    (ordering_then r (ordering_then (nat_cmp w.1 v.1) (ordering_then (nat_cmp w.2 v.2) (pre_cmp (w.3) (v.3))))))
    (equal w.0 v.0 (sym h.0))
    ∙ ap (λ r. is_gt (ordering_then r (ordering_then (nat_cmp w.2 v.2) (pre_cmp (w.3) (v.3)))))
    (equal w.1 v.1 (sym h.1))
    ∙ ap (λ r. is_gt (ordering_then r (pre_cmp (w.3) (v.3)))) (greater w.2 v.2 h.2)

-- a version of a higher class comes after one of a lower class
pub class_above : (v w : Parts) → is_lower (class_of v) (class_of w) ≡ true → is_gt (precedence w v) ≡ true
class_above v w h = above v w (below v w h)

pub not_lower_itself : (k : Class) → is_lower k k ≡ true → ⊥
not_lower_itself (patch a) h = let lt = ltb-true a a h in omega arith
not_lower_itself (minor a) h = let lt = ltb-true a a h in omega arith
not_lower_itself (major a) h = let lt = ltb-true a a h in omega arith
