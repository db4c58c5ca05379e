-- What is out of the bounds isn't matched, and what is further out is out of them too.
use Rattle.std.proofs.Common.{◌≡◌, ℕ, ◌<◌, ◌≤◌, ◌==◌, Bool, true, false, cond, ◌&&◌, ◌||◌, List, [], ◌∷◌, Option, Some}
use Rattle.std.proofs.Common.{None, nat_lt, nat_le, Ordering, refl, sym, ap, ◌∙◌, arith, true≢false}
use Rattle.std.specs.List.{list_all, list_any}
use Rattle.std.specs.Ordering.{is_gt, is_lt, nat_cmp, ordering_then}
use Rattle.std.specs.Cmp.{nat_cmp_is}
use Rattle.std.specs.declared.cmp.Ordering.TheVariants.{Less, Equal, Greater}
use Rattle.std.proofs.lemmas.Bool.{eqb-true, eqb-false, leb-true, lt-ltb, ltb-true, ltb-false}
use Rattle.semver.specs.Eval.{allows}
use Rattle.semver.specs.EvalViews.{matches_views, view_by_minor_of, view_by_patch, view_caret, view_caret_minor}
use Rattle.semver.specs.EvalViews.{view_caret_of, view_exact, view_greater, view_less, view_op, view_pre_at_least}
use Rattle.semver.specs.EvalViews.{view_caret_full, view_same_pre, view_tilde, view_tilde_patch}
use Rattle.semver.specs.Order.{pre_cmp}
use Rattle.semver.specs.Parse.{Held, Parts}
use Rattle.semver.specs.declared.Op.{Op}
use Rattle.semver.specs.declared.Op.TheVariants as op
use Rattle.model.specs.Order.{precedence}
use Rattle.catalogue.specs.inner.Bounds.{is_above, is_below, is_beyond, is_past_zero, is_short, number_cmp, numbers_cmp}
use Rattle.catalogue.specs.inner.Bounds.{has_lower, has_upper, minor_of, patch_of, upper_minor, upper_patch}

left_of : (a b : Bool) → (a && b) ≡ true → a ≡ true
left_of true b e = refl
left_of false b e = e

right_of : (a b : Bool) → (a && b) ≡ true → b ≡ true
right_of true b e = e
right_of false b e = absurd (true≢false (sym e))

less_is : (a b : ℕ) → a < b → nat_cmp a b ≡ Less
less_is a b h = sym (nat_cmp_is a b Less h)

same_is : (a b : ℕ) → a ≡ b → nat_cmp a b ≡ Equal
same_is a b h = sym (nat_cmp_is a b Equal h)

more_is : (a b : ℕ) → b < a → nat_cmp a b ≡ Greater
more_is a b h = sym (nat_cmp_is a b Greater h)

-- ---- one number

-- the numbers of an older version are no higher ..
older_less : (a b n : ℕ) (p r s : Ordering) → ordering_then (nat_cmp a b) p ≡ Less
    → is_lt (ordering_then (nat_cmp b n) s) ≡ true → (p ≡ Less → is_lt s ≡ true → is_lt r ≡ true)
    → is_lt (ordering_then (nat_cmp a n) r) ≡ true
older_less a b n p r s h l f = by (nat_lt a b) refl (a == b) refl (nat_lt b n) refl (b == n) refl h l
  where
    goes : (o : Ordering) → nat_cmp a n ≡ o → is_lt (ordering_then o r) ≡ true
        → is_lt (ordering_then (nat_cmp a n) r) ≡ true
    goes o e h = ap (λ x. is_lt (ordering_then x r)) e ∙ h

    by : (x : Bool) → nat_lt a b ≡ x → (y : Bool) → (a == b) ≡ y → (z : Bool) → nat_lt b n ≡ z → (w : Bool)
        → (b == n) ≡ w → ordering_then (cond x Less (cond y Equal Greater)) p ≡ Less
        → is_lt (ordering_then (cond z Less (cond w Equal Greater)) s) ≡ true
        → is_lt (ordering_then (nat_cmp a n) r) ≡ true
    by true x y e true z w i h l =
        let u = ltb-true a b x in let v = ltb-true b n z in goes Less (less_is a n (omega arith)) refl
    by true x y e false z true w h l =
        let u = ltb-true a b x in let v = eqb-true b n w in goes Less (less_is a n (omega arith)) refl
    by true x y e false z false w h l = absurd (true≢false (sym l))
    by false x true e true z w i h l =
        let u = eqb-true a b e in let v = ltb-true b n z in goes Less (less_is a n (omega arith)) refl
    by false x true e false z true w h l =
        let u = eqb-true a b e in let v = eqb-true b n w in goes Equal (same_is a n (u ∙ v)) (f h l)
    by false x true e false z false w h l = absurd (true≢false (sym l))
    by false x false e z i w j h l = let no : Greater ≡ Less = h in cc

-- .. and those of a newer one no lower
newer_more : (a b n : ℕ) (p r s : Ordering) → ordering_then (nat_cmp a b) p ≡ Less
    → is_gt (ordering_then (nat_cmp a n) r) ≡ true → (p ≡ Less → is_gt r ≡ true → is_gt s ≡ true)
    → is_gt (ordering_then (nat_cmp b n) s) ≡ true
newer_more a b n p r s h l f = by (nat_lt a b) refl (a == b) refl (nat_lt a n) refl (a == n) refl h l
  where
    goes : (o : Ordering) → nat_cmp b n ≡ o → is_gt (ordering_then o s) ≡ true
        → is_gt (ordering_then (nat_cmp b n) s) ≡ true
    goes o e h = ap (λ x. is_gt (ordering_then x s)) e ∙ h

    by : (x : Bool) → nat_lt a b ≡ x → (y : Bool) → (a == b) ≡ y → (z : Bool) → nat_lt a n ≡ z → (w : Bool)
        → (a == n) ≡ w → ordering_then (cond x Less (cond y Equal Greater)) p ≡ Less
        → is_gt (ordering_then (cond z Less (cond w Equal Greater)) r) ≡ true
        → is_gt (ordering_then (nat_cmp b n) s) ≡ true
    by x xe y ye true z w i h l = absurd (true≢false (sym l))
    by true x y e false z true w h l =
        let u = ltb-true a b x in let v = eqb-true a n w in goes Greater (more_is b n (omega arith)) refl
    by true x y e false z false w h l =
        let u = ltb-true a b x in let v = ltb-false a n z in goes Greater (more_is b n (omega arith)) refl
    by false x true e false z true w h l =
        let u = eqb-true a b e in let v = eqb-true a n w in goes Equal (same_is b n (sym u ∙ v)) (f h l)
    by false x true e false z false w h l =
        let u = eqb-true a b e in let v = ltb-false a n z in let o = eqb-false a n w in
        goes Greater (more_is b n (omega arith)) refl
    by false x false e false z w j h l = let no : Greater ≡ Less = h in cc

-- a number that is the other, or above it ..
at_least : (a n : ℕ) (t : Bool) (rest : Ordering) → cond (a == n) t (nat_lt n a) ≡ true
    → (t ≡ true → is_lt rest ≡ false) → is_lt (ordering_then (nat_cmp a n) rest) ≡ false
at_least a n t rest h f = by (a == n) refl h
  where
    by : (b : Bool) → (a == n) ≡ b → cond b t (nat_lt n a) ≡ true → is_lt (ordering_then (nat_cmp a n) rest) ≡ false
    by true e h = ap (λ x. is_lt (ordering_then x rest)) (same_is a n (eqb-true a n e)) ∙ f h
    by false e h = ap (λ x. is_lt (ordering_then x rest)) (more_is a n (ltb-true n a h))

-- .. or below it
at_most : (a n : ℕ) (t : Bool) (rest : Ordering) → cond (a == n) t (nat_lt a n) ≡ true
    → (t ≡ true → is_gt rest ≡ false) → is_gt (ordering_then (nat_cmp a n) rest) ≡ false
at_most a n t rest h f = by (a == n) refl h
  where
    by : (b : Bool) → (a == n) ≡ b → cond b t (nat_lt a n) ≡ true → is_gt (ordering_then (nat_cmp a n) rest) ≡ false
    by true e h = ap (λ x. is_gt (ordering_then x rest)) (same_is a n (eqb-true a n e)) ∙ f h
    by false e h = ap (λ x. is_gt (ordering_then x rest)) (less_is a n (ltb-true a n h))

then_same : (a n : ℕ) (rest : Ordering) → (a == n) ≡ true → ordering_then (nat_cmp a n) rest ≡ rest
then_same a n rest e = ap (λ x. ordering_then x rest) (same_is a n (eqb-true a n e))

-- ---- all numbers

module _ (v w : Parts) (less : precedence v w ≡ Less) where
  patch_less : (p : Option ℕ) → ordering_then (nat_cmp v.2 w.2) (pre_cmp (v.3) (w.3)) ≡ Less
      → is_lt (number_cmp w.2 p Equal) ≡ true → is_lt (number_cmp v.2 p Equal) ≡ true
  patch_less None h l = l
  patch_less (Some p) h l = older_less v.2 w.2 p (pre_cmp (v.3) (w.3)) Equal Equal h l (λ h l. l)

  minor_less : (m p : Option ℕ)
      → ordering_then (nat_cmp v.1 w.1) (ordering_then (nat_cmp v.2 w.2) (pre_cmp (v.3) (w.3))) ≡ Less
      → is_lt (number_cmp w.1 m (number_cmp w.2 p Equal)) ≡ true
      → is_lt (number_cmp v.1 m (number_cmp v.2 p Equal)) ≡ true
  minor_less None p h l = l
  minor_less (Some m) p h l = older_less v.1 w.1 m (ordering_then (nat_cmp v.2 w.2) (pre_cmp (v.3) (w.3)))
      (number_cmp v.2 p Equal) (number_cmp w.2 p Equal) h l (patch_less p)

  numbers_less : (n : ℕ) (m p : Option ℕ) → is_lt (numbers_cmp w n m p) ≡ true → is_lt (numbers_cmp v n m p) ≡ true
  numbers_less n m p l = older_less v.0 w.0 n
      (ordering_then (nat_cmp v.1 w.1) (ordering_then (nat_cmp v.2 w.2) (pre_cmp (v.3) (w.3))))
      (number_cmp v.1 m (number_cmp v.2 p Equal)) (number_cmp w.1 m (number_cmp w.2 p Equal)) less l (minor_less m p)

  patch_more : (p : Option ℕ) → ordering_then (nat_cmp v.2 w.2) (pre_cmp (v.3) (w.3)) ≡ Less
      → is_gt (number_cmp v.2 p Equal) ≡ true → is_gt (number_cmp w.2 p Equal) ≡ true
  patch_more None h l = l
  patch_more (Some p) h l = newer_more v.2 w.2 p (pre_cmp (v.3) (w.3)) Equal Equal h l (λ h l. l)

  minor_more : (m p : Option ℕ)
      → ordering_then (nat_cmp v.1 w.1) (ordering_then (nat_cmp v.2 w.2) (pre_cmp (v.3) (w.3))) ≡ Less
      → is_gt (number_cmp v.1 m (number_cmp v.2 p Equal)) ≡ true
      → is_gt (number_cmp w.1 m (number_cmp w.2 p Equal)) ≡ true
  minor_more None p h l = l
  minor_more (Some m) p h l = newer_more v.1 w.1 m (ordering_then (nat_cmp v.2 w.2) (pre_cmp (v.3) (w.3)))
      (number_cmp v.2 p Equal) (number_cmp w.2 p Equal) h l (patch_more p)

  numbers_more : (n : ℕ) (m p : Option ℕ) → is_gt (numbers_cmp v n m p) ≡ true → is_gt (numbers_cmp w n m p) ≡ true
  numbers_more n m p l = newer_more v.0 w.0 n
      (ordering_then (nat_cmp v.1 w.1) (ordering_then (nat_cmp v.2 w.2) (pre_cmp (v.3) (w.3))))
      (number_cmp v.1 m (number_cmp v.2 p Equal)) (number_cmp w.1 m (number_cmp w.2 p Equal)) less l (minor_more m p)

both_on : (a b c : Bool) → (b ≡ true → c ≡ true) → (a && b) ≡ true → (a && c) ≡ true
both_on true b c f e = f e
both_on false b c f e = e

any_on : (t s : Held → Bool) → ((c : Held) → t c ≡ true → s c ≡ true) → (cs : List Held) → list_any t cs ≡ true
    → list_any s cs ≡ true
any_on t s f [] e = e
any_on t s f (c ∷ cs) e = by (t c) refl (s c) refl (any_on t s f cs) e
  where
    by : (a : Bool) → t c ≡ a → (b : Bool) → s c ≡ b → (list_any t cs ≡ true → list_any s cs ≡ true)
        → (a || list_any t cs) ≡ true → (b || list_any s cs) ≡ true
    by a x true y f e = refl
    by true x false y g e = absurd (true≢false (sym (f c x) ∙ y))
    by false x false y g e = g e

-- what is older than what is too old is too
pub short_before : (cs : List Held) (v w : Parts) → precedence v w ≡ Less → is_short cs w ≡ true → is_short cs v ≡ true
short_before cs v w less = any_on (λ c. is_below c w) (λ c. is_below c v)
    (λ c. both_on (has_lower c.0) (is_lt (numbers_cmp w c.1 c.2 c.3)) (is_lt (numbers_cmp v c.1 c.2 c.3))
    (numbers_less v w less c.1 c.2 c.3)) cs

-- what is newer than what is too new is too
pub beyond_after : (cs : List Held) (v w : Parts) → precedence v w ≡ Less → is_beyond cs v ≡ true
    → is_beyond cs w ≡ true
beyond_after cs v w less = any_on (λ c. is_above c v) (λ c. is_above c w)
    (λ c. both_on (has_upper c.0) (is_gt (numbers_cmp v c.1 (upper_minor c) (upper_patch c)))
    (is_gt (numbers_cmp w c.1 (upper_minor c) (upper_patch c)))
    (numbers_more v w less c.1 (upper_minor c) (upper_patch c))) cs

-- ---- what is matched

if_both : (b t : Bool) → cond b t false ≡ true → (b ≡ true) × (t ≡ true)
if_both true t e = (refl, e)
if_both false t e = absurd (true≢false (sym e))

module _ (c : Held) (v : Parts) where
  same_numbers : (n : ℕ) (m p : Option ℕ) → (v.0 == n) ≡ true → allows m v.1 ≡ true → allows p v.2 ≡ true
      → numbers_cmp v n m p ≡ Equal
  same_numbers n m p a b d = then_same v.0 n (number_cmp v.1 m (number_cmp v.2 p Equal)) a ∙ minor m b
    where
      patch : (p : Option ℕ) → allows p v.2 ≡ true → number_cmp v.2 p Equal ≡ Equal
      patch None d = refl
      patch (Some p) d = then_same v.2 p Equal d

      minor : (m : Option ℕ) → allows m v.1 ≡ true → number_cmp v.1 m (number_cmp v.2 p Equal) ≡ Equal
      minor None b = refl
      minor (Some m) b = then_same v.1 m (number_cmp v.2 p Equal) b ∙ patch p d

  exact_numbers : view_exact c v ≡ true → numbers_cmp v c.1 c.2 c.3 ≡ Equal
  exact_numbers e =
      let all = left_of (((v.0 == c.1) && allows c.2 v.1) && allows c.3 v.2) (view_same_pre c v) e in
      let first = left_of ((v.0 == c.1) && allows c.2 v.1) (allows c.3 v.2) all in
      same_numbers c.1 c.2 c.3 (left_of (v.0 == c.1) (allows c.2 v.1) first)
      (right_of (v.0 == c.1) (allows c.2 v.1) first)
      (right_of ((v.0 == c.1) && allows c.2 v.1) (allows c.3 v.2) all)

  greater_numbers : view_greater c v ≡ true → is_lt (numbers_cmp v c.1 c.2 c.3) ≡ false
  greater_numbers e =
      at_least v.0 c.1 (view_by_minor_of (λ a b. nat_lt b a) (is_gt (pre_cmp (v.3) (c.4))) c.2 c v)
      (number_cmp v.1 c.2 (number_cmp v.2 c.3 Equal)) e (minor c.2)
    where
      patch : (p : Option ℕ) → view_by_patch (λ a b. nat_lt b a) (is_gt (pre_cmp (v.3) (c.4))) p v ≡ true
          → is_lt (number_cmp v.2 p Equal) ≡ false
      patch None e = absurd (true≢false (sym e))
      patch (Some p) e = at_least v.2 p (is_gt (pre_cmp (v.3) (c.4))) Equal e (λ e. refl)

      minor : (m : Option ℕ) → view_by_minor_of (λ a b. nat_lt b a) (is_gt (pre_cmp (v.3) (c.4))) m c v ≡ true
          → is_lt (number_cmp v.1 m (number_cmp v.2 c.3 Equal)) ≡ false
      minor None e = absurd (true≢false (sym e))
      minor (Some m) e = at_least v.1 m (view_by_patch (λ a b. nat_lt b a) (is_gt (pre_cmp (v.3) (c.4))) c.3 v)
          (number_cmp v.2 c.3 Equal) e (patch c.3)

  less_numbers : view_less c v ≡ true → is_gt (numbers_cmp v c.1 c.2 c.3) ≡ false
  less_numbers e =
      at_most v.0 c.1 (view_by_minor_of (λ a b. nat_lt a b) (is_lt (pre_cmp (v.3) (c.4))) c.2 c v)
      (number_cmp v.1 c.2 (number_cmp v.2 c.3 Equal)) e (minor c.2)
    where
      patch : (p : Option ℕ) → view_by_patch (λ a b. nat_lt a b) (is_lt (pre_cmp (v.3) (c.4))) p v ≡ true
          → is_gt (number_cmp v.2 p Equal) ≡ false
      patch None e = absurd (true≢false (sym e))
      patch (Some p) e = at_most v.2 p (is_lt (pre_cmp (v.3) (c.4))) Equal e (λ e. refl)

      minor : (m : Option ℕ) → view_by_minor_of (λ a b. nat_lt a b) (is_lt (pre_cmp (v.3) (c.4))) m c v ≡ true
          → is_gt (number_cmp v.1 m (number_cmp v.2 c.3 Equal)) ≡ false
      minor None e = absurd (true≢false (sym e))
      minor (Some m) e = at_most v.1 m (view_by_patch (λ a b. nat_lt a b) (is_lt (pre_cmp (v.3) (c.4))) c.3 v)
          (number_cmp v.2 c.3 Equal) e (patch c.3)

  tilde_lower : view_tilde c v ≡ true → is_lt (numbers_cmp v c.1 c.2 c.3) ≡ false
  tilde_lower e =
      let first = left_of ((v.0 == c.1) && allows c.2 v.1) (view_tilde_patch c.3 c v) e in
      let last = right_of ((v.0 == c.1) && allows c.2 v.1) (view_tilde_patch c.3 c v) e in
      ap is_lt (then_same v.0 c.1 (number_cmp v.1 c.2 (number_cmp v.2 c.3 Equal))
      (left_of (v.0 == c.1) (allows c.2 v.1) first))
      ∙ minor c.2 (right_of (v.0 == c.1) (allows c.2 v.1) first) (patch c.3 last)
    where
      patch : (p : Option ℕ) → view_tilde_patch p c v ≡ true → is_lt (number_cmp v.2 p Equal) ≡ false
      patch None e = refl
      patch (Some p) e = at_least v.2 p (view_pre_at_least c v) Equal e (λ e. refl)

      minor : (m : Option ℕ) → allows m v.1 ≡ true → is_lt (number_cmp v.2 c.3 Equal) ≡ false
          → is_lt (number_cmp v.1 m (number_cmp v.2 c.3 Equal)) ≡ false
      minor None b l = refl
      minor (Some m) b l = ap is_lt (then_same v.1 m (number_cmp v.2 c.3 Equal) b) ∙ l

  tilde_upper : view_tilde c v ≡ true → is_gt (numbers_cmp v c.1 c.2 None) ≡ false
  tilde_upper e =
      let first = left_of ((v.0 == c.1) && allows c.2 v.1) (view_tilde_patch c.3 c v) e in
      ap is_gt (same_numbers c.1 c.2 None (left_of (v.0 == c.1) (allows c.2 v.1) first)
      (right_of (v.0 == c.1) (allows c.2 v.1) first) refl)

  not_less : (m a : ℕ) → nat_le m a ≡ true → is_lt (ordering_then (nat_cmp a m) Equal) ≡ false
  not_less m a h = at_least a m true Equal (by (a == m) refl) (λ e. refl)
    where
      by : (b : Bool) → (a == m) ≡ b → cond b true (nat_lt m a) ≡ true
      by true e = refl
      by false e = let l = leb-true m a h in let n = eqb-false a m e in lt-ltb m a (omega arith)

  full_lower : (m p : ℕ) → view_caret_full m p c v ≡ true
      → is_lt (ordering_then (nat_cmp v.1 m) (ordering_then (nat_cmp v.2 p) Equal)) ≡ false
  full_lower m p e = by (nat_lt 0 c.1) (nat_lt 0 m) e
    where
      last : cond (v.2 == p) (view_pre_at_least c v) (nat_lt p v.2) ≡ true
          → is_lt (ordering_then (nat_cmp v.2 p) Equal) ≡ false
      last e = at_least v.2 p (view_pre_at_least c v) Equal e (λ e. refl)

      by : (a b : Bool) → cond a (cond (v.1 == m) (cond (v.2 == p) (view_pre_at_least c v) (nat_lt p v.2))
          (nat_lt m v.1)) (cond b (cond (v.1 == m) (cond (v.2 == p) (view_pre_at_least c v) (nat_lt p v.2)) false)
          (((v.1 == m) && (v.2 == p)) && view_pre_at_least c v)) ≡ true
          → is_lt (ordering_then (nat_cmp v.1 m) (ordering_then (nat_cmp v.2 p) Equal)) ≡ false
      by true b e = at_least v.1 m (cond (v.2 == p) (view_pre_at_least c v) (nat_lt p v.2))
          (ordering_then (nat_cmp v.2 p) Equal) e last
      by false true e =
          let two = if_both (v.1 == m) (cond (v.2 == p) (view_pre_at_least c v) (nat_lt p v.2)) e in
          ap is_lt (then_same v.1 m (ordering_then (nat_cmp v.2 p) Equal) two.0) ∙ last two.1
      by false false e =
          let two = left_of ((v.1 == m) && (v.2 == p)) (view_pre_at_least c v) e in
          ap is_lt (then_same v.1 m (ordering_then (nat_cmp v.2 p) Equal) (left_of (v.1 == m) (v.2 == p) two)
          ∙ then_same v.2 p Equal (right_of (v.1 == m) (v.2 == p) two))

  caret_lower : view_caret c v ≡ true → is_lt (numbers_cmp v c.1 c.2 c.3) ≡ false
  caret_lower e =
      ap is_lt (then_same v.0 c.1 (number_cmp v.1 c.2 (number_cmp v.2 c.3 Equal))
      (left_of (v.0 == c.1) (view_caret_of c.2 c v) e))
      ∙ minor c.2 (right_of (v.0 == c.1) (view_caret_of c.2 c v) e)
    where
      by : (m : ℕ) (b : Bool) → cond b (nat_le m v.1) (v.1 == m) ≡ true
          → is_lt (ordering_then (nat_cmp v.1 m) Equal) ≡ false
      by m true e = not_less m v.1 e
      by m false e = ap is_lt (then_same v.1 m Equal e)

      patch : (m : ℕ) (p : Option ℕ) → view_caret_minor m p c v ≡ true
          → is_lt (ordering_then (nat_cmp v.1 m) (number_cmp v.2 p Equal)) ≡ false
      patch m None e = by m (nat_lt 0 c.1) e
      patch m (Some p) e = full_lower m p e

      minor : (m : Option ℕ) → view_caret_of m c v ≡ true
          → is_lt (number_cmp v.1 m (number_cmp v.2 c.3 Equal)) ≡ false
      minor None e = refl
      minor (Some m) e = patch m c.3 e

  caret_upper : view_caret c v ≡ true → is_gt (numbers_cmp v c.1 (minor_of op.Caret c) (patch_of op.Caret c)) ≡ false
  caret_upper e =
      ap is_gt (then_same v.0 c.1 (number_cmp v.1 (minor_of op.Caret c) (number_cmp v.2 (patch_of op.Caret c) Equal))
      (left_of (v.0 == c.1) (view_caret_of c.2 c v) e))
      ∙ by (nat_lt 0 c.1) refl
    where
      full : (m p : ℕ) (b : Bool) → cond b (cond (v.1 == m) (cond (v.2 == p) (view_pre_at_least c v) (nat_lt p v.2))
          false) (((v.1 == m) && (v.2 == p)) && view_pre_at_least c v) ≡ true
          → is_gt (ordering_then (nat_cmp v.1 m) (number_cmp v.2 (cond b None (Some p)) Equal)) ≡ false
      full m p true e = ap is_gt (then_same v.1 m Equal
          (if_both (v.1 == m) (cond (v.2 == p) (view_pre_at_least c v) (nat_lt p v.2)) e).0)
      full m p false e =
          let two = left_of ((v.1 == m) && (v.2 == p)) (view_pre_at_least c v) e in
          ap is_gt (then_same v.1 m (ordering_then (nat_cmp v.2 p) Equal) (left_of (v.1 == m) (v.2 == p) two)
          ∙ then_same v.2 p Equal (right_of (v.1 == m) (v.2 == p) two))

      alone : (m : ℕ) (b : Bool) → (v.1 == m) ≡ true
          → is_gt (ordering_then (nat_cmp v.1 m) (number_cmp v.2 (cond b None None) Equal)) ≡ false
      alone m true e = ap is_gt (then_same v.1 m Equal e)
      alone m false e = ap is_gt (then_same v.1 m Equal e)

      patch : nat_lt 0 c.1 ≡ false → (m : ℕ) (p : Option ℕ) → view_caret_minor m p c v ≡ true
          → is_gt (ordering_then (nat_cmp v.1 m) (number_cmp v.2 (cond (nat_lt 0 m) None p) Equal)) ≡ false
      patch z m None e =
          alone m (nat_lt 0 m) (sym (ap (λ b. cond b (nat_le m v.1) (v.1 == m)) z) ∙ e)
      patch z m (Some p) e =
          let within : Bool = cond (v.2 == p) (view_pre_at_least c v) (nat_lt p v.2) in
          let same : Bool = ((v.1 == m) && (v.2 == p)) && view_pre_at_least c v in
          full m p (nat_lt 0 m) (sym (ap (λ b. cond b (cond (v.1 == m) within (nat_lt m v.1))
          (cond (nat_lt 0 m) (cond (v.1 == m) within false) same)) z) ∙ e)

      minor : nat_lt 0 c.1 ≡ false → (m : Option ℕ) → view_caret_of m c v ≡ true
          → is_gt (number_cmp v.1 m (number_cmp v.2 (cond (is_past_zero m) None c.3) Equal)) ≡ false
      minor z None e = refl
      minor z (Some m) e = patch z m c.3 e

      by : (b : Bool) → nat_lt 0 c.1 ≡ b
          → is_gt (number_cmp v.1 (cond b None c.2) (number_cmp v.2 (patch_of op.Caret c) Equal)) ≡ false
      by true z = refl
      by false z = minor z c.2 (right_of (v.0 == c.1) (view_caret_of c.2 c v) e)

  either : (r : Ordering) (t : Ordering → Bool) (a b : Bool) → (a ≡ true → t r ≡ false) → (b ≡ true → t r ≡ false)
      → (a || b) ≡ true → t r ≡ false
  either r t true b f g e = f refl
  either r t false b f g e = g e

  below_fails : (o : Op) → view_op o c v ≡ true → (has_lower o && is_lt (numbers_cmp v c.1 c.2 c.3)) ≡ false
  below_fails op.Exact e = ap is_lt (exact_numbers e)
  below_fails op.Wildcard e = ap is_lt (exact_numbers e)
  below_fails op.Greater e = greater_numbers e
  below_fails op.GreaterEq e = either (numbers_cmp v c.1 c.2 c.3) is_lt (view_exact c v) (view_greater c v)
      (λ e. ap is_lt (exact_numbers e)) greater_numbers e
  below_fails op.Less e = refl
  below_fails op.LessEq e = refl
  below_fails op.Tilde e = tilde_lower e
  below_fails op.Caret e = caret_lower e

  above_fails : (o : Op) → view_op o c v ≡ true
      → (has_upper o && is_gt (numbers_cmp v c.1 (minor_of o c) (patch_of o c))) ≡ false
  above_fails op.Exact e = ap is_gt (exact_numbers e)
  above_fails op.Wildcard e = ap is_gt (exact_numbers e)
  above_fails op.Greater e = refl
  above_fails op.GreaterEq e = refl
  above_fails op.Less e = less_numbers e
  above_fails op.LessEq e = either (numbers_cmp v c.1 c.2 c.3) is_gt (view_exact c v) (view_less c v)
      (λ e. ap is_gt (exact_numbers e)) less_numbers e
  above_fails op.Tilde e = tilde_upper e
  above_fails op.Caret e = caret_upper e

none_of : (t s : Held → Bool) → ((c : Held) → t c ≡ true → s c ≡ false) → (cs : List Held) → list_all t cs ≡ true
    → list_any s cs ≡ false
none_of t s f [] e = refl
none_of t s f (c ∷ cs) e =
    ap (λ b. b || list_any s cs) (f c (left_of (t c) (list_all t cs) e))
    ∙ none_of t s f cs (right_of (t c) (list_all t cs) e)

-- what is matched is neither too old ..
pub not_short : (cs : List Held) (v : Parts) → matches_views cs v ≡ true → is_short cs v ≡ false
not_short cs v e = none_of (λ c. view_op c.0 c v) (λ c. is_below c v) (λ c. below_fails c v c.0) cs
    (left_of (list_all (λ (c : Held). view_op c.0 c v) cs) _ e)

-- .. nor too new
pub not_beyond : (cs : List Held) (v : Parts) → matches_views cs v ≡ true → is_beyond cs v ≡ false
not_beyond cs v e = none_of (λ c. view_op c.0 c v) (λ c. is_above c v) (λ c. above_fails c v c.0) cs
    (left_of (list_all (λ (c : Held). view_op c.0 c v) cs) _ e)
