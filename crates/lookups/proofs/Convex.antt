-- Of three versions that rise, with one pre-release or none, the middle one is matched where the others are.
use Rattle.std.proofs.Common.{◌≡◌, ℕ, zero, suc, ◌+◌, ◌-◌, ◌<◌, ◌≤◌, ◌==◌, nat_lt, nat_le, Bool, true, false, not}
use Rattle.std.proofs.Common.{cond, ◌&&◌, ◌||◌, List, [], ◌∷◌, ◌++◌, length, map, filter, take, drop, get_or, Option}
use Rattle.std.proofs.Common.{Some, replicate}
use Rattle.std.proofs.Common.{None, Ordering, refl, sym, ap, ap₂, ◌∙◌, subst, arith, true≢false, inl, inr, ◌⊎◌}
use Rattle.std.specs.Cmp.Lexicographic.{pointwise}
use Rattle.std.specs.List.{list_all}
use Rattle.std.specs.Ordering.{is_ge, is_gt, is_lt, nat_cmp, ordering_then}
use Rattle.std.specs.Prelude.{nat_eq}
use Rattle.std.specs.declared.cmp.Ordering.TheVariants.{Less, Equal, Greater}
use Rattle.std.proofs.lemmas.Bool.{cases_lt, eqb-true, eq-eqb, le-leb, leb-true, lt-ltb, ltb-true, or_left, or_right}
use Rattle.std.proofs.lemmas.List.{get_or-drop, length-drop, map-append, take-append-drop, take_rest}
use Rattle.std.proofs.lemmas.List.Elements.{filter-append}
use Rattle.semver.specs.Eval.{allows}
use Rattle.semver.specs.EvalViews.{matches_views, view_by_minor_of, view_by_patch, view_caret, view_caret_minor}
use Rattle.semver.specs.EvalViews.{view_caret_of, view_exact, view_greater, view_less, view_op, view_pre_at_least}
use Rattle.semver.specs.EvalViews.{view_tilde, view_tilde_patch}
use Rattle.semver.specs.Identifiers.{parts_of}
use Rattle.semver.specs.Order.{pre_cmp}
use Rattle.semver.specs.Parse.{Held, Parts}
use Rattle.semver.specs.declared.Op.{Op}
use Rattle.semver.specs.declared.Op.TheVariants as op
use Rattle.semver.specs.declared.Version.{Version}
use Rattle.model.specs.Order.{precedence}
use Rattle.model.proofs.Same.{both}
use Rattle.lookups.specs.inner.Matching.{is_left, is_release, is_whole, is_whole_with, tests_of_range}
use Rattle.lookups.specs.inner.Ranges.{AreRising}
use Rattle.lookups.proofs.Pieces.{parts_filtered, skipped}

join : (a b : Bool) → a ≡ true → b ≡ true → (a && b) ≡ true
join a b e f = ap (λ x. x && b) e ∙ f

-- ---- one number

step : (a b : ℕ) (p : Ordering) → ordering_then (nat_cmp a b) p ≡ Less → (a < b) ⊎ ((a ≡ b) × (p ≡ Less))
step a b p h = by (nat_lt a b) refl (a == b) refl h
  where
    by : (x : Bool) → nat_lt a b ≡ x → (y : Bool) → (a == b) ≡ y
        → ordering_then (cond x Less (cond y Equal Greater)) p ≡ Less → (a < b) ⊎ ((a ≡ b) × (p ≡ Less))
    by true x y e h = inl (ltb-true a b x)
    by false x true e h = inr (eqb-true a b e, h)
    by false x false e h = let no : Greater ≡ Less = h in cc

no_less : (a n : ℕ) (t : Bool) → cond (a == n) t (nat_lt n a) ≡ true → n ≤ a
no_less a n t e = by (a == n) refl e
  where
    by : (b : Bool) → (a == n) ≡ b → cond b t (nat_lt n a) ≡ true → n ≤ a
    by true x e = let s = eqb-true a n x in omega (arith, s)
    by false x e = let l = ltb-true n a e in omega (arith, l)

no_more : (a n : ℕ) (t : Bool) → cond (a == n) t (nat_lt a n) ≡ true → a ≤ n
no_more a n t e = by (a == n) refl e
  where
    by : (b : Bool) → (a == n) ≡ b → cond b t (nat_lt a n) ≡ true → a ≤ n
    by true x e = let s = eqb-true a n x in omega (arith, s)
    by false x e = let l = ltb-true a n e in omega (arith, l)

more : (a n : ℕ) (t : Bool) → n < a → cond (a == n) t (nat_lt n a) ≡ true
more a n t l = by (a == n) refl
  where
    by : (b : Bool) → (a == n) ≡ b → cond b t (nat_lt n a) ≡ true
    by true x = let s = eqb-true a n x in absurd (omega (arith, s, l))
    by false x = lt-ltb n a l

less : (a n : ℕ) (t : Bool) → a < n → cond (a == n) t (nat_lt a n) ≡ true
less a n t l = by (a == n) refl
  where
    by : (b : Bool) → (a == n) ≡ b → cond b t (nat_lt a n) ≡ true
    by true x = let s = eqb-true a n x in absurd (omega (arith, s, l))
    by false x = lt-ltb a n l

on_first : (b s t g : Bool) → (s ≡ true → t ≡ true) → cond b s g ≡ true → cond b t g ≡ true
on_first true s t g f e = f e
on_first false s t g f e = e

-- what is at least n, and then passes, stays so for a later one ..
up : (a b n : ℕ) (p : Ordering) (s t : Bool) → ordering_then (nat_cmp a b) p ≡ Less
    → (p ≡ Less → s ≡ true → t ≡ true) → cond (a == n) s (nat_lt n a) ≡ true → cond (b == n) t (nat_lt n b) ≡ true
up a b n p s t h f e = elim (step a b p h) [
  | inl l ↦ more b n t (omega (arith, no_less a n s e, l))
  | inr k ↦ subst (λ x. cond (x == n) t (nat_lt n x) ≡ true) k.0 (on_first (a == n) s t (nat_lt n a) (f k.1) e)
]

-- .. and what is at most n for an earlier one
down : (a b n : ℕ) (p : Ordering) (s t : Bool) → ordering_then (nat_cmp a b) p ≡ Less
    → (p ≡ Less → s ≡ true → t ≡ true) → cond (b == n) s (nat_lt b n) ≡ true → cond (a == n) t (nat_lt a n) ≡ true
down a b n p s t h f e = elim (step a b p h) [
  | inl l ↦ less a n t (omega (arith, no_more b n s e, l))
  | inr k ↦ subst (λ x. cond (x == n) t (nat_lt x n) ≡ true) (sym k.0) (on_first (b == n) s t (nat_lt b n) (f k.1) e)
]

-- what is n on both sides is so between them
mid : (a b d n : ℕ) (p q : Ordering) → ordering_then (nat_cmp a b) p ≡ Less → ordering_then (nat_cmp b d) q ≡ Less
    → (a == n) ≡ true → (d == n) ≡ true → ((b == n) ≡ true) × ((p ≡ Less) × (q ≡ Less))
mid a b d n p q h g e f =
    let x = eqb-true a n e in
    let y = eqb-true d n f in
    elim (step a b p h) [
      | inl l ↦ elim (step b d q g) [
        | inl m ↦ absurd (omega (arith, x, y, l, m))
        | inr m ↦ absurd (omega (arith, x, y, l, m.0))
      ]
      | inr l ↦ elim (step b d q g) [
        | inl m ↦ absurd (omega (arith, x, y, l.0, m))
        | inr m ↦ (eq-eqb b n (omega (arith, x, l.0)), (l.1, m.1))
      ]
    ]

-- ---- all numbers

abbrev after_minor : Parts → Parts → Ordering
after_minor v w = ordering_then (nat_cmp v.2 w.2) (pre_cmp (v.3) (w.3))

abbrev after_major : Parts → Parts → Ordering
after_major v w = ordering_then (nat_cmp v.1 w.1) (after_minor v w)

grouped : (a b d e : Bool) → (((a && b) && d) && e) ≡ (a && (b && (d && e)))
grouped false b d e = refl
grouped true false d e = refl
grouped true true d e = refl

module _ (c : Held) (u v w : Parts) (uv : precedence u v ≡ Less) (vw : precedence v w ≡ Less) (ue : u.3 ≡ v.3)
    (we : w.3 ≡ v.3) where
  from_first : (f : List ℕ → Bool) → f (u.3) ≡ true → f (v.3) ≡ true
  from_first f e = ap f (sym ue) ∙ e

  from_last : (f : List ℕ → Bool) → f (w.3) ≡ true → f (v.3) ≡ true
  from_last f e = ap f (sym we) ∙ e

  abbrev same_pre : List ℕ → Bool
  same_pre x = pointwise nat_eq x (c.4)

  abbrev no_earlier : List ℕ → Bool
  no_earlier x = is_ge (pre_cmp x (c.4))

  abbrev is_later : List ℕ → Bool
  is_later x = is_gt (pre_cmp x (c.4))

  abbrev is_earlier : List ℕ → Bool
  is_earlier x = is_lt (pre_cmp x (c.4))

  greater_up : view_greater c u ≡ true → view_greater c v ≡ true
  greater_up e =
      up u.0 v.0 c.1 (after_major u v) (view_by_minor_of (λ a b. nat_lt b a) (is_later (u.3)) c.2 c u)
      (view_by_minor_of (λ a b. nat_lt b a) (is_later (v.3)) c.2 c v) uv (minor c.2) e
    where
      patch : (p : Option ℕ) → after_minor u v ≡ Less → view_by_patch (λ a b. nat_lt b a) (is_later (u.3)) p u ≡ true
          → view_by_patch (λ a b. nat_lt b a) (is_later (v.3)) p v ≡ true
      patch None h e = e
      patch (Some p) h e = up u.2 v.2 p (pre_cmp (u.3) (v.3)) (is_later (u.3)) (is_later (v.3)) h
          (λ h e. from_first is_later e) e

      minor : (m : Option ℕ) → after_major u v ≡ Less
          → view_by_minor_of (λ a b. nat_lt b a) (is_later (u.3)) m c u ≡ true
          → view_by_minor_of (λ a b. nat_lt b a) (is_later (v.3)) m c v ≡ true
      minor None h e = e
      minor (Some m) h e = up u.1 v.1 m (after_minor u v) (view_by_patch (λ a b. nat_lt b a) (is_later (u.3)) c.3 u)
          (view_by_patch (λ a b. nat_lt b a) (is_later (v.3)) c.3 v) h (patch c.3) e

  less_down : view_less c w ≡ true → view_less c v ≡ true
  less_down e =
      down v.0 w.0 c.1 (after_major v w) (view_by_minor_of (λ a b. nat_lt a b) (is_earlier (w.3)) c.2 c w)
      (view_by_minor_of (λ a b. nat_lt a b) (is_earlier (v.3)) c.2 c v) vw (minor c.2) e
    where
      patch : (p : Option ℕ) → after_minor v w ≡ Less → view_by_patch (λ a b. nat_lt a b) (is_earlier (w.3)) p w ≡ true
          → view_by_patch (λ a b. nat_lt a b) (is_earlier (v.3)) p v ≡ true
      patch None h e = e
      patch (Some p) h e = down v.2 w.2 p (pre_cmp (v.3) (w.3)) (is_earlier (w.3)) (is_earlier (v.3)) h
          (λ h e. from_last is_earlier e) e

      minor : (m : Option ℕ) → after_major v w ≡ Less
          → view_by_minor_of (λ a b. nat_lt a b) (is_earlier (w.3)) m c w ≡ true
          → view_by_minor_of (λ a b. nat_lt a b) (is_earlier (v.3)) m c v ≡ true
      minor None h e = e
      minor (Some m) h e = down v.1 w.1 m (after_minor v w) (view_by_patch (λ a b. nat_lt a b) (is_earlier (w.3)) c.3 w)
          (view_by_patch (λ a b. nat_lt a b) (is_earlier (v.3)) c.3 v) h (patch c.3) e

  tilde_mid : is_whole_with c.2 c.3 ≡ true → view_tilde c u ≡ true → view_tilde c w ≡ true → view_tilde c v ≡ true
  tilde_mid whole e f =
      let a = both ((u.0 == c.1) && allows c.2 u.1) _ e in
      let b = both ((w.0 == c.1) && allows c.2 w.1) _ f in
      let d = both (u.0 == c.1) _ a.0 in
      let g = both (w.0 == c.1) _ b.0 in
      let r = mid u.0 v.0 w.0 c.1 (after_major u v) (after_major v w) uv vw d.0 g.0 in
      let s = minor c.2 c.3 whole r.1.0 r.1.1 d.1 g.1 a.1 in
      join ((v.0 == c.1) && allows c.2 v.1) (view_tilde_patch c.3 c v) (join (v.0 == c.1) (allows c.2 v.1) r.0 s.0) s.1
    where
      patch : (p : Option ℕ) → after_minor u v ≡ Less → view_tilde_patch p c u ≡ true → view_tilde_patch p c v ≡ true
      patch None h e = from_first no_earlier e
      patch (Some p) h e = up u.2 v.2 p (pre_cmp (u.3) (v.3)) (no_earlier (u.3)) (no_earlier (v.3)) h
          (λ h e. from_first no_earlier e) e

      minor : (m p : Option ℕ) → is_whole_with m p ≡ true → after_major u v ≡ Less → after_major v w ≡ Less
          → allows m u.1 ≡ true → allows m w.1 ≡ true → view_tilde_patch p c u ≡ true
          → (allows m v.1 ≡ true) × (view_tilde_patch p c v ≡ true)
      minor None None whole h g e f t = (refl, from_first no_earlier t)
      minor None (Some p) whole h g e f t = absurd (true≢false (sym whole))
      minor (Some m) p whole h g e f t =
          let r = mid u.1 v.1 w.1 m (after_minor u v) (after_minor v w) h g e f in (r.0, patch p r.1.0 t)

  abbrev caret_patch : ℕ → Parts → Bool
  caret_patch p x = cond (x.2 == p) (view_pre_at_least c x) (nat_lt p x.2)

  caret_mid : view_caret c u ≡ true → view_caret c w ≡ true → view_caret c v ≡ true
  caret_mid e f =
      let a = both (u.0 == c.1) (view_caret_of c.2 c u) e in
      let b = both (w.0 == c.1) (view_caret_of c.2 c w) f in
      let r = mid u.0 v.0 w.0 c.1 (after_major u v) (after_major v w) uv vw a.0 b.0 in
      join (v.0 == c.1) (view_caret_of c.2 c v) r.0 (minor c.2 r.1.0 r.1.1 a.1 b.1)
    where
      patch : (p : ℕ) → after_minor u v ≡ Less → caret_patch p u ≡ true → caret_patch p v ≡ true
      patch p h e = up u.2 v.2 p (pre_cmp (u.3) (v.3)) (no_earlier (u.3)) (no_earlier (v.3)) h
          (λ h e. from_first no_earlier e) e

      if_both : (b t : Bool) → cond b t false ≡ true → (b ≡ true) × (t ≡ true)
      if_both true t e = (refl, e)
      if_both false t e = absurd (true≢false (sym e))

      full : (m p : ℕ) (x y : Bool) → after_major u v ≡ Less → after_major v w ≡ Less
          → cond x (cond (u.1 == m) (caret_patch p u) (nat_lt m u.1)) (cond y (cond (u.1 == m) (caret_patch p u) false)
          (((u.1 == m) && (u.2 == p)) && view_pre_at_least c u)) ≡ true
          → cond x (cond (w.1 == m) (caret_patch p w) (nat_lt m w.1)) (cond y (cond (w.1 == m) (caret_patch p w) false)
          (((w.1 == m) && (w.2 == p)) && view_pre_at_least c w)) ≡ true
          → cond x (cond (v.1 == m) (caret_patch p v) (nat_lt m v.1)) (cond y (cond (v.1 == m) (caret_patch p v) false)
          (((v.1 == m) && (v.2 == p)) && view_pre_at_least c v)) ≡ true
      full m p true y h g e f = up u.1 v.1 m (after_minor u v) (caret_patch p u) (caret_patch p v) h (patch p) e
      full m p false true h g e f =
          let a = if_both (u.1 == m) (caret_patch p u) e in
          let b = if_both (w.1 == m) (caret_patch p w) f in
          let r = mid u.1 v.1 w.1 m (after_minor u v) (after_minor v w) h g a.0 b.0 in
          ap (λ z. cond z (caret_patch p v) false) r.0 ∙ patch p r.1.0 a.1
      full m p false false h g e f =
          let a = both ((u.1 == m) && (u.2 == p)) (view_pre_at_least c u) e in
          let b = both ((w.1 == m) && (w.2 == p)) (view_pre_at_least c w) f in
          let d = both (u.1 == m) (u.2 == p) a.0 in
          let k = both (w.1 == m) (w.2 == p) b.0 in
          let r = mid u.1 v.1 w.1 m (after_minor u v) (after_minor v w) h g d.0 k.0 in
          let s = mid u.2 v.2 w.2 p (pre_cmp (u.3) (v.3)) (pre_cmp (v.3) (w.3)) r.1.0 r.1.1 d.1 k.1 in
          join ((v.1 == m) && (v.2 == p)) (view_pre_at_least c v) (join (v.1 == m) (v.2 == p) r.0 s.0)
          (from_first no_earlier a.1)

      le_up : (m a b : ℕ) (p : Ordering) → ordering_then (nat_cmp a b) p ≡ Less → nat_le m a ≡ true → nat_le m b ≡ true
      le_up m a b p h e =
          let l = leb-true m a e in
          elim (step a b p h) [
            | inl k ↦ le-leb m b (omega (arith, l, k))
            | inr k ↦ subst (λ x. nat_le m x ≡ true) k.0 e
          ]

      alone : (m : ℕ) (x : Bool) → after_major u v ≡ Less → after_major v w ≡ Less
          → cond x (nat_le m u.1) (u.1 == m) ≡ true → cond x (nat_le m w.1) (w.1 == m) ≡ true
          → cond x (nat_le m v.1) (v.1 == m) ≡ true
      alone m true h g e f = le_up m u.1 v.1 (after_minor u v) h e
      alone m false h g e f = (mid u.1 v.1 w.1 m (after_minor u v) (after_minor v w) h g e f).0

      patches : (m : ℕ) (p : Option ℕ) → after_major u v ≡ Less → after_major v w ≡ Less
          → view_caret_minor m p c u ≡ true → view_caret_minor m p c w ≡ true → view_caret_minor m p c v ≡ true
      patches m None h g e f = alone m (nat_lt 0 c.1) h g e f
      patches m (Some p) h g e f = full m p (nat_lt 0 c.1) (nat_lt 0 m) h g e f

      minor : (m : Option ℕ) → after_major u v ≡ Less → after_major v w ≡ Less → view_caret_of m c u ≡ true
          → view_caret_of m c w ≡ true → view_caret_of m c v ≡ true
      minor None h g e f = refl
      minor (Some m) h g e f = patches m c.3 h g e f

  -- ---- `=`, and what is beside it in `>=` and `<=`

  abbrev from_patch : Option ℕ → Parts → Bool
  from_patch p x = allows p x.2 && same_pre (x.3)

  abbrev from_minor : Option ℕ → Option ℕ → Parts → Bool
  from_minor m p x = allows m x.1 && from_patch p x

  exact_is : (x : Parts) → view_exact c x ≡ ((x.0 == c.1) && from_minor c.2 c.3 x)
  exact_is x = grouped (x.0 == c.1) (allows c.2 x.1) (allows c.3 x.2) (same_pre (x.3))

  exact_mid : is_whole_with c.2 c.3 ≡ true → view_exact c u ≡ true → view_exact c w ≡ true → view_exact c v ≡ true
  exact_mid whole e f =
      let a = both (u.0 == c.1) (from_minor c.2 c.3 u) (sym (exact_is u) ∙ e) in
      let b = both (w.0 == c.1) (from_minor c.2 c.3 w) (sym (exact_is w) ∙ f) in
      let r = mid u.0 v.0 w.0 c.1 (after_major u v) (after_major v w) uv vw a.0 b.0 in
      exact_is v ∙ join (v.0 == c.1) (from_minor c.2 c.3 v) r.0 (minor c.2 c.3 whole r.1.0 r.1.1 a.1 b.1)
    where
      patch : (p : Option ℕ) → after_minor u v ≡ Less → after_minor v w ≡ Less → from_patch p u ≡ true
          → from_patch p w ≡ true → from_patch p v ≡ true
      patch None h g e f = from_first same_pre e
      patch (Some p) h g e f =
          let a = both (u.2 == p) (same_pre (u.3)) e in
          let b = both (w.2 == p) (same_pre (w.3)) f in
          let r = mid u.2 v.2 w.2 p (pre_cmp (u.3) (v.3)) (pre_cmp (v.3) (w.3)) h g a.0 b.0 in
          join (v.2 == p) (same_pre (v.3)) r.0 (from_first same_pre a.1)

      minor : (m p : Option ℕ) → is_whole_with m p ≡ true → after_major u v ≡ Less → after_major v w ≡ Less
          → from_minor m p u ≡ true → from_minor m p w ≡ true → from_minor m p v ≡ true
      minor None None whole h g e f = from_first same_pre e
      minor None (Some p) whole h g e f = absurd (true≢false (sym whole))
      minor (Some m) p whole h g e f =
          let a = both (u.1 == m) (from_patch p u) e in
          let b = both (w.1 == m) (from_patch p w) f in
          let r = mid u.1 v.1 w.1 m (after_minor u v) (after_minor v w) h g a.0 b.0 in
          join (v.1 == m) (from_patch p v) r.0 (patch p r.1.0 r.1.1 a.1 b.1)

  -- where a number is that of the comparator, it goes by the rest; past it, the bound is kept
  beside : (b t g k : Bool) → (b ≡ true → (t ≡ true) ⊎ (g ≡ true)) → (b ≡ false → k ≡ true)
      → ((b && t) ≡ true) ⊎ (cond b g k ≡ true)
  beside true t g k f h = f refl
  beside false t g k f h = inr (h refl)

  later : (a b n : ℕ) (p : Ordering) (t g : Bool) → ordering_then (nat_cmp a b) p ≡ Less → (a == n) ≡ true
      → (p ≡ Less → (t ≡ true) ⊎ (g ≡ true)) → (((b == n) && t) ≡ true) ⊎ (cond (b == n) g (nat_lt n b) ≡ true)
  later a b n p t g h e f = elim (step a b p h) [
    | inl l ↦ inr (more b n g (let x = eqb-true a n e in omega (arith, x, l)))
    | inr k ↦ subst (λ x. (((x == n) && t) ≡ true) ⊎ (cond (x == n) g (nat_lt n x) ≡ true)) k.0
        (beside (a == n) t g (nat_lt n a) (λ s. f k.1) (λ s. absurd (true≢false (sym e ∙ s))))
  ]

  earlier : (a b n : ℕ) (p : Ordering) (t g : Bool) → ordering_then (nat_cmp a b) p ≡ Less → (b == n) ≡ true
      → (p ≡ Less → (t ≡ true) ⊎ (g ≡ true)) → (((a == n) && t) ≡ true) ⊎ (cond (a == n) g (nat_lt a n) ≡ true)
  earlier a b n p t g h e f = elim (step a b p h) [
    | inl l ↦ inr (less a n g (let x = eqb-true b n e in omega (arith, x, l)))
    | inr k ↦ subst (λ x. (((x == n) && t) ≡ true) ⊎ (cond (x == n) g (nat_lt x n) ≡ true)) (sym k.0)
        (beside (b == n) t g (nat_lt b n) (λ s. f k.1) (λ s. absurd (true≢false (sym e ∙ s))))
  ]

  exact_up : is_whole_with c.2 c.3 ≡ true → view_exact c u ≡ true
      → (((v.0 == c.1) && from_minor c.2 c.3 v) ≡ true) ⊎ (view_greater c v ≡ true)
  exact_up whole e =
      let a = both (u.0 == c.1) (from_minor c.2 c.3 u) (sym (exact_is u) ∙ e) in
      later u.0 v.0 c.1 (after_major u v) (from_minor c.2 c.3 v)
      (view_by_minor_of (λ a b. nat_lt b a) (is_later (v.3)) c.2 c v) uv a.0
      (λ h. minor c.2 whole h a.1)
    where
      patch : (p : Option ℕ) → after_minor u v ≡ Less → from_patch p u ≡ true
          → (from_patch p v ≡ true) ⊎ (view_by_patch (λ a b. nat_lt b a) (is_later (v.3)) p v ≡ true)
      patch None h e = inl (from_first same_pre e)
      patch (Some p) h e =
          let a = both (u.2 == p) (same_pre (u.3)) e in
          later u.2 v.2 p (pre_cmp (u.3) (v.3)) (same_pre (v.3)) (is_later (v.3)) h a.0
          (λ g. inl (from_first same_pre a.1))

      alone : (p : Option ℕ) → is_whole_with None p ≡ true → from_patch p u ≡ true → from_patch p v ≡ true
      alone None whole e = from_first same_pre e
      alone (Some p) whole e = absurd (true≢false (sym whole))

      minor : (m : Option ℕ) → is_whole_with m c.3 ≡ true → after_major u v ≡ Less → from_minor m c.3 u ≡ true
          → (from_minor m c.3 v ≡ true)
          ⊎ (view_by_minor_of (λ a b. nat_lt b a) (is_later (v.3)) m c v ≡ true)
      minor None whole h e = inl (alone c.3 whole e)
      minor (Some m) whole h e =
          let a = both (u.1 == m) (from_patch c.3 u) e in
          later u.1 v.1 m (after_minor u v) (from_patch c.3 v)
          (view_by_patch (λ a b. nat_lt b a) (is_later (v.3)) c.3 v) h a.0 (λ g. patch c.3 g a.1)

  exact_down : is_whole_with c.2 c.3 ≡ true → view_exact c w ≡ true
      → (((v.0 == c.1) && from_minor c.2 c.3 v) ≡ true) ⊎ (view_less c v ≡ true)
  exact_down whole e =
      let a = both (w.0 == c.1) (from_minor c.2 c.3 w) (sym (exact_is w) ∙ e) in
      earlier v.0 w.0 c.1 (after_major v w) (from_minor c.2 c.3 v)
      (view_by_minor_of (λ a b. nat_lt a b) (is_earlier (v.3)) c.2 c v) vw a.0
      (λ h. minor c.2 whole h a.1)
    where
      patch : (p : Option ℕ) → after_minor v w ≡ Less → from_patch p w ≡ true
          → (from_patch p v ≡ true) ⊎ (view_by_patch (λ a b. nat_lt a b) (is_earlier (v.3)) p v ≡ true)
      patch None h e = inl (from_last same_pre e)
      patch (Some p) h e =
          let a = both (w.2 == p) (same_pre (w.3)) e in
          earlier v.2 w.2 p (pre_cmp (v.3) (w.3)) (same_pre (v.3)) (is_earlier (v.3)) h a.0
          (λ g. inl (from_last same_pre a.1))

      alone : (p : Option ℕ) → is_whole_with None p ≡ true → from_patch p w ≡ true → from_patch p v ≡ true
      alone None whole e = from_last same_pre e
      alone (Some p) whole e = absurd (true≢false (sym whole))

      minor : (m : Option ℕ) → is_whole_with m c.3 ≡ true → after_major v w ≡ Less → from_minor m c.3 w ≡ true
          → (from_minor m c.3 v ≡ true)
          ⊎ (view_by_minor_of (λ a b. nat_lt a b) (is_earlier (v.3)) m c v ≡ true)
      minor None whole h e = inl (alone c.3 whole e)
      minor (Some m) whole h e =
          let a = both (w.1 == m) (from_patch c.3 w) e in
          earlier v.1 w.1 m (after_minor v w) (from_patch c.3 v)
          (view_by_patch (λ a b. nat_lt a b) (is_earlier (v.3)) c.3 v) h a.0 (λ g. patch c.3 g a.1)

  by_either : (a b g : Bool) → (a ≡ true → g ≡ true) → (b ≡ true → g ≡ true) → (a || b) ≡ true → g ≡ true
  by_either true b g f h e = f refl
  by_either false b g f h e = h e

  of_two : (t : Bool) → (((v.0 == c.1) && from_minor c.2 c.3 v) ≡ true) ⊎ (t ≡ true) → (view_exact c v || t) ≡ true
  of_two t (inl e) = or_left (view_exact c v) t (exact_is v ∙ e)
  of_two t (inr e) = or_right (view_exact c v) t e

  op_mid : (o : Op) → is_whole_with c.2 c.3 ≡ true → view_op o c u ≡ true → view_op o c w ≡ true → view_op o c v ≡ true
  op_mid op.Exact whole e f = exact_mid whole e f
  op_mid op.Wildcard whole e f = exact_mid whole e f
  op_mid op.Greater whole e f = greater_up e
  op_mid op.GreaterEq whole e f =
      by_either (view_exact c u) (view_greater c u) (view_exact c v || view_greater c v)
      (λ e. of_two (view_greater c v) (exact_up whole e))
      (λ e. or_right (view_exact c v) (view_greater c v) (greater_up e)) e
  op_mid op.Less whole e f = less_down f
  op_mid op.LessEq whole e f =
      by_either (view_exact c w) (view_less c w) (view_exact c v || view_less c v)
      (λ f. of_two (view_less c v) (exact_down whole f))
      (λ f. or_right (view_exact c v) (view_less c v) (less_down f)) f
  op_mid op.Tilde whole e f = tilde_mid whole e f
  op_mid op.Caret whole e f = caret_mid e f

-- ---- requirements

module _ (u v w : Parts) (uv : precedence u v ≡ Less) (vw : precedence v w ≡ Less) (ue : u.3 ≡ v.3) (we : w.3 ≡ v.3)
  where
    ops_mid : (cs : List Held) → list_all is_whole cs ≡ true → list_all (λ c. view_op c.0 c u) cs ≡ true
        → list_all (λ c. view_op c.0 c w) cs ≡ true → list_all (λ c. view_op c.0 c v) cs ≡ true
    ops_mid [] whole e f = refl
    ops_mid (c ∷ cs) whole e f =
        let h = both (is_whole c) (list_all is_whole cs) whole in
        let a = both (view_op c.0 c u) (list_all (λ c. view_op c.0 c u) cs) e in
        let b = both (view_op c.0 c w) (list_all (λ c. view_op c.0 c w) cs) f in
        join (view_op c.0 c v) (list_all (λ c. view_op c.0 c v) cs)
        (op_mid c u v w uv vw ue we c.0 h.0 a.0 b.0) (ops_mid cs h.1 a.1 b.1)

none_is : (x : List ℕ) → (length x == 0) ≡ true → x ≡ []
none_is [] e = refl
none_is (n ∷ x) e = let l = eqb-true (length (n ∷ x)) 0 e in absurd (omega (arith, l))

-- a release between two that are matched is matched
between : (cs : List Held) → list_all is_whole cs ≡ true → (u v w : Parts) → precedence u v ≡ Less
    → precedence v w ≡ Less → is_release u ≡ true → is_release v ≡ true → is_release w ≡ true
    → matches_views cs u ≡ true → matches_views cs w ≡ true → matches_views cs v ≡ true
between cs whole u v w uv vw ur vr wr e f =
    let n = none_is (v.3) vr in
    let a = both (list_all (λ (c : Held). view_op c.0 c u) cs) _ e in
    let b = both (list_all (λ (c : Held). view_op c.0 c w) cs) _ f in
    join (list_all (λ (c : Held). view_op c.0 c v) cs) _
    (ops_mid u v w uv vw (none_is (u.3) ur ∙ sym n) (none_is (w.3) wr ∙ sym n) cs whole a.0 b.0)
    (or_left (length (v.3) == 0) _ vr)

all_there : {X : Type 0} (p : X → Bool) (xs : List X) → list_all p xs ≡ true → (k : ℕ) (d : X) → k < length xs
    → p (get_or xs k d) ≡ true
all_there p [] e k d within = absurd (omega (arith, within))
all_there p (x ∷ xs) e zero d within = (both (p x) (list_all p xs) e).0
all_there p (x ∷ xs) e (suc k) d within = all_there p xs (both (p x) (list_all p xs) e).1 k d (omega (arith, within))

-- all of a requirement's comparators are whole, all versions are releases, and the one at a place is matched
abbrev Begins : List Held → List Version → ℕ → Type 0
Begins cs vs i = (list_all is_whole cs ≡ true) × ((list_all (λ v. is_release (parts_of v)) vs ≡ true)
    × ((d : Version) → matches_views cs (parts_of (get_or vs i d)) ≡ true))

-- the last of the first j is matched
abbrev Ends : List Held → List Version → ℕ → Type 0
Ends cs vs j = (n : ℕ) (d : Version) → suc n ≡ j → matches_views cs (parts_of (get_or vs n d)) ≡ true

-- what lies between the first that is matched and the last is matched
module _ (cs : List Held) (vs : List Version) (i j : ℕ) (rising : AreRising vs) where
  at : (k : ℕ) (d : Version) → get_or (drop i vs) k d ≡ get_or vs (i + k) d
  at k d = get_or-drop i vs k d

  by_three : (k n : ℕ) → i + k < length vs → i + n < length vs → k < n → Begins cs vs i → (d : Version)
      → matches_views cs (parts_of (get_or vs (i + n) d)) ≡ true
      → matches_views cs (parts_of (get_or vs (i + k) d)) ≡ true
  by_three zero n inside p l h d m = subst (λ x. matches_views cs (parts_of (get_or vs x d)) ≡ true) (omega arith)
      (h.1.1 d)
  by_three (suc k) n inside p l h d m = between cs h.0 (parts_of (get_or vs i d))
      (parts_of (get_or vs (i + suc k) d)) (parts_of (get_or vs (i + n) d))
      (rising i (i + suc k) d (omega arith) inside) (rising (i + suc k) (i + n) d (omega (arith, l)) p)
      (all_there (λ v. is_release (parts_of v)) vs h.1.0 i d (omega (arith, inside)))
      (all_there (λ v. is_release (parts_of v)) vs h.1.0 (i + suc k) d inside)
      (all_there (λ v. is_release (parts_of v)) vs h.1.0 (i + n) d p) (h.1.1 d) m

  middle : i ≤ length vs → j ≤ length (drop i vs) → (i < length vs → Begins cs vs i) → Ends cs (drop i vs) j
      → (k : ℕ) (d : Version) → k < j → k < length (drop i vs)
      → matches_views cs (parts_of (get_or (drop i vs) k d)) ≡ true
  middle low few first last k d less within = by j refl
    where
      found : (n : ℕ) → suc n ≡ j → k < n → matches_views cs (parts_of (get_or (drop i vs) k d)) ≡ true
      found n e l =
          let long = length-drop i vs in
          let h = first (omega (arith, few, e, long, l)) in
          let p : n < length (drop i vs) = omega (arith, few, e) in
          subst (λ x. matches_views cs (parts_of x) ≡ true) (sym (at k d))
          (by_three k n (omega (arith, within, long)) (omega (arith, p, long)) l h d
          (subst (λ x. matches_views cs (parts_of x) ≡ true) (at n d) (last n d e)))

      by : (n : ℕ) → n ≡ j → matches_views cs (parts_of (get_or (drop i vs) k d)) ≡ true
      by zero e = absurd (omega (arith, e, less))
      by (suc n) e = elim (cases_lt k n) [
        | inl l ↦ found n e l
        | inr m ↦ let s : n ≡ k = omega (arith, e, less, m) in
            subst (λ x. matches_views cs (parts_of (get_or (drop i vs) x d)) ≡ true) s (last n d e)
      ]

-- so it is left out
pub ends_are : (cs : List Held) (vs : List Version) (i j : ℕ) → AreRising vs → i ≤ length vs
    → j ≤ length (take (length vs - i) (drop i vs)) → (i < length vs → Begins cs vs i)
    → Ends cs (take (length vs - i) (drop i vs)) j
    → filter (is_left cs) (map parts_of (take i vs))
    ++ filter (is_left cs) (map parts_of (take (length (take (length vs - i) (drop i vs)) - j)
    (drop j (take (length vs - i) (drop i vs)))))
    ≡ filter (is_left cs) (map parts_of vs)
unfolding is_left
ends_are cs vs i j rising = rw (take_rest vs i) (λ low few first last.
    ap (λ ws. filter (is_left cs) (map parts_of (take i vs)) ++ filter (is_left cs) (map parts_of ws))
    (take_rest (drop i vs) j)
    ∙ ap₂ (λ a b. a ++ b) (sym (parts_filtered (is_left cs) (take i vs)))
    (sym (parts_filtered (is_left cs) (drop j (drop i vs)))
    ∙ ap (map parts_of) (sym (skipped t (drop i vs) j
    (λ k d less within. ap not (middle cs vs i j rising low few first last k d less within)))))
    ∙ sym (map-append parts_of (filter t (take i vs)) (filter t (drop i vs)))
    ∙ ap (map parts_of) (sym (filter-append t (take i vs) (drop i vs)) ∙ ap (filter t) (take-append-drop i vs))
    ∙ parts_filtered (is_left cs) vs)
  where
    t : Version → Bool
    t v = is_left cs (parts_of v)

-- ---- tests of a range

module _ {X : Type 0} (p : X → Bool) where
  same_all : (b : Bool) (xs : List X) → ((k : ℕ) (d : X) → k < length xs → p (get_or xs k d) ≡ b)
      → map p xs ≡ replicate (length xs) b
  same_all b [] h = refl
  same_all b (x ∷ xs) h = ap₂ (λ c cs. c ∷ cs) (h 0 x (omega arith))
      (same_all b xs (λ k d less. h (suc k) d (omega (arith, less))))

  in_two : (xs : List X) (j : ℕ) → j ≤ length xs → ((k : ℕ) (d : X) → k < j → k < length xs → p (get_or xs k d) ≡ true)
      → ((k : ℕ) (d : X) → j ≤ k → k < length xs → p (get_or xs k d) ≡ false)
      → map p xs ≡ replicate j true ++ replicate (length xs - j) false
  in_two xs zero few low high = same_all false xs (λ k d less. high k d (omega arith) less)
      ∙ ap (λ n. replicate n false) (omega arith)
  in_two [] (suc j) few low high = absurd (omega (arith, few))
  in_two (x ∷ xs) (suc j) few low high = ap₂ (λ c cs. c ∷ cs) (low 0 x (omega arith) (omega arith))
      (in_two xs j (omega (arith, few)) (λ k d less within. low (suc k) d (omega (arith, less)) (omega (arith, within)))
      (λ k d more within. high (suc k) d (omega (arith, more)) (omega (arith, within)))
      ∙ ap (λ n. replicate j true ++ replicate n false) (omega arith))

  in_three : (xs : List X) (i j : ℕ) → i ≤ length xs → ((k : ℕ) (d : X) → k < i → p (get_or xs k d) ≡ false)
      → j ≤ length (drop i xs)
      → ((k : ℕ) (d : X) → k < j → k < length (drop i xs) → p (get_or (drop i xs) k d) ≡ true)
      → ((k : ℕ) (d : X) → j ≤ k → k < length (drop i xs) → p (get_or (drop i xs) k d) ≡ false)
      → map p xs ≡ tests_of_range i (i + j) (length xs)
  in_three xs zero j low before few inside after = in_two xs j few inside after
      ∙ ap₂ (λ a b. replicate a true ++ replicate b false) (omega arith) (omega arith)
  in_three [] (suc i) j low before few inside after = absurd (omega (arith, low))
  in_three (x ∷ xs) (suc i) j low before few inside after = ap₂ (λ c cs. c ∷ cs) (before 0 x (omega arith))
      (in_three xs i j (omega (arith, low)) (λ k d less. before (suc k) d (omega (arith, less))) few inside after
      ∙ ap₂ (λ a b. replicate i false ++ (replicate a true ++ replicate b false)) (omega arith) (omega arith))

-- those that are matched are a range
pub range_is : (cs : List Held) (vs : List Version) (i j : ℕ) → AreRising vs → i ≤ length vs
    → ((n : ℕ) (d : Version) → n < i → matches_views cs (parts_of (get_or vs n d)) ≡ false)
    → (i < length vs → Begins cs vs i)
    → j ≤ length (take (length vs - i) (drop i vs))
    → ((n : ℕ) (d : Version) → j ≤ n → n < length (take (length vs - i) (drop i vs))
    → matches_views cs (parts_of (get_or (take (length vs - i) (drop i vs)) n d)) ≡ false)
    → Ends cs (take (length vs - i) (drop i vs)) j
    → (i ≤ i + j) × ((i + j ≤ length vs)
    × (map (λ v. matches_views cs (parts_of v)) vs ≡ tests_of_range i (i + j) (length vs)))
range_is cs vs i j rising = rw (take_rest vs i) (λ low before first few after last.
    let long = length-drop i vs in (
      omega arith,
      (
        omega (arith, low, few, long),
        in_three (λ v. matches_views cs (parts_of v)) vs i j low before few
            (middle cs vs i j rising low few first last) after,
      ),
    ))
