-- The merge of two rising lists is their combination.
use Rattle.std.proofs.Common.{◌≡◌, ◌≢◌, ℕ, ◌<◌, ◌≤◌, Bool, true, false, cond, eqb, List, [], ◌∷◌, ◌++◌, flat_map}
use Rattle.std.proofs.Common.{Option, Some, None, refl, ap, ap₂, sym, ◌∙◌, subst, arith, eq-eqb, inl, inr}
use Rattle.std.proofs.lemmas.Bool.{cases_eq, cases_order, le-ltb, lt-ltb, ne_eqb}
use Rattle.version_sets.specs.Sets.{Members, is_full, join, meet}
use Rattle.terms.specs.Terms.{TermView}
use Rattle.incompatibilities.specs.Incompatibilities.{AllPast, IsCombination, IsIncompatibility, IsRising, meet_at}
use Rattle.incompatibilities.specs.Incompatibilities.{states_at, union_at, unless_full}
use Rattle.incompatibilities.specs.inner.Merging.{both, kept, lone, merged, past, up_to}
use Rattle.incompatibilities.proofs.Lookups.{AllUpTo, absent, all_kept, at_first, at_later, none_full-append, not_full}
use Rattle.incompatibilities.proofs.Lookups.{or_else, or_none, past-append, past_lower, rising-append, states_at-append}
use Rattle.incompatibilities.proofs.Lookups.{up_to-append}

-- what two terms of a vertex, or one, come to
abbrev whole : ℕ → ℕ → Option Members → Option Members → Option Members
whole v w x y = unless_full (cond (eqb w v) (union_at x y) (meet_at x y))

abbrev solo : ℕ → ℕ → Option Members → Option Members
solo v w x = cond (eqb w v) None x

solo_none : (v w : ℕ) → solo v w None ≡ None
solo_none v w = by (eqb w v)
  where
    none : Option Members
    none = None

    by : (b : Bool) → cond b none none ≡ none
    by true = refl
    by false = refl

second_alone : (b : Bool) (y : Option Members) → unless_full y ≡ y
    → unless_full (cond b (union_at None y) (meet_at None y)) ≡ cond b None y
second_alone true y e = refl
second_alone false y e = e

first_alone : (b : Bool) (x : Members) → is_full x ≡ false
    → unless_full (cond b (union_at (Some x) None) (meet_at (Some x) None)) ≡ cond b None (Some x)
first_alone true x e = refl
first_alone false x e = not_full x e

-- one term alone
lone_other : (v w : ℕ) (t : TermView) → t.vertex ≢ w → states_at (lone v t) w ≡ None
lone_other v w t o =
    elim (eqb t.vertex v) as (λ b. states_at (cond b [] (t ∷ [])) w ≡ None) [ true ↦ refl | false ↦ at_later t [] w o ]

lone_here : (v w : ℕ) (t : TermView) → t.vertex ≡ w → states_at (lone v t) w ≡ solo v w (Some t.states)
lone_here v w t e = by (eqb t.vertex v) (eqb w v) (ap (λ x. eqb x v) e)
  where
    by : (b c : Bool) → b ≡ c → states_at (cond b [] (t ∷ [])) w ≡ cond c None (Some t.states)
    by true true s = refl
    by false false s = at_first t [] w e
    by true false s = cc
    by false true s = cc

lone_step : (v w : ℕ) (u : TermView) (us rest : List TermView) → states_at rest w ≡ solo v w (states_at us w)
    → states_at (lone v u ++ rest) w ≡ solo v w (states_at (u ∷ us) w)
lone_step v w u us rest e = elim (cases_eq u.vertex w) [
  | inl s ↦ states_at-append (lone v u) rest w ∙ ap₂ or_else (lone_here v w u s) e ∙ first_found (eqb w v)
      ∙ ap (solo v w) (sym (at_first u us w s))
  | inr o ↦ states_at-append (lone v u) rest w ∙ ap (λ x. or_else x (states_at rest w)) (lone_other v w u o) ∙ e
      ∙ ap (solo v w) (sym (at_later u us w o))
]
  where
    first_found : (b : Bool)
        → or_else (cond b None (Some u.states)) (cond b None (states_at us w)) ≡ cond b None (Some u.states)
    first_found true = refl
    first_found false = refl

all_lone : (v w : ℕ) (us : List TermView) → states_at (flat_map (lone v) us) w ≡ solo v w (states_at us w)
all_lone v w [] = sym (solo_none v w)
all_lone v w (u ∷ us) = lone_step v w u us (flat_map (lone v) us) (all_lone v w us)

-- two terms of one vertex
both_vertex : (v w : ℕ) (t u : TermView) → t.vertex ≢ w → states_at (both v t u) w ≡ None
both_vertex v w t u o = by (if_both v t u)
  where
    if_both : (v : ℕ) (t u : TermView) → Members
    if_both v t u = cond (eqb t.vertex v) (join t.states u.states) (meet t.states u.states)

    by : (s : Members) → states_at (kept (record { vertex = t.vertex; states = s })) w ≡ None
    by s = elim (is_full s) as (λ b. states_at (cond b [] (record { vertex = t.vertex; states = s } ∷ [])) w
        ≡ None) [ true ↦ refl | false ↦ rw (ne_eqb t.vertex w o) refl ]

kept_here : (w : ℕ) (t : TermView) → t.vertex ≡ w → states_at (kept t) w ≡ unless_full (Some t.states)
kept_here w t e = elim (is_full t.states) as
    (λ b. states_at (cond b [] (t ∷ [])) w ≡ cond b None (Some t.states)) [ true ↦ refl | false ↦ at_first t [] w e ]

both_here : (v w : ℕ) (t u : TermView) → t.vertex ≡ w
    → states_at (both v t u) w ≡ whole v w (Some t.states) (Some u.states)
both_here v w t u e = kept_here w
    (record { vertex = t.vertex; states = cond (eqb t.vertex v) (join t.states u.states) (meet t.states u.states) }) e
    ∙ ap unless_full (chosen (eqb t.vertex v) (eqb w v) (ap (λ x. eqb x v) e))
  where
    chosen : (b c : Bool) → b ≡ c → Some (cond b (join t.states u.states) (meet t.states u.states))
        ≡ cond c (Some (join t.states u.states)) (Some (meet t.states u.states))
    chosen true true s = refl
    chosen false false s = refl
    chosen true false s = cc
    chosen false true s = cc

-- what comes up to a term: three cases at each of the others
module _ (v : ℕ) (t u : TermView) (us : List TermView) where
  pub before : u.vertex < t.vertex → (up_to v t (u ∷ us) ≡ lone v u ++ up_to v t us) × (past t (u ∷ us) ≡ past t us)
  before h = (rw (lt-ltb u.vertex t.vertex h) refl, rw (lt-ltb u.vertex t.vertex h) refl)

  pub same_vertex : u.vertex ≡ t.vertex → (up_to v t (u ∷ us) ≡ both v t u) × (past t (u ∷ us) ≡ us)
  same_vertex e = (
    rw (le-ltb u.vertex t.vertex (omega arith), eq-eqb u.vertex t.vertex e) refl,
    rw (le-ltb u.vertex t.vertex (omega arith), eq-eqb u.vertex t.vertex e) refl,
  )

  pub after : t.vertex < u.vertex → (up_to v t (u ∷ us) ≡ lone v t) × (past t (u ∷ us) ≡ u ∷ us)
  after h = (
    rw (
      le-ltb u.vertex t.vertex (omega arith),
      ne_eqb u.vertex t.vertex
          (λ (e : u.vertex ≡ t.vertex). omega arith),
    ) refl,
    rw (
      le-ltb u.vertex t.vertex (omega arith),
      ne_eqb u.vertex t.vertex (λ (e : u.vertex ≡ t.vertex). omega arith),
    ) refl,
  )

up_low : (v w : ℕ) (t : TermView) (us : List TermView) → w < t.vertex → IsRising us
    → states_at (up_to v t us) w ≡ solo v w (states_at us w)
up_low v w t [] low r = lone_other v w t (λ (e : t.vertex ≡ w). omega arith) ∙ sym (solo_none v w)
up_low v w t (u ∷ us) low r = elim (cases_order u.vertex t.vertex) [
  | inl e ↦
      ap (λ l. states_at l w) (same_vertex v t u us e).0
      ∙ both_vertex v w t u (λ (s : t.vertex ≡ w). omega arith) ∙ sym (solo_none v w)
      ∙ ap (solo v w)
      (sym (at_later u us w (λ (s : u.vertex ≡ w). omega arith) ∙ absent u.vertex w us r.0 (omega arith)))
  | inr o ↦ elim o [
    | inl h ↦ ap (λ l. states_at l w) (before v t u us h).0
        ∙ lone_step v w u us (up_to v t us) (up_low v w t us low r.1)
    | inr h ↦
        ap (λ l. states_at l w) (after v t u us h).0
        ∙ lone_other v w t (λ (s : t.vertex ≡ w). omega arith) ∙ sym (solo_none v w)
        ∙ ap (solo v w)
        (sym (at_later u us w (λ (s : u.vertex ≡ w). omega arith) ∙ absent u.vertex w us r.0 (omega arith)))
  ]
]

up_here : (v w : ℕ) (t : TermView) (us : List TermView) → t.vertex ≡ w → is_full t.states ≡ false → IsRising us
    → states_at (up_to v t us) w ≡ whole v w (Some t.states) (states_at us w)
up_here v w t [] here n r = lone_here v w t here ∙ sym (first_alone (eqb w v) t.states n)
up_here v w t (u ∷ us) here n r = elim (cases_order u.vertex t.vertex) [
  | inl e ↦
      ap (λ l. states_at l w) (same_vertex v t u us e).0 ∙ both_here v w t u here
      ∙ ap (whole v w (Some t.states)) (sym (at_first u us w (e ∙ here)))
  | inr o ↦ elim o [
    | inl h ↦
        ap (λ l. states_at l w) (before v t u us h).0 ∙ states_at-append (lone v u) (up_to v t us) w
        ∙ ap (λ x. or_else x (states_at (up_to v t us) w)) (lone_other v w u (λ (s : u.vertex ≡ w). omega arith))
        ∙ up_here v w t us here n r.1
        ∙ ap (whole v w (Some t.states)) (sym (at_later u us w (λ (s : u.vertex ≡ w). omega arith)))
    | inr h ↦
        ap (λ l. states_at l w) (after v t u us h).0 ∙ lone_here v w t here ∙ sym (first_alone (eqb w v) t.states n)
        ∙ ap (whole v w (Some t.states))
        (sym (at_later u us w (λ (s : u.vertex ≡ w). omega arith) ∙ absent u.vertex w us r.0 (omega arith)))
  ]
]

up_high : (v w : ℕ) (t : TermView) (us : List TermView) → t.vertex < w → states_at (up_to v t us) w ≡ None
up_high v w t [] high = lone_other v w t (λ (e : t.vertex ≡ w). omega arith)
up_high v w t (u ∷ us) high = elim (cases_order u.vertex t.vertex) [
  | inl e ↦ ap (λ l. states_at l w) (same_vertex v t u us e).0 ∙ both_vertex v w t u (λ (s : t.vertex ≡ w). omega arith)
  | inr o ↦ elim o [
    | inl h ↦
        ap (λ l. states_at l w) (before v t u us h).0 ∙ states_at-append (lone v u) (up_to v t us) w
        ∙ ap (λ x. or_else x (states_at (up_to v t us) w))
        (lone_other v w u (λ (s : u.vertex ≡ w). omega arith)) ∙ up_high v w t us high
    | inr h ↦ ap (λ l. states_at l w) (after v t u us h).0 ∙ lone_other v w t (λ (s : t.vertex ≡ w). omega arith)
  ]
]

past_high : (v w : ℕ) (t : TermView) (us : List TermView) → t.vertex < w → states_at (past t us) w ≡ states_at us w
past_high v w t [] high = refl
past_high v w t (u ∷ us) high = elim (cases_order u.vertex t.vertex) [
  | inl e ↦ ap (λ l. states_at l w) (same_vertex v t u us e).1
      ∙ sym (at_later u us w (λ (s : u.vertex ≡ w). omega arith))
  | inr o ↦ elim o [
    | inl h ↦ ap (λ l. states_at l w) (before v t u us h).1 ∙ past_high v w t us high
        ∙ sym (at_later u us w (λ (s : u.vertex ≡ w). omega arith))
    | inr h ↦ ap (λ l. states_at l w) (after v t u us h).1
  ]
]

-- what is left past a term
pub past_is : (t : TermView) (us : List TermView) → IsIncompatibility us → IsIncompatibility (past t us)
past_is t [] r = r
past_is t (u ∷ us) r = elim (cases_order u.vertex t.vertex) [
  | inl e ↦ subst IsIncompatibility (sym (same_vertex 0 t u us e).1)
      (record { rising = r.rising.1; none_full = r.none_full.1 })
  | inr o ↦ elim o [
    | inl h ↦ subst IsIncompatibility (sym (before 0 t u us h).1)
        (past_is t us (record { rising = r.rising.1; none_full = r.none_full.1 }))
    | inr h ↦ subst IsIncompatibility (sym (after 0 t u us h).1) r
  ]
]

past_past : (t : TermView) (us : List TermView) → IsRising us → AllPast t.vertex (past t us)
past_past t [] r = tt
past_past t (u ∷ us) r = elim (cases_order u.vertex t.vertex) [
  | inl e ↦ subst (AllPast t.vertex) (sym (same_vertex 0 t u us e).1)
      (past_lower u.vertex t.vertex us r.0 (omega arith))
  | inr o ↦ elim o [
    | inl h ↦ subst (AllPast t.vertex) (sym (before 0 t u us h).1) (past_past t us r.1)
    | inr h ↦ subst (AllPast t.vertex) (sym (after 0 t u us h).1) (h, past_lower u.vertex t.vertex us r.0 (omega arith))
  ]
]

-- the order of what comes
module _ (v : ℕ) where
  lone_past : (w : ℕ) (t : TermView) → w < t.vertex → AllPast w (lone v t)
  lone_past w t h = elim (eqb t.vertex v) as (λ b. AllPast w (cond b [] (t ∷ []))) [ true ↦ tt | false ↦ (h, tt) ]

  lone_low : (w : ℕ) (t : TermView) → t.vertex ≤ w → AllUpTo w (lone v t)
  lone_low w t h = elim (eqb t.vertex v) as (λ b. AllUpTo w (cond b [] (t ∷ []))) [ true ↦ tt | false ↦ (h, tt) ]

  lone_is : (t : TermView) → is_full t.states ≡ false → IsIncompatibility (lone v t)
  lone_is t n = elim (eqb t.vertex v) as (λ b. IsIncompatibility (cond b [] (t ∷ []))) [
    | true ↦ record { rising = tt; none_full = tt }
    | false ↦ record { rising = (tt, tt); none_full = (n, tt) }
  ]

  kept_past : (w : ℕ) (t : TermView) → w < t.vertex → AllPast w (kept t)
  kept_past w t h = elim (is_full t.states) as (λ b. AllPast w (cond b [] (t ∷ []))) [ true ↦ tt | false ↦ (h, tt) ]

  kept_low : (w : ℕ) (t : TermView) → t.vertex ≤ w → AllUpTo w (kept t)
  kept_low w t h = elim (is_full t.states) as (λ b. AllUpTo w (cond b [] (t ∷ []))) [ true ↦ tt | false ↦ (h, tt) ]

  kept_is : (t : TermView) → IsIncompatibility (kept t)
  kept_is t = by (is_full t.states) refl
    where
      by : (b : Bool) → is_full t.states ≡ b → IsIncompatibility (cond b [] (t ∷ []))
      by true e = record { rising = tt; none_full = tt }
      by false e = record { rising = (tt, tt); none_full = (e, tt) }

  both_past : (w : ℕ) (t u : TermView) → w < t.vertex → AllPast w (both v t u)
  both_past w t u h = kept_past w
      (record { vertex = t.vertex; states = cond (eqb t.vertex v) (join t.states u.states) (meet t.states u.states) }) h

  both_low : (w : ℕ) (t u : TermView) → t.vertex ≤ w → AllUpTo w (both v t u)
  both_low w t u h = kept_low w
      (record { vertex = t.vertex; states = cond (eqb t.vertex v) (join t.states u.states) (meet t.states u.states) }) h

  both_is : (t u : TermView) → IsIncompatibility (both v t u)
  both_is t u = kept_is
      (record { vertex = t.vertex; states = cond (eqb t.vertex v) (join t.states u.states) (meet t.states u.states) })

  joined_is : (w : ℕ) (xs ys : List TermView) → IsIncompatibility xs → AllUpTo w xs → IsIncompatibility ys
      → AllPast w ys → IsIncompatibility (xs ++ ys)
  joined_is w xs ys a low b far = record {
    rising = rising-append w xs ys a.rising low b.rising far;
    none_full =
        none_full-append xs ys a.none_full b.none_full;
  }

  up_past : (w : ℕ) (t : TermView) (us : List TermView) → w < t.vertex → AllPast w us → AllPast w (up_to v t us)
  up_past w t [] h far = lone_past w t h
  up_past w t (u ∷ us) h far = elim (cases_order u.vertex t.vertex) [
    | inl e ↦ subst (AllPast w) (sym (same_vertex v t u us e).0) (both_past w t u h)
    | inr o ↦ elim o [
      | inl l ↦ subst (AllPast w) (sym (before v t u us l).0)
          (past-append w (lone v u) (up_to v t us) (lone_past w u far.0) (up_past w t us h far.1))
      | inr l ↦ subst (AllPast w) (sym (after v t u us l).0) (lone_past w t h)
    ]
  ]

  up_upto : (t : TermView) (us : List TermView) → AllUpTo t.vertex (up_to v t us)
  up_upto t [] = lone_low t.vertex t (omega arith)
  up_upto t (u ∷ us) = elim (cases_order u.vertex t.vertex) [
    | inl e ↦ subst (AllUpTo t.vertex) (sym (same_vertex v t u us e).0) (both_low t.vertex t u (omega arith))
    | inr o ↦ elim o [
      | inl l ↦ subst (AllUpTo t.vertex) (sym (before v t u us l).0)
          (up_to-append t.vertex (lone v u) (up_to v t us) (lone_low t.vertex u (omega arith)) (up_upto t us))
      | inr l ↦ subst (AllUpTo t.vertex) (sym (after v t u us l).0) (lone_low t.vertex t (omega arith))
    ]
  ]

  up_is : (t : TermView) (us : List TermView) → is_full t.states ≡ false → IsIncompatibility us
      → IsIncompatibility (up_to v t us)
  up_is t [] n r = lone_is t n
  up_is t (u ∷ us) n r = elim (cases_order u.vertex t.vertex) [
    | inl e ↦ subst IsIncompatibility (sym (same_vertex v t u us e).0) (both_is t u)
    | inr o ↦ elim o [
      | inl l ↦ subst IsIncompatibility (sym (before v t u us l).0)
          (joined_is u.vertex (lone v u) (up_to v t us) (lone_is u r.none_full.0) (lone_low u.vertex u (omega arith))
          (up_is t us n (record { rising = r.rising.1; none_full = r.none_full.1 }))
          (up_past u.vertex t us l r.rising.0))
      | inr l ↦ subst IsIncompatibility (sym (after v t u us l).0) (lone_is t n)
    ]
  ]

  flat_past : (w : ℕ) (us : List TermView) → AllPast w us → AllPast w (flat_map (lone v) us)
  flat_past w [] far = tt
  flat_past w (u ∷ us) far =
      past-append w (lone v u) (flat_map (lone v) us) (lone_past w u far.0) (flat_past w us far.1)

  flat_is : (us : List TermView) → IsIncompatibility us → IsIncompatibility (flat_map (lone v) us)
  flat_is [] r = r
  flat_is (u ∷ us) r =
      joined_is u.vertex (lone v u) (flat_map (lone v) us) (lone_is u r.none_full.0) (lone_low u.vertex u (omega arith))
      (flat_is us (record { rising = r.rising.1; none_full = r.none_full.1 })) (flat_past u.vertex us r.rising.0)

  past_past_lower : (w : ℕ) (t : TermView) (us : List TermView) → AllPast w us → AllPast w (past t us)
  past_past_lower w t [] far = tt
  past_past_lower w t (u ∷ us) far = elim (cases_order u.vertex t.vertex) [
    | inl e ↦ subst (AllPast w) (sym (same_vertex v t u us e).1) far.1
    | inr o ↦ elim o [
      | inl l ↦ subst (AllPast w) (sym (before v t u us l).1) (past_past_lower w t us far.1)
      | inr l ↦ subst (AllPast w) (sym (after v t u us l).1) far
    ]
  ]

  merged_past : (w : ℕ) (ts us : List TermView) → AllPast w ts → AllPast w us → AllPast w (merged v ts us)
  merged_past w [] us a b = flat_past w us b
  merged_past w (t ∷ ts) us a b = past-append w (up_to v t us) (merged v ts (past t us)) (up_past w t us a.0 b)
      (merged_past w ts (past t us) a.1 (past_past_lower w t us b))

  merged_rises : (ts us : List TermView) → IsIncompatibility ts → IsIncompatibility us
      → IsIncompatibility (merged v ts us)
  merged_rises [] us a b = flat_is us b
  merged_rises (t ∷ ts) us a b =
      joined_is t.vertex (up_to v t us) (merged v ts (past t us)) (up_is t us a.none_full.0 b) (up_upto t us)
      (merged_rises ts (past t us) (record { rising = a.rising.1; none_full = a.none_full.1 }) (past_is t us b))
      (merged_past t.vertex ts (past t us) a.rising.0 (past_past t us b.rising))

-- what a merge has at a vertex
merged_at : (v w : ℕ) (ts us : List TermView) → IsIncompatibility ts → IsIncompatibility us
    → states_at (merged v ts us) w ≡ whole v w (states_at ts w) (states_at us w)
merged_at v w [] us a b = all_lone v w us ∙ sym (second_alone (eqb w v) (states_at us w) (all_kept us w b.none_full))
merged_at v w (t ∷ ts) us a b = elim (cases_order w t.vertex) [
  | inl e ↦
      states_at-append (up_to v t us) (merged v ts (past t us)) w
      ∙ ap₂ or_else (up_here v w t us (sym e) a.none_full.0 b.rising) (later_none (omega arith))
      ∙ or_none (whole v w (Some t.states) (states_at us w))
      ∙ ap (λ x. whole v w x (states_at us w)) (sym (at_first t ts w (sym e)))
  | inr o ↦ elim o [
    | inl low ↦
        states_at-append (up_to v t us) (merged v ts (past t us)) w
        ∙ ap₂ or_else (up_low v w t us low b.rising) (later_none (omega arith)) ∙ or_none (solo v w (states_at us w))
        ∙ sym (second_alone (eqb w v) (states_at us w) (all_kept us w b.none_full))
        ∙ ap (λ x. whole v w x (states_at us w))
        (sym (at_later t ts w (λ (s : t.vertex ≡ w). omega arith) ∙ absent t.vertex w ts a.rising.0 (omega arith)))
    | inr high ↦
        states_at-append (up_to v t us) (merged v ts (past t us)) w
        ∙ ap (λ x. or_else x (states_at (merged v ts (past t us)) w)) (up_high v w t us high)
        ∙ merged_at v w ts (past t us) (record { rising = a.rising.1; none_full = a.none_full.1 }) (past_is t us b)
        ∙ ap₂ (whole v w) (sym (at_later t ts w (λ (s : t.vertex ≡ w). omega arith))) (past_high v w t us high)
  ]
]
  where
    later_none : w ≤ t.vertex → states_at (merged v ts (past t us)) w ≡ None
    later_none low = absent t.vertex w (merged v ts (past t us))
        (merged_past v t.vertex ts (past t us) a.rising.0 (past_past t us b.rising)) low

pub merged_is : (v : ℕ) (ts us : List TermView) → IsIncompatibility ts → IsIncompatibility us
    → IsCombination v ts us (merged v ts us)
merged_is v ts us a b = record { is = merged_rises v ts us a b; each = λ w. merged_at v w ts us a b }
