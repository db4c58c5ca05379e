-- Look-ups in lists of terms, and what rising lists leave out.
use Rattle.std.proofs.Common.{◌≡◌, ◌≢◌, ℕ, ◌<◌, ◌≤◌, Bool, true, false, cond, eqb, List, [], ◌∷◌, ◌++◌, Option, Some}
use Rattle.std.proofs.Common.{None, refl, ap, sym, ◌∙◌, arith, eq-eqb, inl, inr}
use Rattle.std.proofs.lemmas.Bool.{cases_eq, ne_eqb}
use Rattle.version_sets.specs.Sets.{Members, is_full}
use Rattle.terms.specs.Terms.{TermView}
use Rattle.incompatibilities.specs.Incompatibilities.{AllPast, IsRising, NoneFull, states_at, unless_full}

abbrev pub or_else : Option Members → Option Members → Option Members
or_else None y = y
or_else (Some x) y = Some x

pub or_none : (x : Option Members) → or_else x None ≡ x
or_none None = refl
or_none (Some x) = refl

-- the first term is at the vertex, or the rest are asked
pub at_first : (t : TermView) (ts : List TermView) (w : ℕ) → t.vertex ≡ w → states_at (t ∷ ts) w ≡ Some t.states
at_first t ts w e = rw (eq-eqb t.vertex w e) refl

pub at_later : (t : TermView) (ts : List TermView) (w : ℕ) → t.vertex ≢ w → states_at (t ∷ ts) w ≡ states_at ts w
at_later t ts w o = rw (ne_eqb t.vertex w o) refl

append_step : (b : Bool) (s : Members) (x y r : Option Members) → r ≡ or_else x y
    → cond b (Some s) r ≡ or_else (cond b (Some s) x) y
append_step true s x y r e = refl
append_step false s x y r e = e

pub states_at-append : (xs ys : List TermView) (w : ℕ)
    → states_at (xs ++ ys) w ≡ or_else (states_at xs w) (states_at ys w)
states_at-append [] ys w = refl
states_at-append (t ∷ ts) ys w = append_step (eqb t.vertex w) t.states (states_at ts w) (states_at ys w)
    (states_at (ts ++ ys) w) (states_at-append ts ys w)

-- nothing stands at a vertex that all are past
pub absent : (v w : ℕ) (ts : List TermView) → AllPast v ts → w ≤ v → states_at ts w ≡ None
absent v w [] far low = refl
absent v w (t ∷ ts) far low =
    at_later t ts w (let past : v < t.vertex = far.0 in λ (e : t.vertex ≡ w). omega arith) ∙ absent v w ts far.1 low

pub past_lower : (v w : ℕ) (ts : List TermView) → AllPast v ts → w ≤ v → AllPast w ts
past_lower v w [] far low = tt
past_lower v w (t ∷ ts) far low = ((let past : v < t.vertex = far.0 in omega arith), past_lower v w ts far.1 low)

pub past-append : (v : ℕ) (xs ys : List TermView) → AllPast v xs → AllPast v ys → AllPast v (xs ++ ys)
past-append v [] ys a b = b
past-append v (x ∷ xs) ys a b = (a.0, past-append v xs ys a.1 b)

-- no vertex past another
abbrev pub AllUpTo : ℕ → List TermView → Type 0
AllUpTo v [] = Unit {0}
AllUpTo v (t ∷ ts) = (t.vertex ≤ v) × AllUpTo v ts

pub up_to-append : (v : ℕ) (xs ys : List TermView) → AllUpTo v xs → AllUpTo v ys → AllUpTo v (xs ++ ys)
up_to-append v [] ys a b = b
up_to-append v (x ∷ xs) ys a b = (a.0, up_to-append v xs ys a.1 b)

pub rising-append : (v : ℕ) (xs ys : List TermView) → IsRising xs → AllUpTo v xs → IsRising ys
    → AllPast v ys → IsRising (xs ++ ys)
rising-append v [] ys r low s far = s
rising-append v (x ∷ xs) ys r low s far =
    (past-append x.vertex xs ys r.0 (past_lower v x.vertex ys far low.0), rising-append v xs ys r.1 low.1 s far)

pub none_full-append : (xs ys : List TermView) → NoneFull xs → NoneFull ys → NoneFull (xs ++ ys)
none_full-append [] ys a b = b
none_full-append (x ∷ xs) ys a b = (a.0, none_full-append xs ys a.1 b)

-- the states of terms of which none is full
pub not_full : (s : Members) → is_full s ≡ false → unless_full (Some s) ≡ Some s
not_full s e = rw e refl

pub all_kept : (ts : List TermView) (w : ℕ) → NoneFull ts → unless_full (states_at ts w) ≡ states_at ts w
all_kept [] w n = refl
all_kept (t ∷ ts) w n = elim (cases_eq t.vertex w) [
  | inl e ↦ ap unless_full (at_first t ts w e) ∙ not_full t.states n.0 ∙ sym (at_first t ts w e)
  | inr o ↦ ap unless_full (at_later t ts w o) ∙ all_kept ts w n.1 ∙ sym (at_later t ts w o)
]
