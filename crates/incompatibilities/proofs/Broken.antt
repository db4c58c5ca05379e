-- What breaks a combination breaks one of the two that are combined.
use Rattle.std.proofs.Common.{◌≡◌, ◌≢◌, ℕ, zero, suc, ◌<◌, Bool, true, false, cond, eqb, List, [], ◌∷◌, length, Option}
use Rattle.std.proofs.Common.{Some, None, refl, ap, sym, ◌∙◌, subst, arith, eq-eqb, ◌⊎◌, inl, inr}
use Rattle.std.proofs.lemmas.Bool.{and_parts, cases_eq, ne_eqb, or_cases}
use Rattle.version_sets.specs.Sets.{Members, has, is_full, join, meet}
use Rattle.version_sets.proofs.Laws.{full_has, has-join, has-meet, length-join, length-meet}
use Rattle.std.proofs.lemmas.Option.{same_Some}
use Rattle.incompatibilities.specs.Incompatibilities.{Assignment, Fit, HoldsOf, IsMadeOf, IsWithin, LiesIn, OneIsBroken}
use Rattle.incompatibilities.specs.Incompatibilities.{Terms, combined_at, meet_at, states_at, union_at, unless_full}
use Rattle.terms.specs.Terms.{TermView}

within_meet : (xs ys : Members) (i : ℕ) → i < length xs → i < length ys → i < length (meet xs ys)
within_meet [] ys i a b = absurd (omega arith)
within_meet (x ∷ xs) [] i a b = absurd (omega arith)
within_meet (x ∷ xs) (y ∷ ys) zero a b = omega arith
within_meet (x ∷ xs) (y ∷ ys) (suc i) a b = omega (arith, within_meet xs ys i (omega arith) (omega arith))

within_join : (xs ys : Members) (i : ℕ) → i < length xs → i < length ys → i < length (join xs ys)
within_join [] ys i a b = absurd (omega arith)
within_join (x ∷ xs) [] i a b = absurd (omega arith)
within_join (x ∷ xs) (y ∷ ys) zero a b = omega arith
within_join (x ∷ xs) (y ∷ ys) (suc i) a b = omega (arith, within_join xs ys i (omega arith) (omega arith))

-- a full term holds of each state
full_holds : (s : Members) (i : ℕ) → i < length s → HoldsOf (unless_full (Some s)) i → has s i ≡ true
full_holds s i within = by (is_full s) refl
  where
    by : (b : Bool) → is_full s ≡ b → HoldsOf (cond b None (Some s)) i → has s i ≡ true
    by true e h = full_has s i e within
    by false e h = h

abbrev Inside : Option Members → ℕ → Type 0
Inside o i = (s : Members) → o ≡ Some s → i < length s

meet_holds : (o p : Option Members) (i : ℕ) → Inside o i → Inside p i → HoldsOf (unless_full (meet_at o p)) i
    → HoldsOf o i × HoldsOf p i
meet_holds None None i a b h = (tt, tt)
meet_holds None (Some y) i a b h = (tt, full_holds y i (b y refl) h)
meet_holds (Some x) None i a b h = (full_holds x i (a x refl) h, tt)
meet_holds (Some x) (Some y) i a b h =
    and_parts (has x i) (has y i) (sym (has-meet x y i (a x refl) (b y refl))
    ∙ full_holds (meet x y) i (within_meet x y i (a x refl) (b y refl)) h)

union_holds : (o p : Option Members) (i : ℕ) → Inside o i → Inside p i → HoldsOf (unless_full (union_at o p)) i
    → HoldsOf o i ⊎ HoldsOf p i
union_holds None p i a b h = inl tt
union_holds (Some x) None i a b h = inr tt
union_holds (Some x) (Some y) i a b h =
    or_cases (has x i) (has y i) (sym (has-join x y i (a x refl) (b y refl))
    ∙ full_holds (join x y) i (within_join x y i (a x refl) (b y refl)) h)

pub one_is_broken : (v : ℕ) (f g h : Terms) → ((u : ℕ) → h u ≡ unless_full (combined_at v f g u)) → OneIsBroken f g h
one_is_broken v f g h each x a b broken = elim at_v [
  | inl held ↦ inl
      (λ u. elim (cases_eq u v) [ inl e ↦ subst (λ w. HoldsOf (f w) (x w)) (sym e) held | inr o ↦ (elsewhere u o).0 ])
  | inr held ↦ inr
      (λ u. elim (cases_eq u v) [ inl e ↦ subst (λ w. HoldsOf (g w) (x w)) (sym e) held | inr o ↦ (elsewhere u o).1 ])
]
  where
    at_v : HoldsOf (f v) (x v) ⊎ HoldsOf (g v) (x v)
    at_v = union_holds (f v) (g v) (x v) (a v) (b v) (subst (λ o. HoldsOf o (x v)) (each v
        ∙ ap (λ t. unless_full (cond t (union_at (f v) (g v)) (meet_at (f v) (g v)))) (eq-eqb v v refl)) (broken v))

    elsewhere : (u : ℕ) → u ≢ v → HoldsOf (f u) (x u) × HoldsOf (g u) (x u)
    elsewhere u o = meet_holds (f u) (g u) (x u) (a u) (b u) (subst (λ o. HoldsOf o (x u)) (each u
        ∙ ap (λ t. unless_full (cond t (union_at (f u) (g u)) (meet_at (f u) (g u)))) (ne_eqb u v o)) (broken u))

-- what is so of the states of a term is so of them where a full term is dropped
kept_each : (P : Members → Type 0) (o : Option Members) (s : Members) → ((t : Members) → o ≡ Some t → P t)
    → unless_full o ≡ Some s → P s
kept_each P None s each q = cc
kept_each P (Some y) s each q = kept (is_full y) q
  where
    kept : (b : Bool) → cond b None (Some y) ≡ Some s → P s
    kept true q = cc
    kept false q = each s q

-- what is so of the sets of both, and passes to unions and to common states, is so of the sets of a combination
combined_each : (P : Members → Type 0) (v u : ℕ) (f g h : Terms) → h u ≡ unless_full (combined_at v f g u)
    → ((y z : Members) → P y → P z → P (join y z)) → ((y z : Members) → P y → P z → P (meet y z))
    → ((t : Members) → f u ≡ Some t → P t) → ((t : Members) → g u ≡ Some t → P t)
    → (s : Members) → h u ≡ Some s → P s
combined_each P v u f g h each joined met a b s e = by (eqb u v) (f u) (g u) a b (sym each ∙ e)
  where
    by : (c : Bool) (o p : Option Members) → ((t : Members) → o ≡ Some t → P t) → ((t : Members) → p ≡ Some t → P t)
        → unless_full (cond c (union_at o p) (meet_at o p)) ≡ Some s → P s
    by true None p i j q = cc
    by true (Some y) None i j q = cc
    by true (Some y) (Some z) i j q = kept_each P (Some (join y z)) s
        (λ t r. subst P (same_Some (join y z) t r) (joined y z (i y refl) (j z refl))) q
    by false None p i j q = kept_each P p s j q
    by false (Some y) None i j q = kept_each P (Some y) s i q
    by false (Some y) (Some z) i j q = kept_each P (Some (meet y z)) s
        (λ t r. subst P (same_Some (meet y z) t r) (met y z (i y refl) (j z refl))) q

-- the sets of a combination hold what the sets of both hold
pub within_combined : (v : ℕ) (f g h : Terms) → ((u : ℕ) → h u ≡ unless_full (combined_at v f g u)) → (x : Assignment)
    → IsWithin x f → IsWithin x g → IsWithin x h
within_combined v f g h each x a b u s e = combined_each (λ (t : Members). x u < length t) v u f g h (each u)
    (λ y z p q. within_join y z (x u) p q) (λ y z p q. within_meet y z (x u) p q) (a u) (b u) s e

-- the sets of a combination are of the universes of both
pub lies_combined : (v : ℕ) (f g h : Terms) → ((u : ℕ) → h u ≡ unless_full (combined_at v f g u)) → (space : ℕ → ℕ)
    → LiesIn space f → LiesIn space g → LiesIn space h
lies_combined v f g h each space a b u s e = combined_each (λ (t : Members). length t ≡ space u) v u f g h (each u)
    (λ y z p q. length-join y z (p ∙ sym q) ∙ p) (λ y z p q. length-meet y z (p ∙ sym q) ∙ p) (a u) (b u) s e

-- the sets of the incompatibility of some terms are of their universes
pub lies_made : (given made : List TermView) → IsMadeOf given made → (space : ℕ → ℕ) → LiesIn space (states_at given)
    → LiesIn space (states_at made)
lies_made given made m space a u s e =
    kept_each (λ (t : Members). length t ≡ space u) (states_at given u) s (a u) (sym (m.each u) ∙ e)

-- sets of the same universes fit
pub lies_fit : (space : ℕ → ℕ) (f g : Terms) → LiesIn space f → LiesIn space g → Fit f g
lies_fit space f g a b u x y e d = a u x e ∙ sym (b u y d)
