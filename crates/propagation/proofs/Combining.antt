-- Where a combination is satisfied: with what forced an assignment, before the assignment, if the first of the two is
-- satisfied after it; and then the first of the two is satisfied too, but for its term at the vertex.
use Rattle.std.proofs.Common.{◌≡◌, ℕ, ◌<◌, Bool, true, false, cond, eq-eqb, List, [], ◌∷◌, length, Option, Some, None}
use Rattle.std.proofs.Common.{refl, sym, ap, ◌∙◌, subst, arith, inl, inr}
use Rattle.std.proofs.lemmas.Bool.{cases_eq, false≢true, ne_eqb}
use Rattle.version_sets.specs.Sets.{Members, inside, is_full, join, meet, rest, size}
use Rattle.version_sets.proofs.Within.{meets_some}
use Rattle.terms.specs.Terms.{TermView}
use Rattle.incompatibilities.specs.Incompatibilities.{IsCombination, IsIncompatibility, LiesIn, NoneFull, Terms}
use Rattle.incompatibilities.specs.Incompatibilities.{combined_at, meet_at, states_at, union_at, unless_full, HoldsAt}
use Rattle.propagation.specs.Trails.{set_of}
use Rattle.propagation.specs.Satisfaction.{IsForced, OthersHold, Sat}
use Rattle.propagation.proofs.SetLemmas.{inside_none}
use Rattle.propagation.proofs.Vertices.{full_at, place_of}

inside_join : (b x y : Members) → length x ≡ length b → length y ≡ length b → inside (meet b (rest x)) y ≡ true
    → inside b (join y x) ≡ true
inside_join [] x y ex ey h = refl
inside_join (b ∷ bs) [] y ex ey h = absurd (omega (arith, ex))
inside_join (b ∷ bs) (x ∷ xs) [] ex ey h = absurd (omega (arith, ey))
inside_join (true ∷ bs) (true ∷ xs) (true ∷ ys) ex ey h = inside_join bs xs ys (omega (arith, ex)) (omega (arith, ey)) h
inside_join (true ∷ bs) (true ∷ xs) (false ∷ ys) ex ey h =
    inside_join bs xs ys (omega (arith, ex)) (omega (arith, ey)) h
inside_join (true ∷ bs) (false ∷ xs) (true ∷ ys) ex ey h =
    inside_join bs xs ys (omega (arith, ex)) (omega (arith, ey)) h
inside_join (true ∷ bs) (false ∷ xs) (false ∷ ys) ex ey h = absurd (false≢true h)
inside_join (false ∷ bs) (x ∷ xs) (y ∷ ys) ex ey h = inside_join bs xs ys (omega (arith, ex)) (omega (arith, ey)) h

inside_meet : (b x y : Members) → inside b x ≡ true → inside b y ≡ true → inside b (meet x y) ≡ true
inside_meet [] x y hx hy = refl
inside_meet (true ∷ bs) [] y hx hy = hx
inside_meet (false ∷ bs) [] y hx hy = hx
inside_meet (true ∷ bs) (x ∷ xs) [] hx hy = hy
inside_meet (false ∷ bs) (x ∷ xs) [] hx hy = hy
inside_meet (true ∷ bs) (true ∷ xs) (true ∷ ys) hx hy = inside_meet bs xs ys hx hy
inside_meet (true ∷ bs) (true ∷ xs) (false ∷ ys) hx hy = hy
inside_meet (true ∷ bs) (false ∷ xs) (y ∷ ys) hx hy = hx
inside_meet (false ∷ bs) (x ∷ xs) (y ∷ ys) hx hy = inside_meet bs xs ys hx hy

pub meet_holds : (set : Members) (x y : Option Members) → HoldsAt set x → HoldsAt set y → HoldsAt set (meet_at x y)
meet_holds set None y hx hy = hy
meet_holds set (Some x) None hx hy = hx
meet_holds set (Some x) (Some y) hx hy = (hx.0, inside_meet set x y hx.1 hy.1)

union_holds : (b x : Members) (y : Option Members) → 0 < size b → length x ≡ length b
    → ((z : Members) → y ≡ Some z → length z ≡ length b) → HoldsAt (meet b (rest x)) y → HoldsAt b (union_at y (Some x))
union_holds b x None some fits ok h = tt
union_holds b x (Some y) some fits ok h = (some, inside_join b x y fits (ok y refl) h.1)

-- a full term is dropped
pub kept_holds : (set : Members) (o : Option Members) → HoldsAt set o → HoldsAt set (unless_full o)
kept_holds set None h = tt
kept_holds set (Some x) h = by (is_full x)
  where
    by : (b : Bool) → HoldsAt set (cond b None (Some x))
    by true = tt
    by false = h

pub combined_before : (sets after : List Members) (v : ℕ) (f forcing made : Terms) (x : Members)
    → IsForced sets after v forcing x → Sat after f → ((z : Members) → f v ≡ Some z → length z ≡ length (set_of sets v))
    → ((u : ℕ) → made u ≡ unless_full (combined_at v f forcing u)) → Sat sets made
combined_before sets after v f forcing made x forced sat ok each u = subst (HoldsAt (set_of sets u)) (sym (each u))
    (kept_holds (set_of sets u) (combined_at v f forcing u) (elim (cases_eq u v) [
      | inl e ↦ subst (λ w. HoldsAt (set_of sets w) (combined_at v f forcing w)) (sym e)
          (subst (HoldsAt (set_of sets v))
          (sym (ap (λ b. cond b (union_at (f v) (forcing v)) (meet_at (f v) (forcing v))) (eq-eqb v v refl)))
          (subst (λ o. HoldsAt (set_of sets v) (union_at (f v) o)) (sym forced.one.term)
          (union_holds (set_of sets v) x (f v) (meets_some (set_of sets v) x forced.one.common) forced.fits ok
          (subst (λ s. HoldsAt s (f v)) forced.here (sat v)))))
      | inr ne ↦ subst (HoldsAt (set_of sets u))
          (sym (ap (λ b. cond b (union_at (f u) (forcing u)) (meet_at (f u) (forcing u))) (ne_eqb u v ne)))
          (meet_holds (set_of sets u) (f u) (forcing u)
          (subst (λ s. HoldsAt s (f u)) (forced.there u ne) (sat u)) (forced.one.others u ne))
    ]))

-- where a combination is satisfied, so are the terms of the first at the other vertices
inside_first : (b x y : Members) → inside b (meet x y) ≡ true → inside b x ≡ true
inside_first [] x y h = refl
inside_first (b ∷ bs) [] y h = h
inside_first (b ∷ bs) (x ∷ xs) [] h = inside_none (b ∷ bs) (x ∷ xs) h
inside_first (true ∷ bs) (true ∷ xs) (true ∷ ys) h = inside_first bs xs ys h
inside_first (true ∷ bs) (true ∷ xs) (false ∷ ys) h = absurd (false≢true h)
inside_first (true ∷ bs) (false ∷ xs) (y ∷ ys) h = h
inside_first (false ∷ bs) (x ∷ xs) (y ∷ ys) h = inside_first bs xs ys h

-- an intersection is full only if both are
pub meet_full : (x y : Members) → length x ≡ length y → is_full (meet x y) ≡ true → is_full x ≡ true
meet_full [] y e h = refl
meet_full (x ∷ xs) [] e h = absurd (omega (arith, e))
meet_full (true ∷ xs) (true ∷ ys) e h = meet_full xs ys (omega (arith, e)) h
meet_full (true ∷ xs) (false ∷ ys) e h = absurd (false≢true h)
meet_full (false ∷ xs) (y ∷ ys) e h = absurd (false≢true h)

not_full : (x y : Members) → length x ≡ length y → is_full x ≡ false → (b : Bool) → is_full (meet x y) ≡ b
    → is_full (meet x y) ≡ false
not_full x y e h true is = absurd (false≢true (sym h ∙ meet_full x y e is))
not_full x y e h false is = is

unless_holds : (set z : Members) → is_full z ≡ false → HoldsAt set (unless_full (Some z)) → HoldsAt set (Some z)
unless_holds set z e h = subst (λ b. HoldsAt set (cond b None (Some z))) e h

other_first : (set : Members) (x y : Option Members) → ((z : Members) → x ≡ Some z → is_full z ≡ false)
    → ((z w : Members) → x ≡ Some z → y ≡ Some w → length z ≡ length w)
    → HoldsAt set (unless_full (meet_at x y)) → HoldsAt set x
other_first set None y some fit h = tt
other_first set (Some x) None some fit h = unless_holds set x (some x refl) h
other_first set (Some x) (Some y) some fit h =
    let k = unless_holds set (meet x y) (not_full x y (fit x y refl refl) (some x refl) (is_full (meet x y)) refl) h in
    (k.0, inside_first set x y k.1)

full_none : (ts : List TermView) (u : ℕ) (x : Members) → NoneFull ts → states_at ts u ≡ Some x → is_full x ≡ false
full_none ts u x none e = let p = place_of ts u x e in subst (λ s. is_full s ≡ false) p.3 (full_at ts p.0 none p.1)

pub combined_others : (space : ℕ → ℕ) (sets : List Members) (v : ℕ) (a b made : List TermView) → IsIncompatibility a
    → LiesIn space (states_at a) → LiesIn space (states_at b) → IsCombination v a b made → Sat sets (states_at made)
    → OthersHold sets (states_at a) v
combined_others space sets v a b made is la lb c sat u ne =
    other_first (set_of sets u) (states_at a u) (states_at b u) (λ z e. full_none a u z is.none_full e)
    (λ z w ez ew. la u z ez ∙ sym (lb u w ew))
    (subst (λ o. HoldsAt (set_of sets u) (unless_full o)) (ap (λ at. cond at (union_at (states_at a u) (states_at b u))
    (meet_at (states_at a u) (states_at b u))) (ne_eqb u v ne))
    (subst (HoldsAt (set_of sets u)) (c.each u) (sat u)))
