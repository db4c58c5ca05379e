-- Sets of states compared state by state.
use Rattle.std.proofs.Common.{◌≡◌, List, [], ◌∷◌, ◌++◌, map, filter, Bool, true, false, not, cond, ◌&&◌, ◌||◌, refl}
use Rattle.std.proofs.Common.{sym, ap, ◌∙◌}
use Rattle.std.specs.List.{list_all}
use Rattle.std.proofs.lemmas.List.Folds.{list_any-append, list_all-append}
use Rattle.std.proofs.Math.Bool.{and-false}
use Rattle.model.specs.Derivation.{both}
use Rattle.model.specs.Vertices.{State, same_state, has_state}
use Rattle.model.proofs.Same.{state-same}
use Rattle.model.specs.inner.Terms.{is_within, same_states}
use Rattle.lookups.specs.inner.Sets.{all_in_either, all_in_both, all_shared_in}

-- ---- tests

pub and_then : (x y z : Bool) → x ≡ true → (x && y) ≡ z → y ≡ z
and_then x y z t e = ap (λ b. b && y) (sym t) ∙ e

pub and_else : (x y z : Bool) → x ≡ false → (x && y) ≡ z → x ≡ z
and_else x y z f e = f ∙ ap (λ b. b && y) (sym f) ∙ e

pub all_map : {X Y : Type 0} (f : X → Y) (test : Y → Bool) (xs : List X)
    → list_all test (map f xs) ≡ list_all (λ x. test (f x)) xs
all_map f test [] = refl
all_map f test (x ∷ xs) = ap (λ b. test (f x) && b) (all_map f test xs)

pub all_alike : {X : Type 0} (p r : X → Bool) → ((x : X) → p x ≡ r x) → (xs : List X) → list_all p xs ≡ list_all r xs
all_alike p r h [] = refl
all_alike p r h (x ∷ xs) = ap (λ b. b && list_all p xs) (h x) ∙ ap (λ b. r x && b) (all_alike p r h xs)

pub all_filter : {X : Type 0} (t p : X → Bool) (xs : List X)
    → list_all p (filter t xs) ≡ list_all (λ x. not (t x) || p x) xs
all_filter t p [] = refl
all_filter t p (x ∷ xs) = by (all_filter t p xs) (t x)
  where
    by : list_all p (filter t xs) ≡ list_all (λ x. not (t x) || p x) xs → (b : Bool)
        → list_all p (cond b (x ∷ filter t xs) (filter t xs)) ≡ ((not b || p x) && list_all (λ x. not (t x) || p x) xs)
    by rest true = ap (λ r. p x && r) rest
    by rest false = rest

-- ---- sets

in_both : (a b : List State) (s : State) → has_state (both a b) s ≡ (has_state a s && has_state b s)
in_both [] b s = refl
in_both (r ∷ a) b s = by (in_both a b s) (has_state b r) refl (same_state s r) refl
  where
    here : (x y z : Bool) → y ≡ x → (true || z) ≡ true → (x ≡ true) → true ≡ ((true || z) && y)
    here x y z e t h = sym h ∙ sym e

    by : has_state (both a b) s ≡ (has_state a s && has_state b s) → (t : Bool) → has_state b r ≡ t
        → (e : Bool) → same_state s r ≡ e
        → has_state (cond t (r ∷ both a b) (both a b)) s ≡ ((e || has_state a s) && has_state b s)
    by rest true h true e = ap (λ x. x || has_state (both a b) s) e ∙ sym h ∙ ap (has_state b) (sym (state-same s r e))
    by rest true h false e = ap (λ x. x || has_state (both a b) s) e ∙ rest
    by rest false h true e = rest ∙ ap (λ x. has_state a s && x) off ∙ and-false (has_state a s) ∙ sym off
      where
        off : has_state b s ≡ false
        off = ap (has_state b) (state-same s r e) ∙ h
    by rest false h false e = rest

-- a set is the union of two where it lies in either and has all of both
pub union_is : (ss a b : List State)
    → (all_in_either ss a b && (is_within a ss && is_within b ss)) ≡ same_states ss (a ++ b)
union_is ss a b =
    ap (λ x. x && (is_within a ss && is_within b ss)) (all_alike (λ s. has_state a s || has_state b s)
    (has_state (a ++ b)) (λ s. sym (list_any-append (same_state s) a b)) ss)
    ∙ ap (λ x. is_within ss (a ++ b) && x) (sym (list_all-append (has_state ss) a b))

-- a set is the intersection of two where it lies in both and has all that they share
pub meet_is : (ss a b : List State) → (all_in_both ss a b && all_shared_in a b ss) ≡ same_states ss (both a b)
meet_is ss a b =
    ap (λ x. x && all_shared_in a b ss)
    (all_alike (λ s. has_state a s && has_state b s) (has_state (both a b)) (λ s. sym (in_both a b s)) ss)
    ∙ ap (λ x. is_within ss (both a b) && x) (sym (all_filter (has_state b) (has_state ss) a))
