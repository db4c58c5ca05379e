-- Texts of which each is there once.
use Rattle.std.proofs.Common.{◌≡◌, ◌≢◌, ℕ, List, [], ◌∷◌, ◌++◌, filter, Bool, true, false, not, Contains, refl, sym, ap}
use Rattle.std.proofs.Common.{◌∙◌, subst, inl, inr, ◌⊎◌, true≢false}
use Rattle.std.specs.List.{AllPairs}
use Rattle.std.proofs.lemmas.List.Elements.{filter-append}
use Rattle.std.proofs.lemmas.List.Kept.{AllPairs-cons, AllPairs-filter}
use Rattle.model.specs.Summary.{same_text}
use Rattle.model.proofs.Same.{text-same, text-refl}
use Rattle.model.proofs.Lists.{in_none, in_cons, in_first, in_rest, in_filter, to_filter, pairs_none}
use Rattle.model.proofs.Members.{all_in}
use Rattle.catalogue.specs.Runs.{once}

-- a text of the list is there once
pub to_once : (xs : List (List ℕ)) (x : List ℕ) → Contains xs x → Contains (once xs) x
unfolding once
to_once [] x c = absurd (in_none x c)
to_once (y ∷ ys) x c = by (λ c. to_once ys x c) (same_text y x) refl (in_cons y x ys c)
  where
    others : List (List ℕ)
    others = filter (λ z. not (same_text y z)) (once ys)

    by : (Contains ys x → Contains (once ys) x) → (b : Bool) → same_text y x ≡ b → (y ≡ x) ⊎ Contains ys x
        → Contains (y ∷ others) x
    by rest true e i = subst (λ z. Contains (y ∷ others) z) (text-same y x e) (in_first y others)
    by rest false e (inl s) = absurd (true≢false (sym (text-refl y) ∙ ap (same_text y) s ∙ e))
    by rest false e (inr i) = in_rest y x others (to_filter (λ z. not (same_text y z)) (once ys) x (rest i) (ap not e))

-- and no other one is
pub in_once : (xs : List (List ℕ)) (x : List ℕ) → Contains (once xs) x → Contains xs x
unfolding once
in_once [] x c = absurd (in_none x c)
in_once (y ∷ ys) x c = elim (in_cons y x (filter (λ z. not (same_text y z)) (once ys)) c) [
  | inl s ↦ subst (λ z. Contains (y ∷ ys) z) s (in_first y ys)
  | inr i ↦ in_rest y x ys (in_once ys x (in_filter (λ z. not (same_text y z)) (once ys) x i).0)
]

-- more texts come after those that are there
pub once-more : (xs ys : List (List ℕ)) → (zs : List (List ℕ)) × (once (xs ++ ys) ≡ once xs ++ zs)
unfolding once
once-more [] ys = (once ys, refl)
once-more (x ∷ xs) ys =
    let r = once-more xs ys in
    let other = λ (z : List ℕ). not (same_text x z) in
    (filter other r.0, ap (λ l. x ∷ filter other l) r.1 ∙ ap (λ l. x ∷ l) (filter-append other (once xs) r.0))

-- each is there once
pub once-distinct : (xs : List (List ℕ)) → AllPairs (λ x y. x ≢ y) (once xs)
unfolding once
once-distinct [] = pairs_none (λ x y. x ≢ y)
once-distinct (x ∷ xs) =
    let other = λ (z : List ℕ). not (same_text x z) in
    AllPairs-cons (λ x y. x ≢ y) x (filter other (once xs))
    (all_in (λ y. x ≢ y) (filter other (once xs)) differs)
    (AllPairs-filter (λ x y. x ≢ y) other (once xs) (once-distinct xs))
  where
    differs : (y : List ℕ) → Contains (filter (λ z. not (same_text x z)) (once xs)) y → x ≢ y
    differs y c e = true≢false
        (sym (in_filter (λ z. not (same_text x z)) (once xs) y c).1 ∙ ap not (ap (same_text x) (sym e) ∙ text-refl x))
