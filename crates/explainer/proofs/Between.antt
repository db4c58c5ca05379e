-- Texts with another between each two, one after another.
use Rattle.std.proofs.Common.{◌≡◌, ℕ, ◌≤◌, List, [], ◌∷◌, ◌++◌, map, length, drop, Bool, true, false, refl, sym, ap}
use Rattle.std.proofs.Common.{◌∙◌, append-nil}
use Rattle.std.proofs.lemmas.List.{drop_all}
use Rattle.explainer.specs.Explanations.{text_if, with_between}

module _ (between : List ℕ) {X : Type 0} (f : X → List ℕ) where
  -- the texts of elements, each but the first after that text
  abbrev pub separated : Bool → List X → List ℕ
  separated later [] = []
  separated later (x ∷ xs) = text_if later between ++ (f x ++ separated true xs)

  pub separated-between : (xs : List X) → separated false xs ≡ with_between between (map f xs)
  separated-between [] = refl
  separated-between (x ∷ []) = append-nil (f x)
  separated-between (x ∷ y ∷ ys) = ap (λ t. f x ++ (between ++ t)) (separated-between (y ∷ ys))

  pub all-written : {Y : Type 0} (v : Y → X) (text old : List ℕ) (later : Bool) (i : ℕ) (ys : List Y) → length ys ≤ i
      → text ++ separated later (map v (drop i ys)) ≡ old ++ separated false (map v ys)
      → text ≡ old ++ with_between between (map f (map v ys))
  all-written v text old later i ys past h =
      let whole = rw (drop_all i ys past) at h in
      sym (append-nil text) ∙ whole ∙ ap (λ t. old ++ t) (separated-between (map v ys))
