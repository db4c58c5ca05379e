-- Texts with commas between, one after another.
use Rattle.std.proofs.Common.{◌≡◌, ℕ, List, [], ◌∷◌, ◌++◌, map, Bool, true, false, refl, sym, ap, ◌∙◌, append_assoc}
use Rattle.std.proofs.Common.{append-nil, length, drop, ◌≤◌}
use Rattle.std.proofs.lemmas.List.{drop_all}
use Rattle.derivations.specs.Written.{comma_if, with_commas}

-- the texts of elements, each but the first after a comma
abbrev pub separated : {X : Type 0} → (X → List ℕ) → Bool → List X → List ℕ
separated f later [] = []
separated f later (x ∷ xs) = comma_if later ++ (f x ++ separated f true xs)

later-commas : {X : Type 0} (f : X → List ℕ) (x y : X) (ys : List X) → separated f false (y ∷ ys)
    ≡ with_commas (map f (y ∷ ys)) → f x ++ separated f true (y ∷ ys) ≡ f x ++ (44 ∷ with_commas (map f (y ∷ ys)))
later-commas f x y ys h = ap (λ t. f x ++ (44 ∷ t)) h

pub separated-commas : {X : Type 0} (f : X → List ℕ) (xs : List X) → separated f false xs ≡ with_commas (map f xs)
separated-commas f [] = refl
separated-commas f (x ∷ []) = append-nil (f x)
separated-commas f (x ∷ y ∷ ys) = later-commas f x y ys (separated-commas f (y ∷ ys))

-- all is written
pub all-written : {X Y : Type 0} (f : X → List ℕ) (v : Y → X) (text old : List ℕ) (later : Bool) (i : ℕ) (ys : List Y)
    → length ys ≤ i
    → text ++ separated f later (map v (drop i ys)) ≡ old ++ separated f false (map v ys)
    → text ≡ old ++ with_commas (map f (map v ys))
all-written f v text old later i ys past h =
    let whole = rw (drop_all i ys past) at h in
    sym (append-nil text) ∙ whole ∙ ap (λ t. old ++ t) (separated-commas f (map v ys))

-- four texts, each written behind what was there
pub in-turn : (old a b c d first second third fourth : List ℕ) → first ≡ old ++ a → second ≡ first ++ b
    → third ≡ second ++ c → fourth ≡ third ++ d → fourth ≡ old ++ (a ++ (b ++ (c ++ d)))
in-turn old a b c d first second third fourth p q r s =
    s ∙ ap (λ t. t ++ d) (r ∙ ap (λ t. t ++ c) (q ∙ ap (λ t. t ++ b) p))
    ∙ append_assoc ((old ++ a) ++ b) c d ∙ append_assoc (old ++ a) b (c ++ d) ∙ append_assoc old a (b ++ (c ++ d))
