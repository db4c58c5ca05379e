-- The tests of those outside of a range.
use Rattle.std.proofs.Common.{◌≡◌, ◌∙◌, ℕ, zero, suc, ◌-◌, Bool, true, false, not, List, [], ◌∷◌, ◌++◌, map, length}
use Rattle.std.proofs.Common.{replicate, refl, ap, ap₂}
use Rattle.std.proofs.lemmas.List.{map-append}
use Rattle.semver.specs.EvalViews.{matches_views}
use Rattle.semver.specs.Identifiers.{parts_of}
use Rattle.semver.specs.Parse.{Held}
use Rattle.semver.specs.declared.Version.{Version}
use Rattle.lookups.specs.inner.Matching.{is_left, tests_of_range}

all_not : (n : ℕ) (b : Bool) → map not (replicate n b) ≡ replicate n (not b)
all_not zero b = refl
all_not (suc n) b = ap (λ bs. not b ∷ bs) (all_not n b)

not_each : {X : Type 0} (p : X → Bool) (xs : List X) → map (λ x. not (p x)) xs ≡ map not (map p xs)
not_each p [] = refl
not_each p (x ∷ xs) = ap (λ bs. not (p x) ∷ bs) (not_each p xs)

-- those before a range, in it and after it, turned
pub outside : (i j k : ℕ) → map not (replicate i false ++ (replicate j true ++ replicate k false))
    ≡ replicate i true ++ (replicate j false ++ replicate k true)
outside i j k =
    map-append not (replicate i false) (replicate j true ++ replicate k false)
    ∙ ap₂ (λ a b. a ++ b) (all_not i false)
    (map-append not (replicate j true) (replicate k false)
    ∙ ap₂ (λ a b. a ++ b) (all_not j true) (all_not k false))

pub left_is : (cs : List Held) (vs : List Version) (i j : ℕ)
    → map (λ w. matches_views cs (parts_of w)) vs ≡ tests_of_range i j (length vs)
    → map (λ w. is_left cs (parts_of w)) vs
    ≡ replicate i true ++ (replicate (j - i) false ++ replicate (length vs - j) true)
unfolding is_left
left_is cs vs i j e =
    not_each (λ w. matches_views cs (parts_of w)) vs ∙ ap (map not) e ∙ outside i (j - i) (length vs - j)
