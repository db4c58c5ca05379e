-- A loop over a list that puts something for each element behind what was there.
use Rattle.std.proofs.Common.{◌≡◌, ℕ, ◌<◌, ◌+◌, List, [], ◌∷◌, ◌++◌, map, length, take, get_or, sym, ap, ◌∙◌}
use Rattle.std.specs.List.{flat_map}
use Rattle.std.proofs.lemmas.List.{take_more, flat_map_more, map-append}

-- one more element, as it is seen
pub views_more : {X Y : Type 0} (v : X → Y) (xs : List X) (i : ℕ) (x : X) → i < length xs → x ≡ get_or xs i x
    → map v (take (i + 1) xs) ≡ map v (take i xs) ++ v x ∷ []
views_more v xs i x lt is = ap (map v) (take_more xs i x lt) ∙ map-append v (take i xs) (get_or xs i x ∷ [])
    ∙ ap (λ y. map v (take i xs) ++ v y ∷ []) (sym is)

pub loop_more : {X Y Z : Type 0} (v : X → Y) (f : Y → List Z) (old mid new : List Z) (xs : List X) (i : ℕ) (x : X)
    → i < length xs → x ≡ get_or xs i x
    → mid ≡ old ++ flat_map f (map v (take i xs)) → new ≡ mid ++ f (v x)
    → new ≡ old ++ flat_map f (map v (take (i + 1) xs))
loop_more v f old mid new xs i x lt is before step =
    step ∙ ap (λ m. m ++ f (v x)) before ∙ flat_map_more f old (map v (take i xs)) (v x)
    ∙ ap (λ ys. old ++ flat_map f ys) (sym (views_more v xs i x lt is))
