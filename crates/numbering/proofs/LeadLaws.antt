-- The features that a dependency asks for, as they are put one after another.
use Rattle.std.proofs.Common.{◌≡◌, ℕ, List, [], ◌∷◌, ◌++◌, map, Bool, true, false, cond, sym, ap, ◌∙◌}
use Rattle.std.specs.Prelude.{codes}
use Rattle.std.proofs.lemmas.List.{append_assoc, map-append, append-nil}
use Rattle.model.specs.Summary.{Dependency, asked_of_target}
use Rattle.model.specs.Causes.{Cause}

pub own_list : (f : List ℕ → Cause) (d : Dependency)
    → map f d.features ++ cond d.default_features (f (codes "default") ∷ []) [] ≡ map f (asked_of_target d)
own_list f d = by d.default_features
  where
    by : (b : Bool) → map f d.features ++ cond b (f (codes "default") ∷ []) []
        ≡ map f (cond b (d.features ++ codes "default" ∷ []) d.features)
    by true = sym (map-append f d.features (codes "default" ∷ []))
    by false = append-nil (map f d.features)

pub both_lists : (f : List ℕ → Cause) (fs gs : List (List ℕ)) (cs new last : List Cause) → new ≡ cs ++ map f fs
    → last ≡ new ++ map f gs → last ≡ cs ++ map f (fs ++ gs)
both_lists f fs gs cs new last a b =
    b ∙ ap (λ l. l ++ map f gs) a ∙ append_assoc cs (map f fs) (map f gs) ∙ ap (λ l. cs ++ l) (sym (map-append f fs gs))
