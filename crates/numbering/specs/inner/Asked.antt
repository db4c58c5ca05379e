-- What the dependencies called so are asked for: pairs of such a name and a feature, and the features of one name.
use Rattle.std.specs.Prelude.{◌≡◌, ◌++◌, ℕ, List, [], ◌∷◌, map, Vec, Option, None, Some, if◌then◌else◌}
use Rattle.std.specs.Borrow.{Bor}
use Rattle.std.specs.HashMap.{HashMap}
use Rattle.std.specs.List.{flat_map}
use Rattle.std.specs.declared.alloc.Global.{Global}
use Rattle.model.specs.Summary.{same_text}
use Rattle.numbering.specs.inner.Lists.{listed_in}
use Rattle.numbering.specs.declared.asked.Wanted.{Wanted}

abbrev pub asked_so : List ℕ → List (List ℕ × List ℕ) → List (List ℕ)
asked_so x ps = flat_map (λ p. if same_text p.0 x then p.1 ∷ [] else []) ps

abbrev pub feature_of : Wanted → List ℕ
feature_of w = w.feature.now

abbrev pub features_of : List Wanted → List (List ℕ)
features_of ws = map feature_of ws

-- those of a slice that may not be there
abbrev pub those_asked : Option (Bor (List Wanted)) → List (List ℕ)
those_asked None = []
those_asked (Some those) = features_of those.now

module _ {S : Type 0} where
  -- what a map has at a name
  abbrev pub asked_in : HashMap (Bor (List ℕ)) (Vec Wanted Global) S → Bor (List ℕ) → List (List ℕ)
  asked_in m x = features_of (listed_in m x)

  -- it has at each name what those called so are asked for, in that order
  abbrev pub IsAsked : HashMap (Bor (List ℕ)) (Vec Wanted Global) S → List (List ℕ × List ℕ) → Type 0
  IsAsked m ps = (x : Bor (List ℕ)) → asked_in m x ≡ asked_so x.now ps

  -- this is asked for behind what it has
  abbrev pub Asks : HashMap (Bor (List ℕ)) (Vec Wanted Global) S → List (List ℕ × List ℕ)
      → HashMap (Bor (List ℕ)) (Vec Wanted Global) S → Type 0
  Asks old ps new = (x : Bor (List ℕ)) → asked_in new x ≡ asked_in old x ++ asked_so x.now ps
