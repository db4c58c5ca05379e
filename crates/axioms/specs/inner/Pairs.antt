-- Which pairs of a name and a feature are among those that are kept, by their bytes.
use Rattle.std.specs.Prelude.{◌≡◌, ◌||◌, ℕ, List, [], Bool, Option, None, Some}
use Rattle.std.specs.Borrow.{Bor}
use Rattle.std.specs.BTreeSet.{BTreeSet}
use Rattle.features.specs.inner.Texts.{has_text}
use Rattle.features.specs.inner.TextMaps.{at_text}
use Rattle.axioms.specs.declared.pairs.Pairs.{Pairs}

abbrev pub keys_if : Option (BTreeSet (Bor (List ℕ))) → List (Bor (List ℕ))
keys_if None = []
keys_if (Some s) = s.keys

abbrev pub has_pair : Pairs → List ℕ → List ℕ → Bool
has_pair p n f = has_text (keys_if (at_text p.features.entries n)) f

-- the pairs are just those that pass the test
abbrev pub HasThose : Pairs → (List ℕ → List ℕ → Bool) → Type 0
HasThose p test = (n f : List ℕ) → has_pair p n f ≡ test n f

-- the pairs that pass the test came to the old ones
abbrev pub Adds : Pairs → Pairs → (List ℕ → List ℕ → Bool) → Type 0
Adds old new test = (n f : List ℕ) → has_pair new n f ≡ (has_pair old n f || test n f)
