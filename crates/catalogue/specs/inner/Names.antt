-- The names that a run asks for: each once, in the order in which they came, and where each stands among them.
use Rattle.std.specs.Prelude.{◌≡◌, ℕ, Bool, if◌then◌else◌, List, [], ◌∷◌, ◌++◌, fold}
use Rattle.std.specs.HashMap.{HashMap, get}
use Rattle.std.specs.List.{All, IsDistinct, list_any, position}
use Rattle.model.specs.Summary.{same_text}
use Rattle.features.specs.inner.Valid.{IsPackageName}

pub record NamesView : Type 0 where
  pub keys : List (List ℕ)

module _ {T : Type 0} (eq : T → T → Bool) where
  -- the keys after one is put: they stay if one of them is equal to k, and else k goes last
  abbrev pub insert_key : List T → T → List T
  insert_key ks k = if list_any (eq k) ks then ks else ks ++ k ∷ []

  -- the keys after each of xs is put in turn
  abbrev pub insert_all : List T → List T → List T
  insert_all ks xs = fold insert_key ks xs

-- each is a name and stands there once, and the map has the place of each and of no other
pub record ArePlaces {S : Type 0} (names : List (List ℕ)) (places : HashMap (List ℕ) ℕ S) : Type 0 where
  pub valid : All IsPackageName names
  pub once : IsDistinct same_text names
  pub found : (name : List ℕ) → get same_text places name ≡ position (same_text name) names
