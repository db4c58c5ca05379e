-- Lists of values by texts, as a map has them.
use Rattle.std.specs.Prelude.{◌≡◌, ◌++◌, ℕ, Bool, List, [], ◌∷◌, Vec, Option, None, Some, if◌then◌else◌}
use Rattle.std.specs.Borrow.{Bor}
use Rattle.std.specs.HashMap.{HashMap, get}
use Rattle.std.specs.declared.alloc.Global.{Global}
use Rattle.model.specs.Summary.{same_text}

abbrev pub same_name : Bor (List ℕ) → Bor (List ℕ) → Bool
same_name a b = same_text a.now b.now

module _ {T : Type 0} where
  abbrev pub if_some : Option (Vec T Global) → List T
  if_some None = []
  if_some (Some values) = values.items

module _ {T S : Type 0} where
  -- what a map has at a text
  abbrev pub listed_in : HashMap (Bor (List ℕ)) (Vec T Global) S → Bor (List ℕ) → List T
  listed_in m x = if_some (get same_name m x)

  -- one more behind those that it has at its text
  abbrev pub Puts : HashMap (Bor (List ℕ)) (Vec T Global) S → Bor (List ℕ) → T
      → HashMap (Bor (List ℕ)) (Vec T Global) S → Type 0
  Puts old text value new =
      (x : Bor (List ℕ)) → listed_in new x ≡ listed_in old x ++ (if same_text text.now x.now then value ∷ [] else [])
