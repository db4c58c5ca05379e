-- What is kept by the names that dependencies are called by.
use Rattle.std.specs.Prelude.{◌≡◌, ◌&&◌, ℕ, Bool, List, [], ◌∷◌, Option, None, Some, min, option_map, if◌then◌else◌}
use Rattle.std.specs.Borrow.{Bor}
use Rattle.std.specs.HashMap.{HashMap, get_by}
use Rattle.std.specs.List.{find}
use Rattle.std.specs.Option.{option_or}
use Rattle.features.specs.EntryViews.{entry_view}
use Rattle.features.specs.declared.entry.Entry as code
use Rattle.model.specs.Content.{Problem}
use Rattle.model.specs.Summary.{Dependency, Entry, feature, dependency, dependency_feature, weak_feature, same_text}
use Rattle.model.specs.Causes.{enables, is_unmatched}
use Rattle.lookups.specs.inner.Needs.{place_from}

abbrev pub Names : Type 0 → Type 0 → Type 0
Names V S = HashMap (Bor (List ℕ)) V S

module _ {V S : Type 0} where
  -- what a map has at a name
  abbrev pub named : Names V S → List ℕ → Option V
  named m d = get_by (λ k. same_text d k.now) m

  -- the value is put at the name, where it had none
  abbrev pub PutsNew : Names V S → List ℕ → V → Names V S → Type 0
  PutsNew old d v new = (e : List ℕ) → named new e ≡ option_or (named old e) (if same_text d e then Some v else None)

-- ---- the first entry that enables a dependency of the name

module _ {S : Type 0} where
  abbrev pub entry_named : Names (Bor code.Entry) S → List ℕ → Option Entry
  entry_named m d = option_map (λ e. entry_view e.now) (named m d)

  abbrev pub AreFirst : List Entry → Names (Bor code.Entry) S → Type 0
  AreFirst es m = (d : List ℕ) → entry_named m d ≡ find (enables d) es

  -- one more entry is seen, before the rest
  abbrev pub PutsEntry : Names (Bor code.Entry) S → Entry → Names (Bor code.Entry) S → Type 0
  PutsEntry old e new = (d : List ℕ) (rest : Option Entry)
      → option_or (entry_named new d) rest ≡ option_or (entry_named old d) (if enables d e then Some e else rest)

-- ---- the number of the first dependency that is called so and that no candidate serves

unfoldable pub is_gone : Problem → List ℕ → Dependency → Bool
is_gone q d x = same_text x.name d && is_unmatched q x

module _ {S : Type 0} where
  abbrev pub AreGone : Problem → List Dependency → Names ℕ S → Type 0
  AreGone q ds m = (d : List ℕ) → named m d ≡ place_from (is_gone q d) 0 ds

  -- one more dependency is seen, before the rest
  abbrev pub PutsGone : Problem → Names ℕ S → ℕ → Dependency → Names ℕ S → Type 0
  PutsGone q old n x new = (d : List ℕ) (rest : Option ℕ)
      → option_or (named new d) rest ≡ option_or (named old d) (if is_gone q d x then Some n else rest)

-- the number of what an entry enables
abbrev pub number_enabled : (List ℕ → Option ℕ) → Entry → Option ℕ
number_enabled at (feature g) = None
number_enabled at (dependency d) = at d
number_enabled at (dependency_feature d g) = at d
number_enabled at (weak_feature d g) = None

abbrev pub lesser : Option ℕ → Option ℕ → Option ℕ
lesser None o = o
lesser (Some n) None = Some n
lesser (Some n) (Some m) = Some (min n m)

-- the least number of what entries enable
abbrev pub least_enabled : (List ℕ → Option ℕ) → List Entry → Option ℕ
least_enabled at [] = None
least_enabled at (e ∷ es) = lesser (number_enabled at e) (least_enabled at es)
