-- The dependencies of an owner with their numbers, and those of them that are called by a name.
use Rattle.std.specs.Prelude.{◌≡◌, ◌+◌, ◌++◌, ℕ, List, [], ◌∷◌, map, Vec, Option, None, Some}
use Rattle.std.specs.Borrow.{Bor}
use Rattle.std.specs.HashMap.{HashMap}
use Rattle.std.specs.List.{filter}
use Rattle.std.specs.declared.alloc.Global.{Global}
use Rattle.semver.specs.Parse.{Parts}
use Rattle.features.specs.Views.{dependency_view}
use Rattle.model.specs.Content.{Problem}
use Rattle.model.specs.Summary.{Dependency, Entry, feature, dependency, dependency_feature, weak_feature, same_text}
use Rattle.model.specs.Vertices.{owner_brings, version_of}
use Rattle.numbering.specs.inner.Lists.{listed_in}
use Rattle.numbering.specs.declared.called.Numbered.{Numbered}

abbrev pub numbered_view : Numbered → ℕ × Dependency
numbered_view n = (n.number, dependency_view n.dependency.now)

abbrev pub numbered_views : List Numbered → List (ℕ × Dependency)
numbered_views ns = map numbered_view ns

-- dependencies with their numbers; the first has the number n
abbrev pub numbered_from : ℕ → List Dependency → List (ℕ × Dependency)
numbered_from n [] = []
numbered_from n (d ∷ ds) = (n, d) ∷ numbered_from (n + 1) ds

abbrev pub called_so : List ℕ → List (ℕ × Dependency) → List (ℕ × Dependency)
called_so x ps = filter (λ p. same_text p.1.name x) ps

-- those of a slice that may not be there
abbrev pub those_views : Option (Bor (List Numbered)) → List (ℕ × Dependency)
those_views None = []
those_views (Some those) = numbered_views those.now

module _ {S : Type 0} where
  -- what a map has at a name
  abbrev pub called_in : HashMap (Bor (List ℕ)) (Vec Numbered Global) S → Bor (List ℕ) → List (ℕ × Dependency)
  called_in m x = numbered_views (listed_in m x)

  -- it has at each name those called so, in their order
  abbrev pub IsByName : HashMap (Bor (List ℕ)) (Vec Numbered Global) S → List (ℕ × Dependency) → Type 0
  IsByName m ps = (x : Bor (List ℕ)) → called_in m x ≡ called_so x.now ps

  -- one more behind those that it has
  abbrev pub PutsCalled : HashMap (Bor (List ℕ)) (Vec Numbered Global) S → Numbered
      → HashMap (Bor (List ℕ)) (Vec Numbered Global) S → Type 0
  PutsCalled old n new =
      (x : Bor (List ℕ)) → called_in new x ≡ called_in old x ++ called_so x.now (numbered_view n ∷ [])

-- these are those of a version
abbrev pub AreOfVersion : Problem → List ℕ → Parts → List Dependency → Type 0
AreOfVersion q name v ds = ds ≡ (owner_brings q (version_of name v)).dependencies

-- the name by which an entry calls dependencies
abbrev pub named_by : Entry → Option (List ℕ)
named_by (feature g) = None
named_by (dependency d) = Some d
named_by (dependency_feature d g) = Some d
named_by (weak_feature d g) = Some d
