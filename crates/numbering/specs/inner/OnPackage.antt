-- The dependencies of an owner with their numbers, and those of them that are on a package.
use Rattle.std.specs.Prelude.{◌≡◌, ◌++◌, ◌&&◌, ℕ, Bool, not, nat_eq, List, [], ◌∷◌, Vec}
use Rattle.std.specs.Borrow.{Bor}
use Rattle.std.specs.HashMap.{HashMap}
use Rattle.std.specs.List.{filter}
use Rattle.std.specs.declared.alloc.Global.{Global}
use Rattle.model.specs.Summary.{Dependency, same_text}
use Rattle.numbering.specs.inner.Called.{numbered_view, numbered_views}
use Rattle.numbering.specs.inner.Lists.{listed_in}
use Rattle.numbering.specs.declared.called.Numbered.{Numbered}

abbrev pub on_package : List ℕ → List (ℕ × Dependency) → List (ℕ × Dependency)
on_package x ps = filter (λ p. same_text p.1.real_name x) ps

-- the dependency j is another one than i, on the same package
abbrev pub is_other : ℕ → List ℕ → ℕ → Dependency → Bool
is_other i name j e = not (nat_eq i j) && same_text name e.real_name

module _ {S : Type 0} where
  -- what a map has at the name of a package
  abbrev pub on_in : HashMap (Bor (List ℕ)) (Vec Numbered Global) S → Bor (List ℕ) → List (ℕ × Dependency)
  on_in m x = numbered_views (listed_in m x)

  -- it has at each name those on the package, in their order
  abbrev pub IsByPackage : HashMap (Bor (List ℕ)) (Vec Numbered Global) S → List (ℕ × Dependency) → Type 0
  IsByPackage m ps = (x : Bor (List ℕ)) → on_in m x ≡ on_package x.now ps

  -- one more behind those that it has
  abbrev pub PutsOn : HashMap (Bor (List ℕ)) (Vec Numbered Global) S → Numbered
      → HashMap (Bor (List ℕ)) (Vec Numbered Global) S → Type 0
  PutsOn old n new = (x : Bor (List ℕ)) → on_in new x ≡ on_in old x ++ on_package x.now (numbered_view n ∷ [])
