-- How many combinations and axioms the entries of a store stand for.
use Rattle.std.specs.Prelude.{ℕ, ◌+◌, List, [], ◌∷◌, length}
use Rattle.incompatibilities.specs.Stores.{EntryView}
use Rattle.incompatibilities.specs.declared.origin.Origin.{Origin}
use Rattle.incompatibilities.specs.declared.origin.Origin.TheVariants.{Axiom, Learned}

abbrev pub links_in : Origin → ℕ
links_in (Axiom kind) = 0
links_in (Learned chain) = length chain.links

-- how many combinations the chains of a store have
abbrev pub combinations : List EntryView → ℕ
combinations [] = 0
combinations (e ∷ es) = links_in e.origin + combinations es

abbrev pub given_in : Origin → ℕ
given_in (Axiom kind) = 1
given_in (Learned chain) = 0

-- how many entries of a store are axioms
abbrev pub axioms : List EntryView → ℕ
axioms [] = 0
axioms (e ∷ es) = given_in e.origin + axioms es
