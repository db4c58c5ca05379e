-- Sets of numbers below a universe, each as the list of its tests, with the operations of set theory on them (Dart
-- pub's `solver.md`, "Term": a term is a set of allowed versions).
use Rattle.std.specs.Prelude.{ℕ, ◌+◌, ◌-◌, Bool, true, false, not, ◌&&◌, ◌||◌, List, [], ◌∷◌, ◌++◌, map, replicate}
use Rattle.std.specs.Prelude.{slice_index_or, slice_set}
use Rattle.std.specs.List.{list_all, zip}

-- for each number below the universe, whether the set has it; the universe is the length
abbrev pub Members : Type 0
Members = List Bool

-- whether a set has a number
abbrev pub has : Members → ℕ → Bool
has s i = slice_index_or s i false

-- the sets with no number, with every number, with one number and with those from one number on and below another
abbrev pub none : ℕ → Members
none n = replicate n false

abbrev pub every : ℕ → Members
every n = replicate n true

abbrev pub only : ℕ → ℕ → Members
only n i = slice_set (none n) i true

abbrev pub between : ℕ → ℕ → ℕ → Members
between n from to = replicate from false ++ (replicate (to - from) true ++ replicate (n - to) false)

-- the numbers of both sets, of either, and those that a set lacks
abbrev pub meet : Members → Members → Members
meet xs ys = map (λ p. p.0 && p.1) (zip xs ys)

abbrev pub join : Members → Members → Members
join xs ys = map (λ p. p.0 || p.1) (zip xs ys)

abbrev pub rest : Members → Members
rest s = map not s

-- every number of the first set is in the second
abbrev pub inside : Members → Members → Bool
inside [] ys = true
inside (x ∷ xs) [] = not x && inside xs []
inside (x ∷ xs) (y ∷ ys) = (not x || y) && inside xs ys

-- some number is in both sets
abbrev pub meets : Members → Members → Bool
meets [] ys = false
meets (x ∷ xs) [] = false
meets (x ∷ xs) (y ∷ ys) = (x && y) || meets xs ys

-- how many numbers a set has
abbrev pub size : Members → ℕ
size [] = 0
size (true ∷ xs) = 1 + size xs
size (false ∷ xs) = size xs

-- the set has every number of its universe
abbrev pub is_full : Members → Bool
is_full s = list_all (λ b. b) s
