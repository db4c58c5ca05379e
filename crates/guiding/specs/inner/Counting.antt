-- How many steps a search took.
use Rattle.std.specs.Prelude.{ℕ, ◌+◌, ◌≤◌, ◌⊎◌, List}
use Rattle.incompatibilities.specs.Stores.{EntryView}
use Rattle.incompatibilities.specs.inner.Counts.{combinations}
use Rattle.propagation.specs.Promises.{most}
use Rattle.propagation.specs.Trails.{TrailView}

-- steps count some combinations but n, as far as 64 bits go
abbrev pub HasCounted : ℕ → ℕ → ℕ → Type 0
HasCounted some n steps = (some ≤ n + steps) ⊎ (most ≤ steps)

-- steps that had counted all combinations but n still have
abbrev pub CountsOn : List EntryView → ℕ → List EntryView → ℕ → Type 0
CountsOn es steps more after =
    (n : ℕ) → HasCounted (combinations es) n steps → HasCounted (combinations more) n after

-- there are at least as many steps as combinations that came, as far as 64 bits go, and as assignments
pub record IsCount (old new : List EntryView) (t : TrailView) (steps : ℕ) : Type 0 where
  pub combined : HasCounted (combinations new) (combinations old) steps
  pub assigned : t.assigned ≤ steps
