-- What steps have counted they have counted of a derivation too.
use Rattle.std.proofs.Common.{ℕ, ◌≤◌, List, inl, inr, arith}
use Rattle.incompatibilities.specs.inner.Counts.{combinations}
use Rattle.incompatibilities.specs.Stores.{EntryView}
use Rattle.model.specs.Derivation.{Step}
use Rattle.solver.specs.Refusing.{HasNoMore, combinations_of}
use Rattle.guiding.specs.inner.Counting.{HasCounted}

pub combined_counted : {es : List EntryView} {d : List Step} {steps : ℕ} → HasNoMore es d
    → HasCounted (combinations es) 0 steps → combinations_of d ≤ steps
combined_counted once counted = let few = once.few_combined in let short = once.short in elim counted [
  | inl all ↦ omega (arith, few, all)
  | inr full ↦ omega (arith, short, full)
]
