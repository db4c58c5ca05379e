use Rattle.std.proofs.Common.{◌≡◌, ◌||◌, ℕ, List, take}
use Rattle.features.specs.Views.{dependency_views}
use Rattle.axioms.specs.inner.Gathered.{some_asks_by}
use Rattle.axioms.specs.inner.Pairs.{has_pair}
use Rattle.axioms.proofs.gathering.put_dependencies.Given as goal

-- what the dependencies so far ask for is there
abbrev pub invariant-dependencies : goal.invariant-dependencies
invariant-dependencies l = (n f : List ℕ) → has_pair l.known n f ≡ (has_pair l.fn.known n f
    || some_asks_by (has_pair l.asked) (dependency_views (take l.dependency-index l.dependencies)) n f)
