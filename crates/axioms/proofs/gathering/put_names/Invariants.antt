use Rattle.std.proofs.Common.{◌≡◌, ◌||◌, ℕ, List, take}
use Rattle.std.specs.List.{list_any}
use Rattle.axioms.specs.inner.Gathered.{is_known_by}
use Rattle.axioms.specs.inner.Pairs.{has_pair}
use Rattle.axioms.proofs.gathering.put_names.Given as goal

-- what the candidates of the names so far have and ask for is there
abbrev pub invariant-names : goal.invariant-names
invariant-names l = (n f : List ℕ) → has_pair l.known n f
    ≡ (has_pair l.fn.known n f || list_any (λ name. is_known_by l.catalogue name n f) (take l.name-index l.names))
