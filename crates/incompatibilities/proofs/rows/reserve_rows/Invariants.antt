use Rattle.std.proofs.Common.{drop, map}
use Rattle.incompatibilities.proofs.RowLemmas.{IsReserving}
use Rattle.incompatibilities.proofs.rows.reserve_rows.Given as goal

abbrev pub invariant-terms : goal.invariant-terms
invariant-terms g l = IsReserving l.fn.rows.items l.rows.items (map (λ t. t.vertex) l.terms)
    (map (λ t. t.vertex) (drop l.term-index l.terms))
