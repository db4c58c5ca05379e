use Rattle.std.proofs.Common.{◌≡◌, length}
use Rattle.std.specs.Vec.Iter.{into_iter_items, into_iter_len}
use Rattle.incompatibilities.proofs.RowLemmas.{IsEntering}
use Rattle.incompatibilities.proofs.rows.push_rows.Given as goal

abbrev pub invariant-terms : goal.invariant-terms
invariant-terms g l =
    record {
      can : (goal.iterator-terms g).can_next l.term-iterator;
      finite : (goal.iterator-terms g).is_finite l.term-iterator;
      counted : into_iter_len l.term-iterator ≡ length (into_iter_items l.term-iterator);
      ids : IsEntering (λ t. l.id) l.fn.ids.items l.ids.items l.fn.terms.items (into_iter_items l.term-iterator);
      sets : IsEntering (λ t. t.states) l.fn.sets.items l.sets.items l.fn.terms.items
          (into_iter_items l.term-iterator);
    }
