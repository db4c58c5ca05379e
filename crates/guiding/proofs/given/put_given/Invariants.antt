use Rattle.std.proofs.Common.{◌≡◌}
use Rattle.std.specs.Vec.Iter.{into_iter_items}
use Rattle.incompatibilities.specs.Stores.{entries_view}
use Rattle.numbering.specs.GivenViews.{given_views}
use Rattle.guiding.specs.inner.Guides.{with_given}
use Rattle.guiding.proofs.given.put_given.Given as goal

-- the store so far with the instances that are left is the store with all of them
abbrev pub invariant-given : goal.invariant-given
invariant-given g l = let tests = g.S.States.tests in record {
  can : (goal.iterator-given g).can_next l.kind-iterator;
  finite : (goal.iterator-given g).is_finite l.kind-iterator;
  told : with_given (entries_view tests l.store) (given_views tests (into_iter_items l.kind-iterator))
      ≡ with_given (entries_view tests l.fn.store) (given_views tests l.fn.given.items);
}
