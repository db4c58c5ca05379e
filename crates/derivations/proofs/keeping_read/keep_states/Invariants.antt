use Rattle.std.proofs.Common.{◌≡◌, ◌++◌, length}
use Rattle.std.specs.Vec.Iter.{into_iter_items, into_iter_len}
use Rattle.derivations.specs.inner.Tables.{IsGrown, AreStatesOf, states_at}
use Rattle.vertices.specs.Views.{state_views}
use Rattle.derivations.proofs.keeping_read.keep_states.Given as goal

-- the numbers so far stand for the states before those that are left
abbrev pub invariant-states : goal.invariant-states
invariant-states l =
    record {
      can : (goal.iterator-states).can_next l.state-iterator;
      finite : (goal.iterator-states).is_finite l.state-iterator;
      counted : into_iter_len l.state-iterator ≡ length (into_iter_items l.state-iterator);
      grown : IsGrown l.fn.tables l.tables;
      within : AreStatesOf l.tables l.kept.items;
      told : states_at l.tables l.kept.items ++ state_views (into_iter_items l.state-iterator)
          ≡ state_views l.fn.states.items;
    }
