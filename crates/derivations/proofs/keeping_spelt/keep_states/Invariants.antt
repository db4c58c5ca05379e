use Rattle.std.proofs.Common.{◌≡◌, take}
use Rattle.derivations.specs.inner.Tables.{IsGrown, AreStatesOf, states_at}
use Rattle.vertices.specs.inner.RefViews.{state_ref_views}
use Rattle.derivations.proofs.keeping_spelt.keep_states.Given as goal

-- the numbers so far stand for the states so far
abbrev pub invariant-states : goal.invariant-states
invariant-states l = IsGrown l.fn.tables l.tables × AreStatesOf l.tables l.kept.items
    × (states_at l.tables l.kept.items ≡ state_ref_views (take l.state-index l.states))
