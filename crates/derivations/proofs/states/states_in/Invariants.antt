use Rattle.std.proofs.Common.{◌≡◌, take}
use Rattle.derivations.specs.inner.Tables.{states_at}
use Rattle.vertices.specs.inner.RefViews.{state_ref_views}
use Rattle.derivations.proofs.states.states_in.Given as goal

abbrev pub invariant-numbers : goal.invariant-numbers
invariant-numbers l = state_ref_views l.states.items ≡ states_at l.tables (take l.number-index l.numbers)
