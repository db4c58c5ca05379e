use Rattle.std.proofs.Common.{◌≡◌, take}
use Rattle.vertices.specs.inner.RefViews.{state_ref_views}
use Rattle.derivations.specs.inner.Tables.{states_at}
use Rattle.derivations.proofs.earlier.are_states.Given as goal

-- the states so far are those of the numbers so far
abbrev pub invariant-numbers : goal.invariant-numbers
invariant-numbers l = states_at l.tables (take l.index l.numbers) ≡ state_ref_views (take l.index l.states)
