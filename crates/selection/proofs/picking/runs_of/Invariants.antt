use Rattle.selection.proofs.RunSearch.{RunsTo}
use Rattle.selection.proofs.picking.runs_of.Given as goal

-- the places so far are runs, the last of which isn't put to them yet
abbrev pub invariant-places : goal.invariant-places
invariant-places l = RunsTo l.order l.place-index l.runs.items l.run.items
