use Rattle.std.proofs.Common.{◌≡◌, ◌++◌, drop}
use Rattle.telling.specs.inner.Spans.{spans_from, spans_of}
use Rattle.telling.proofs.spans.runs_of.Given as goal

-- the runs so far, with those of the marks that are left, are all
abbrev pub invariant-marks : goal.invariant-marks
invariant-marks l = l.found.items ++ spans_from l.place l.run (drop l.place l.marks) ≡ spans_of l.marks
