use Rattle.std.proofs.Common.{◌<◌, ℕ}
use Rattle.model.specs.Content.{Problem}
use Rattle.model.specs.Verdict.{IsFaultless}
use Rattle.selection.specs.inner.Places.{content_in, AreFindings}
use Rattle.selection.proofs.verifying.verdict_by.Given as goal

-- the packages so far are faultless
abbrev pub invariant-places : goal.invariant-places
invariant-places l =
    (q : Problem) → AreFindings q l.findings → (m : ℕ) → m < l.at → IsFaultless q (content_in l.findings) m
