use Rattle.manifest.specs.Manifests.{ManifestView}
use Rattle.catalogue.specs.Problems.{problem_in}
use Rattle.selection.specs.inner.Places.{AreFindings, content_in}
use Rattle.flaws.specs.inner.Flaws.{AreToldBelow}
use Rattle.flaws.proofs.judging.flawed_in.Given as goal

-- those so far are told
abbrev pub invariant-places : goal.invariant-places
invariant-places l = (m : ManifestView) → AreFindings (problem_in m l.catalogue) l.findings
    → AreToldBelow m l.catalogue (content_in l.findings) l.at l.found.items
