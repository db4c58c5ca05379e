use Rattle.std.proofs.Common.{◌≡◌, ◌≤◌, length, reverse}
use Rattle.explainer.specs.Explanations.{needed}
use Rattle.explainer.proofs.Sweep.{sweep}
use Rattle.explainer.proofs.needed.needed.Given as goal

-- what is found, with what looking at the steps that are left finds, is what is needed
abbrev pub invariant-steps : goal.invariant-steps
invariant-steps l =
    record {
      within : l.left ≤ length l.derivation;
      long : length l.marks.items ≡ length l.derivation;
      told : sweep l.derivation l.left l.marks.items (reverse l.found.items) ≡ needed l.derivation;
    }

abbrev pub decreases-steps : goal.decreases-steps
decreases-steps l = l.left
