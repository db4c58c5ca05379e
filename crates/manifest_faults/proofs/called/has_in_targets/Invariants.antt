use Rattle.std.proofs.Common.{◌≡◌}
use Rattle.toml.specs.View.{members_view}
use Rattle.manifest_faults.specs.inner.Reasons.{has_in_targets}
use Rattle.manifest_faults.proofs.called.has_in_targets.Given as goal

-- what the targets that are left say is what all say
abbrev pub invariant-targets : goal.invariant-targets
invariant-targets l =
    record {
      can : (goal.iterator-targets).can_next l.value-iterator;
      finite : (goal.iterator-targets).is_finite l.value-iterator;
      told : has_in_targets l.fn.optional l.fn.name (members_view l.value-iterator)
          ≡ has_in_targets l.fn.optional l.fn.name (members_view l.fn.targets.entries);
    }
