use Rattle.std.proofs.Common.{◌≡◌}
use Rattle.toml.specs.View.{members_view}
use Rattle.manifest.specs.Dependencies.{targets_in}
use Rattle.manifest.specs.inner.ShapeViews.{dependency_views}
use Rattle.model.proofs.Fronts.{with_front}
use Rattle.manifest.proofs.section.targets.Given as goal

-- the dependencies so far and those of the targets that are left are those of all
abbrev pub invariant-members : goal.invariant-members
invariant-members l =
    record {
      can : (goal.iterator-members).can_next l.value-iterator;
      finite : (goal.iterator-members).is_finite l.value-iterator;
      told : with_front (dependency_views l.found.items) (targets_in (members_view l.value-iterator))
          ≡ targets_in (members_view l.fn.targets.entries);
    }
