use Rattle.std.proofs.Common.{◌≡◌}
use Rattle.toml.specs.View.{members_view}
use Rattle.manifest.specs.Dependencies.{dependency_of}
use Rattle.manifest.specs.Values.{each_member}
use Rattle.manifest.specs.inner.ShapeViews.{dependency_views}
use Rattle.model.proofs.Fronts.{with_front}
use Rattle.manifest.proofs.dependency.dependencies_in.Given as goal

-- the dependencies so far and those of what is left are those of all
abbrev pub invariant-members : goal.invariant-members
invariant-members l =
    record {
      can : (goal.iterator-members).can_next l.key-iterator;
      finite : (goal.iterator-members).is_finite l.key-iterator;
      told : with_front (dependency_views l.found.items)
          (each_member (dependency_of l.part l.kind) (members_view l.key-iterator))
          ≡ each_member (dependency_of l.part l.kind) (members_view l.fn.table.entries);
    }
