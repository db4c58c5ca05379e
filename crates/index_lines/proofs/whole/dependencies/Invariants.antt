use Rattle.std.proofs.Common.{◌≡◌, length}
use Rattle.std.specs.Vec.Iter.{into_iter_items, into_iter_len}
use Rattle.features.specs.Views.{dependency_views}
use Rattle.index_lines.specs.Records.{dependencies_read}
use Rattle.index_lines.specs.Views.{required_views}
use Rattle.model.proofs.Fronts.{with_front}
use Rattle.index_lines.proofs.whole.dependencies.Given as goal

-- the dependencies so far and those of what is left are those of all
abbrev pub invariant-parts : goal.invariant-parts
invariant-parts l =
    record {
      can : (goal.iterator-parts).can_next l.part-iterator;
      finite : (goal.iterator-parts).is_finite l.part-iterator;
      counted : into_iter_len l.part-iterator ≡ length (into_iter_items l.part-iterator);
      told : with_front (dependency_views l.found.items)
          (dependencies_read (required_views (into_iter_items l.part-iterator)))
          ≡ dependencies_read (required_views l.fn.parts.items);
    }
