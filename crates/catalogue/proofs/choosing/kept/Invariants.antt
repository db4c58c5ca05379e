use Rattle.std.proofs.Common.{◌≡◌, ◌+◌, ◌≤◌, ◌++◌, length, option_map}
use Rattle.std.specs.Vec.Iter.{into_iter_items, into_iter_len}
use Rattle.classes.specs.Classes.{rust_version_view}
use Rattle.model.specs.Candidates.{is_locked}
use Rattle.catalogue.specs.Loads.{packages_of_old}
use Rattle.catalogue.specs.Stores.{ranked_view, AreRead}
use Rattle.catalogue.proofs.Chosen.{chosen}
use Rattle.catalogue.proofs.choosing.kept.Given as goal

-- those chosen so far and those among the records that are left are all that are chosen
abbrev pub invariant-records : goal.invariant-records
invariant-records l =
    record {
      can : (goal.iterator-records).can_next l.record-iterator;
      finite : (goal.iterator-records).is_finite l.record-iterator;
      counted : into_iter_len l.record-iterator ≡ length (into_iter_items l.record-iterator);
      beside : length l.versions.items ≡ length l.kept.items;
      read : AreRead l.versions.items;
      few : length l.kept.items + length (into_iter_items l.record-iterator) ≤ length l.fn.records.items;
      told : ranked_view l.versions.items l.kept.items
          ++ chosen (is_locked (packages_of_old l.run.old) l.run.source.now l.name)
          (option_map rust_version_view l.run.rust_version) (into_iter_items l.record-iterator)
          ≡ chosen (is_locked (packages_of_old l.run.old) l.run.source.now l.name)
          (option_map rust_version_view l.run.rust_version) l.fn.records.items;
    }
