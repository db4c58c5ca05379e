use Rattle.std.proofs.Common.{◌≡◌, drop}
use Rattle.toml.specs.View.{items_view}
use Rattle.std.specs.Option.{ok_or}
use Rattle.toml.specs.Data.{Data, as_str}
use Rattle.lockfile.specs.Locks.{each_item}
use Rattle.lockfile.specs.declared.fault.LockFault.TheVariants.{LockShape}
use Rattle.features.specs.Views.{text_views}
use Rattle.model.proofs.Fronts.{with_front}
use Rattle.lockfile.proofs.table.texts.Given as goal

-- the texts so far and those of what is left are those of all
abbrev pub invariant-items : goal.invariant-items
invariant-items l = with_front (text_views l.found.items)
    (each_item (λ (d : Data). ok_or (as_str d) LockShape) (items_view (drop l.value-index l.values.items)))
    ≡ each_item (λ (d : Data). ok_or (as_str d) LockShape) (items_view l.values.items)
