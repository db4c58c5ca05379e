use Rattle.std.proofs.Common.{◌≡◌, drop}
use Rattle.toml.specs.View.{items_view}
use Rattle.features.specs.EntryViews.{entry_views}
use Rattle.manifest.specs.Shapes.{entries_in}
use Rattle.model.proofs.Fronts.{with_front}
use Rattle.manifest.proofs.feature.entries.Given as goal

-- the entries so far and those of what is left are those of all
abbrev pub invariant-items : goal.invariant-items
invariant-items l = with_front (entry_views l.found.items) (entries_in (items_view (drop l.value-index l.items.items)))
    ≡ entries_in (items_view l.items.items)
