use Rattle.std.proofs.Common.{◌≡◌, drop}
use Rattle.toml.specs.View.{items_view}
use Rattle.manifest.specs.Dependencies.{feature_names}
use Rattle.model.proofs.Fronts.{with_front}
use Rattle.manifest.proofs.dependency.feature_names.Given as goal

-- the names so far and those of what is left are those of all
abbrev pub invariant-items : goal.invariant-items
invariant-items l = with_front l.found.items (feature_names l.part (items_view (drop l.value-index l.items.items)))
    ≡ feature_names l.part (items_view l.items.items)
