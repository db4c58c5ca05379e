use Rattle.std.proofs.Common.{◌≡◌, drop}
use Rattle.index_lines.specs.Records.{feature_names}
use Rattle.features.specs.Views.{text_views}
use Rattle.model.proofs.Fronts.{with_front}
use Rattle.index_lines.proofs.required.feature_names.Given as goal

-- the names so far and those of what is left are those of all
abbrev pub invariant-texts : goal.invariant-texts
invariant-texts l = with_front l.found.items (feature_names (text_views (drop l.text-index l.texts)))
    ≡ feature_names (text_views l.texts)
