-- What the entries of this crate stand for.
use Rattle.std.specs.Prelude.{List, map}
use Rattle.model.specs.Summary as model
use Rattle.features.specs.declared.entry.Entry.{Entry}
use Rattle.features.specs.declared.entry.Entry.TheVariants.{Feature, Dependency, DependencyFeature, WeakFeature}

abbrev pub entry_view : Entry → model.Entry
entry_view (Feature g) = model.feature g
entry_view (Dependency d) = model.dependency d
entry_view (DependencyFeature d g) = model.dependency_feature d g
entry_view (WeakFeature d g) = model.weak_feature d g

abbrev pub entry_views : List Entry → List model.Entry
entry_views es = map entry_view es
