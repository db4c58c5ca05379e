use Rattle.std.proofs.Common.{◌-◌, length, map, option_map}
use Rattle.classes.specs.Classes.{rust_version_view}
use Rattle.features.specs.Views.{dependency_views}
use Rattle.index_reader.specs.Files.{skip_view}
use Rattle.catalogue.specs.Loads.{packages_of_old, most_names}
use Rattle.catalogue.proofs.SoFar.{SoFar}
use Rattle.catalogue.proofs.loading.ask_all.Given as goal

-- what was asked for so far gave these names, candidates and skips
abbrev pub invariant-names : goal.invariant-names
invariant-names g l =
    SoFar (packages_of_old l.run.old) l.run.source.now (option_map rust_version_view l.run.rust_version)
    (dependency_views l.dependencies) g.F.Folder.calls l.fn.folder l.names.keys l.candidates.items
    (map skip_view l.skips.items) l.folder

abbrev pub decreases-names : goal.decreases-names
decreases-names g l = most_names - length l.candidates.items
