use Rattle.std.proofs.Common.{rules}
use Rattle.catalogue.specs.Loads.{packages_of_old, rust_for, IsLoaded}
use Rattle.catalogue.proofs.LawsCatalogues.{problem-loaded}
use Rattle.catalogue.proofs.loading.load.Goals as goal

pub returns-clause-problem : goal.returns-clause-problem
returns-clause-problem g c =
    let manifest = c.args.manifest.now in
    let loads : IsLoaded (packages_of_old c.args.old) c.args.source.now
    (rust_for c.args.prefer manifest.rust_version) manifest.brings.dependencies g.F.Folder.calls c.args.folder.now
    c.in_ok-catalogue.catalogue c.ask_all.new.folder = search rules in
    problem-loaded (packages_of_old c.args.old) c.args.source.now (rust_for c.args.prefer manifest.rust_version)
    g.F.Folder.calls c.args.folder.now manifest c.in_ok-catalogue.catalogue c.ask_all.new.folder loads
