use Rattle.resolver.proofs.Loaded.{loaded-catalogue, loaded-run}
use Rattle.resolver.proofs.returning.loaded_inputs_make_a_catalogue.Goals as goal

pub returns-clause-catalogue : goal.returns-clause-catalogue
returns-clause-catalogue g c = loaded-catalogue g.F.Folder.calls g.F.Folder.failed

pub returns-clause-run : goal.returns-clause-run
returns-clause-run g c = loaded-run g.F.Folder.calls g.F.Folder.failed
