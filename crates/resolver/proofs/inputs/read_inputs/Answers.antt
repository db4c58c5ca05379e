use Rattle.std.proofs.Common.{Err}
use Rattle.std.proofs.lemmas.Result.{err_from_is_err_and}
use Rattle.resolver.proofs.Reading.{manifest_refused, lock_refused, index_refused, loads_with}
use Rattle.resolver.specs.Inputs.{request_view}
use Rattle.resolver.proofs.inputs.read_inputs.Goals as goal

pub returns-in_err-manifest : goal.returns-in_err-manifest
returns-in_err-manifest g c =
    let p = err_from_is_err_and c.from_residual.result c.from_residual.ensures.1 in
    rw (p.1, p.2) (manifest_refused g.F.Folder.calls g.F.Folder.failed
    (request_view c.args.request.now) c.args.folder.now c.in_err-manifest.field-0.0 c.in_err-manifest.ensures)

pub returns-in_err-old : goal.returns-in_err-old
returns-in_err-old g c =
    let p = err_from_is_err_and c.from_residual-in_err-old.result c.from_residual-in_err-old.ensures.1 in
    rw (p.1, p.2) (lock_refused g.F.Folder.calls g.F.Folder.failed (request_view c.args.request.now) c.args.folder.now
    c.in_ok-manifest.manifest c.in_err-old.field-0.0 c.in_ok-manifest.ensures c.in_err-old.ensures)

pub returns-in_err-catalogue : goal.returns-in_err-catalogue
returns-in_err-catalogue g c =
    let p = err_from_is_err_and c.from_residual-in_err-catalogue.result c.from_residual-in_err-catalogue.ensures.1 in
    rw (p.1, p.2) (index_refused g.F.Folder.calls g.F.Folder.failed
    (request_view c.args.request.now) c.args.folder.now c.in_ok-manifest.manifest c.in_ok-old.old
    c.in_err-catalogue.field-0.0 c.load.new.folder c.in_ok-manifest.ensures c.in_ok-old.ensures
    (loads_with g.F.Folder.calls g.F.Folder.failed
    (request_view c.args.request.now) c.args.folder.now c.in_ok-manifest.manifest c.as_ref.result c.in_ok-old.old
    (Err c.in_err-catalogue.field-0.0) c.load.new.folder c.as_ref.ensures.value c.in_err-catalogue.ensures.loads))
