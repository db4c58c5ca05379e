use Rattle.std.proofs.lemmas.Result.{err_from_is_err_and}
use Rattle.semver.specs.Identifiers.{parts_of}
use Rattle.lockfile.proofs.Meant.{source-fault, bare-place, source-place}
use Rattle.lockfile.proofs.meaning.place_with_source.Goals as goal

pub returns-in_default : goal.returns-in_default
returns-in_default c = bare-place c.args.packages.now c.args.name.now c.args.version_text.now c.args.end.now
    c.requires.name c.requires.version_text c.in_default.ensures

pub returns-in_err-version : goal.returns-in_err-version
returns-in_err-version c =
    let p = err_from_is_err_and c.from_residual.result c.from_residual.ensures.1 in
    rw (p.1, p.2) (source-fault c.args.packages.now c.args.name.now c.args.version_text.now c.args.end.now _
    c.requires.name c.requires.version_text c.in_err-version.ensures.value)

pub returns : goal.returns
returns c =
    source-place c.args.packages.now c.args.name.now (parts_of c.in_ok-version.version) c.in-Some.source.now
    c.args.version_text.now c.args.end.now _ _ c.requires.name c.requires.version_text c.in_ok-version.ensures.value
    c.in-Some.ensures c.only_place.ensures c.ok_or.ensures.value
