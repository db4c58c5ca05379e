use Rattle.std.proofs.lemmas.Result.{err_from_is_err_and}
use Rattle.semver.specs.Identifiers.{parts_of}
use Rattle.lockfile.proofs.Meant.{version-fault, version-there, version-place}
use Rattle.lockfile.proofs.meaning.place_with_version.Goals as goal

pub returns-in_err-version : goal.returns-in_err-version
returns-in_err-version c =
    let p = err_from_is_err_and c.from_residual.result c.from_residual.ensures.1 in
    rw (p.1, p.2) (version-fault c.args.packages.now c.args.name.now c.args.version_text.now _ c.requires.name
    c.requires.version_text c.in_err-version.ensures.value)

pub returns-in-Some : goal.returns-in-Some
returns-in-Some c =
    version-there c.args.packages.now c.args.name.now (parts_of c.in_ok-version.version) c.args.version_text.now _ _
    c.requires.name c.requires.version_text c.in_ok-version.ensures.value c.only_place.ensures c.in-Some.is

pub returns : goal.returns
returns c = version-place c.args.packages.now c.args.name.now
    (parts_of c.in_ok-version.version) c.args.version_text.now _ _ _ c.requires.name c.requires.version_text
    c.in_ok-version.ensures.value c.only_place.ensures c.in-None.is c.only_place-in-None.ensures c.ok_or.ensures.value
