use Rattle.std.proofs.Common.{◌∙◌}
use Rattle.lockfile.specs.inner.Views.{package_view, package_views}
use Rattle.lockfile.proofs.Alone.{are-read, holds-there, version-itself, own-version}
use Rattle.lockfile.proofs.written_package.has_own_version.Goals as goal

pub is_alone-requires-clause-wanted : goal.is_alone-requires-clause-wanted
is_alone-requires-clause-wanted c =
    holds-there c.version_of.result c.args.packages.now c.args.place c.args.locked.now c.requires.place
    (version-itself c.version_of.result (package_view c.args.locked.now) c.version_of.ensures)

pub returns : goal.returns
returns c =
    let locked = c.args.locked.now in
    c.is_alone.ensures ∙ own-version c.version_of.result (package_view locked) (package_views c.args.packages.now)
    (locked.named, locked.version_reads) (are-read c.args.packages.now) c.version_of.ensures
