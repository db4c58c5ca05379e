use Rattle.std.proofs.Common.{◌∙◌}
use Rattle.lockfile.specs.inner.Views.{package_view, package_views}
use Rattle.lockfile.proofs.Alone.{are-read, holds-there, name-itself, own-name}
use Rattle.lockfile.proofs.written_package.has_own_name.Goals as goal

pub is_alone-requires-clause-wanted : goal.is_alone-requires-clause-wanted
is_alone-requires-clause-wanted c =
    holds-there c.name_of.result c.args.packages.now c.args.place c.args.locked.now c.requires.place
    (name-itself c.name_of.result (package_view c.args.locked.now) c.name_of.ensures)

pub returns : goal.returns
returns c = c.is_alone.ensures ∙ own-name c.name_of.result (package_view c.args.locked.now)
    (package_views c.args.packages.now) (are-read c.args.packages.now) c.name_of.ensures
