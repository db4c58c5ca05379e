use Rattle.std.proofs.Common.{◌∙◌, option_map, sym}
use Rattle.model.proofs.Mapped.{any-map}
use Rattle.semver.specs.Identifiers.{parts_of}
use Rattle.lockfile.specs.inner.Views.{package_view}
use Rattle.changes.specs.inner.Ways.{is_meant}
use Rattle.changes.proofs.ways.has_meant.Goals as goal

pub returns : goal.returns
returns c = c.some_meant.ensures ∙ sym (any-map (is_meant c.args.name.now
    (option_map (λ v. parts_of v.now) c.args.version)) package_view c.args.packages.now)
