use Rattle.std.proofs.Common.{◌≡◌, rules, ◌∙◌, option_map}
use Rattle.std.specs.Ordering.{ordering_then}
use Rattle.semver.specs.Identifiers.{parts_of}
use Rattle.model.specs.Order.{text_cmp, version_cmp, source_cmp}
use Rattle.lockfile.specs.inner.Views.{package_view}
use Rattle.lockfile.proofs.Ranges.{then-assoc}
use Rattle.lockfile.proofs.meaning.Wanted.compare.Goals as goal

pub returns-in-Source : goal.returns-in-Source
returns-in-Source c =
    let locked = package_view c.args.locked.now in
    let first = text_cmp locked.name c.in-Source.name.now in
    let second = version_cmp locked.version (parts_of c.in-Source.version.now) in
    let third = source_cmp locked.source (option_map (λ t. t.now) c.in-Source.source) in
    let whole : c.then.result ≡ ordering_then (ordering_then first second) third = search rules in
    rw c.in-Source.is (whole ∙ then-assoc first second third)
