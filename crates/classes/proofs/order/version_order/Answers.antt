use Rattle.std.proofs.Common.{sym, ap₂, ◌∙◌}
use Rattle.std.specs.Ordering.{ordering_then}
use Rattle.semver.specs.Identifiers.{parts_of}
use Rattle.model.specs.Order.{text_cmp}
use Rattle.classes.proofs.TextOrder.{version_cmp-build}
use Rattle.classes.proofs.order.version_order.Goals as goal

pub returns : goal.returns
returns c =
    let builds = c.cmp.ensures ∙ ap₂ text_cmp c.as_str.ensures c.as_str-2.ensures in
    c.then.ensures ∙ ap₂ ordering_then c.cmp_precedence.ensures builds
    ∙ sym (version_cmp-build (parts_of c.args.a.now) (parts_of c.args.b.now))
