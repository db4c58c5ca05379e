use Rattle.std.proofs.Common.{sym, ◌∙◌}
use Rattle.vertices.specs.declared.vertex.OwnerRef.TheVariants.{Version}
use Rattle.lookups.specs.inner.Numbers.{Row}
use Rattle.axioms.proofs.listed.row_has.Goals as goal

pub returns-in-Some : goal.returns-in-Some
returns-in-Some c =
    let row : Row = (Version c.args.name c.args.version, c.args.on) in
    c.has_named.ensures
    ∙ c.args.gathered.now.rows_are row c.in-Some.entries.now (sym c.in-Some.ensures.value) c.args.entry.now
