use Rattle.std.proofs.Common.{sym, ap, ◌∙◌}
use Rattle.std.specs.List.{find}
use Rattle.model.specs.Causes.{enables}
use Rattle.vertices.specs.declared.vertex.OwnerRef.TheVariants.{Version}
use Rattle.lookups.specs.inner.Numbers.{AreFirstOf, Row}
use Rattle.lookups.specs.inner.NumbersViews.{problem_of}
use Rattle.lookups.proofs.Kept.{put_of_row}
use Rattle.lookups.proofs.first_enabling.first_enabling.Goals as goal

pub returns-in-Some-clause-entry : goal.returns-in-Some-clause-entry
returns-in-Some-clause-entry c =
    let row : Row = (Version c.args.name c.args.version, c.args.on) in
    c.first_named.ensures
    ∙ c.args.numbers.now.firsts_are row c.in-Some.firsts.now (sym c.in-Some.ensures.value) c.args.enabled.now

pub invariant_of-numbers-clause-firsts_are : goal.invariant_of-numbers-clause-firsts_are
invariant_of-numbers-clause-firsts_are c =
    let row : Row = (Version c.args.name c.args.version, c.args.on) in
    put_of_row (AreFirstOf (problem_of c.args.numbers.now)) c.args.numbers.now.firsts c.insert.new.self row
    c.in_ok-firsts.firsts c.insert.result c.insert.ensures.updates c.insert.ensures.err
    c.args.numbers.now.firsts_are
    (λ d. c.in_ok-firsts.ensures d ∙ ap (find (enables d)) c.entries_of-entries.ensures)
