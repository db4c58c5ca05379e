use Rattle.std.proofs.Common.{◌≡◌, rules, ap, ◌∙◌}
use Rattle.derivations.specs.Files.{derivation_of_bytes}
use Rattle.derivations.specs.inner.Tables.{steps_at}
use Rattle.derivations.specs.Written.{lines_of}
use Rattle.derivations.proofs.WriteLaws.{written-reads}
use Rattle.derivations.proofs.writing.write.Goals as goal

pub returns-clause-text : goal.returns-clause-text
returns-clause-text c =
    let text : c.into_bytes.result.items
    ≡ lines_of (steps_at c.parts.result.0.now c.parts.result.1.now) = search rules in
    text ∙ ap lines_of c.parts.ensures.steps

pub returns-clause-reads : goal.returns-clause-reads
returns-clause-reads c few =
    let text : c.into_bytes.result.items
    ≡ lines_of (steps_at c.parts.result.0.now c.parts.result.1.now) = search rules in
    ap derivation_of_bytes (text ∙ ap lines_of c.parts.ensures.steps)
    ∙ written-reads c.args.derivation.now c.parts.ensures.derivation few
