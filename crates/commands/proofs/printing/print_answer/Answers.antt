use Rattle.std.proofs.Common.{Ok, map, string_bytes, subst}
use Rattle.commands.specs.Lines.{Puts, Tells, explained_of, skip_line, skips_of}
use Rattle.commands.proofs.Telling.{puts, tells-one, tells-then}
use Rattle.commands.proofs.printing.print_answer.Goals as goal

pub returns-in-Ok-clause-told : goal.returns-in-Ok-clause-told
returns-in-Ok-clause-told g c =
    let contents = g.E.Stream.contents in
    let fails = g.E.Stream.fails in
    let between = c.print_skips-told.new.err in
    let told = c.print_skips-told.result in
    let after = c.put-is_told.new.self in
    let is_told = c.put-is_told.result in
    let skipped = subst (λ skips. Tells contents fails c.args.err.now (map skip_line skips) told between)
    c.skips_of.ensures c.print_skips-told.ensures in
    let put = puts contents fails between c.as_bytes.result.now is_told after c.put-is_told.ensures.written
    c.put-is_told.ensures.failed in
    let explained = tells-one contents fails between (string_bytes c.in-Unsolvable.text) is_told after
    (subst (λ text. Puts contents fails between text is_told after) c.as_bytes.ensures.value put) in
    tells-then contents fails (map skip_line (skips_of c.args.answer.now))
    (explained_of c.args.answer.now (Ok 1)) c.args.err.now between after told is_told
    skipped (rw c.in-Unsolvable.is explained)
