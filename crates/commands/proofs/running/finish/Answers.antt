use Rattle.commands.specs.Lines.{line_of}
use Rattle.commands.specs.Endings.{ending_text, ending_view}
use Rattle.commands.proofs.Telling.{puts, tells-one}
use Rattle.commands.proofs.running.finish.Goals as goal

pub returns-in-Err-clause-told : goal.returns-in-Err-clause-told
returns-in-Err-clause-told g c =
    let contents = g.E.Stream.contents in
    let fails = g.E.Stream.fails in
    let text = line_of (ending_text (ending_view c.in-Err.ending)) in
    let put = puts contents fails c.args.err.now text c.put_line.result c.put_line.new.self c.put_line.ensures.written
    c.put_line.ensures.failed in
    rw c.in-Err.is (tells-one contents fails c.args.err.now text c.put_line.result c.put_line.new.self put)
