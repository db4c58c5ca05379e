use Rattle.commands.specs.Lines.{skip_line}
use Rattle.commands.proofs.Telling.{tells-more}
use Rattle.commands.proofs.printing.print_skips.Goals as goal

pub skips-preserved : goal.skips-preserved
skips-preserved g c =
    tells-more g.E.Stream.contents g.E.Stream.fails skip_line c.args.skips.now c.skips.skip-index c.skip-item.result
    c.args.err.now c.skips.err c.print_skip-told.new.err
    c.skips.told c.print_skip-told.result c.skips-test.true c.skip-item.is c.skips.invariant c.print_skip-told.ensures
