use Rattle.std.proofs.Common.{map, take}
use Rattle.commands.specs.Lines.{Tells, skip_line}
use Rattle.commands.proofs.printing.print_skips.Given as goal

-- those so far are told
abbrev pub invariant-skips : goal.invariant-skips
invariant-skips g l =
    Tells g.E.Stream.contents g.E.Stream.fails l.fn.err (map skip_line (take l.skip-index l.skips)) l.told l.err
