use Rattle.std.proofs.Common.{arith}
use Rattle.lockfile.proofs.Ranges.{wanted-alone}
use Rattle.lockfile.proofs.meaning.is_only_at.Goals as goal

pub returns : goal.returns
returns c = λ e. wanted-alone c.args.wanted c.args.packages.now c.args.place _ _ _ c.requires
    (omega (arith, c.if-place-packages.false)) (c.is_wanted_at-2.ensures, c.is_wanted_at.ensures)
    c.is_wanted_before.ensures e c.if-is_wanted_before.false c.if-is_wanted_at.false
