use Rattle.std.proofs.Common.{◌-◌, ◌++◌, not, replicate, ap}
use Rattle.std.proofs.Math.Numerals.{add-one}
use Rattle.numbering.proofs.space_tests.range_tests.Goals as goal

pub returns : goal.returns
returns c =
    let b = c.args.inside in
    ap (λ n. replicate n (not b)
    ++ (replicate (c.args.to - c.args.from) b ++ replicate (c.args.count - c.args.to) (not b)))
    (add-one c.args.from)
