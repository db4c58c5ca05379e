use Rattle.std.proofs.Common.{◌≡◌, ◌+◌, ◌-◌, ◌∷◌, length, take, drop, ap, arith, take_all, length-drop}
use Rattle.std.specs.List.{slice_split}
use Rattle.std.proofs.lemmas.List.Splits.{length-slice_split}
use Rattle.trees.specs.Trees.{is_line_end}
use Rattle.index_reader.proofs.SplitLemmas.{split-at, split-none}
use Rattle.index_reader.proofs.file.line_ends.Goals as goal

pub ends-preserved : goal.ends-preserved
ends-preserved c =
    let rest = c.ends.rest.now in
    let end = c.in-Some.end in
    let found = c.in-Some.ensures in
    let cut : slice_split is_line_end rest ≡ take end rest ∷ slice_split is_line_end (drop (end + 1) rest)
    = split-at rest end found.0.high (λ i h. found.0.before i (omega arith) h) found.1 in
    let left : take (length rest - (end + 1)) (drop (end + 1) rest) ≡ drop (end + 1) rest =
    take_all (length rest - (end + 1)) (drop (end + 1) rest) (omega (arith, length-drop (end + 1) rest)) in
    rw left (record {
      few = omega (arith, length-drop (end + 1) rest, found.0.high, c.ends.invariant.few);
      told = omega (arith, ap length cut, c.ends.invariant.told);
    })

pub returns : goal.returns
returns c =
    let whole = ap length (split-none c.ends.rest.now (λ i h. c.in_default.ensures i (omega arith) h)) in
    omega (arith, whole, c.ends.invariant.told, length-slice_split is_line_end c.args.bytes.now)
