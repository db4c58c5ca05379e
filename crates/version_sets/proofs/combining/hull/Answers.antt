use Rattle.std.proofs.Common.{◌+◌, ◌≤◌, arith, length, subst, sym}
use Rattle.version_sets.specs.inner.Windows.{words_for}
use Rattle.version_sets.proofs.Kept.{kept_flanked}
use Rattle.version_sets.proofs.combining.hull.Goals as goal

pub returns-then-is_even : goal.returns-then-is_even
returns-then-is_even c = record {
  rising = omega arith;
  within = subst (λ n. c.end.result ≤ words_for n) (sym c.requires) (omega (arith, c.args.b.now.ends));
  first = c.is_even.ensures c.if-is_even.true c.args.b.now.first c.end.result;
  second = kept_flanked c.args.b.now c.args.b.now.first c.end.result (omega arith) (omega arith);
}

pub returns-then-is_even-2 : goal.returns-then-is_even-2
returns-then-is_even-2 c = record {
  rising = omega arith;
  within = omega (arith, c.args.a.now.ends);
  first = kept_flanked c.args.a.now c.args.a.now.first c.end-then-is_even-2.result (omega arith) (omega arith);
  second = c.is_even-2.ensures c.if-is_even-2.true c.args.a.now.first c.end-then-is_even-2.result;
}

pub returns : goal.returns
returns c = record {
  rising = omega arith;
  within = (let b_ends = subst (λ n. c.args.b.now.first + length c.args.b.now.words.items ≤ words_for n)
      (sym c.requires) c.args.b.now.ends in omega (arith, c.args.a.now.ends, b_ends));
  first = kept_flanked c.args.a.now c.min.result c.max.result (omega arith) (omega arith);
  second = kept_flanked c.args.b.now c.min.result c.max.result (omega arith) (omega arith);
}
