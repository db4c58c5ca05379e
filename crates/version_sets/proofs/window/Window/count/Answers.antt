use Rattle.std.proofs.Common.{ap, arith}
use Rattle.version_sets.specs.inner.Words.{ones_in}
use Rattle.version_sets.proofs.Kept.{ones_parts}
use Rattle.version_sets.proofs.window.Window.count.Goals as goal

pub count_bits-requires : goal.count_bits-requires
count_bits-requires c = omega (arith, ones_parts c.args.self.now, ap ones_in c.deref.ensures.value)

pub overflow_add-result : goal.overflow_add-result
overflow_add-result c =
    record { fits = omega (arith, ones_parts c.args.self.now, ap ones_in c.deref.ensures.value) }

pub overflow_add-result-2 : goal.overflow_add-result-2
overflow_add-result-2 c =
    record { fits = omega (arith, ones_parts c.args.self.now, ap ones_in c.deref.ensures.value) }

pub returns : goal.returns
returns c = omega (arith, ones_parts c.args.self.now, ap ones_in c.deref.ensures.value)
