use Rattle.std.proofs.Common.{rules}
use Rattle.lookups.proofs.Alone.{one_rises}
use Rattle.lookups.proofs.states.StateSet.one.Goals as goal

pub invariant_of-result : goal.invariant_of-result
invariant_of-result c = one_rises c.args.state c.push.new.self.items (search rules)
