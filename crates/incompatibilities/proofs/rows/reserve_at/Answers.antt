use Rattle.std.proofs.Common.{◌<◌, length, rules}
use Rattle.incompatibilities.proofs.RowLemmas.{grown_push, grown_set, grown_still}
use Rattle.incompatibilities.proofs.rows.reserve_at.Goals as goal

pub shorter-preserved : goal.shorter-preserved
shorter-preserved g c = grown_push c.args.rows.now.items c.shorter.rows.items c.push.new.self.items c.new.result
    c.shorter.invariant c.new.ensures.items c.in_ok-push.ensures.items

pub returns-in_err-push-clause-grown : goal.returns-in_err-push-clause-grown
returns-in_err-push-clause-grown g c = grown_still c.args.rows.now.items c.shorter.rows.items c.push.new.self.items
    c.shorter.invariant c.in_err-push.ensures.items

pub returns-clause-grown : goal.returns-clause-grown
returns-clause-grown g c = grown_set c.args.rows.now.items c.shorter.rows.items c.args.vertex c.index_mut.result.now
    c.reserve.new.self c.shorter.invariant (let within : c.args.vertex < length c.shorter.rows.items = search rules in
    within) c.index_mut.ensures.value c.reserve.ensures.items c.reserve.ensures.len c.reserve.ensures.capacity
