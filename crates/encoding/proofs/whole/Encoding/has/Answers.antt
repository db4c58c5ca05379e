use Rattle.std.proofs.Common.{◌<◌, ◌≤◌, subst}
use Rattle.encoding.proofs.Pairing.{no_size, one_size}
use Rattle.encoding.proofs.whole.Encoding.has.Goals as goal

pub returns-then-vertex-len : goal.returns-then-vertex-len
returns-then-vertex-len c =
    let e = c.args.self.now in
    one_size e.problem e.vertices c.args.vertex c.args.state c.space.result
    (subst (λ k. c.args.vertex < k) c.len.ensures c.if-vertex-len.true) c.space.ensures

pub returns-else-vertex-len : goal.returns-else-vertex-len
returns-else-vertex-len c =
    let e = c.args.self.now in
    no_size e.problem e.vertices c.args.vertex c.args.state
    (subst (λ k. k ≤ c.args.vertex) c.len.ensures c.if-vertex-len.false)
