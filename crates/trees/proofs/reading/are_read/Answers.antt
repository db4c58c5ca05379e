use Rattle.std.proofs.Common.{◌≡◌, not, Some, None, is_some, false, sym, ap, ◌∙◌, cond}
use Rattle.json.specs.Tape.{node_token}
use Rattle.serde_json.specs.Read.{number_of}
use Rattle.serde_json.specs.View.{number_view}
use Rattle.trees.proofs.TokenLemmas.{left_after}
use Rattle.trees.proofs.ReadLemmas.{is_some-map, opens, told-stops, told-ends}
use Rattle.trees.proofs.reading.are_read.Goals as goal

pub returns-then-is_none : goal.returns-then-is_none
returns-then-is_none c =
    let unkept : is_some (number_of c.in-Number.text.now) ≡ false =
    sym (ap is_some c.number_of.ensures) ∙ is_some-map number_view c.number_of.result ∙ c.is_none.ensures
    ∙ ap not c.if-is_none.true in
    told-stops c.args.depth c.nodes.left c.nodes.node-index c.args.nodes.now _ c.nodes.invariant.told c.nodes-test.true
    (ap (λ n. left_after c.nodes.left (node_token n)) c.in-Number.is
    ∙ ap (λ b. cond b (Some c.nodes.left) None) unkept)

pub returns-then-left-eq0 : goal.returns-then-left-eq0
returns-then-left-eq0 c =
    told-stops c.args.depth c.nodes.left c.nodes.node-index c.args.nodes.now _ c.nodes.invariant.told
    c.nodes-test.true (opens c.nodes.left _ c.if-left-eq0.true c.in-Object.is)

pub returns : goal.returns
returns c =
    told-ends c.args.depth c.nodes.left c.nodes.node-index c.args.nodes.now c.nodes.invariant.told c.nodes-test.false
