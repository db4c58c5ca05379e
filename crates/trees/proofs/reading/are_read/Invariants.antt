use Rattle.std.proofs.Common.{◌≡◌, ◌+◌, ◌≤◌, drop, map}
use Rattle.json.specs.Tape.{node_token}
use Rattle.trees.proofs.TokenLemmas.{fit_within}
use Rattle.trees.proofs.reading.are_read.Given as goal

-- all fit just where those that are left do with what is left
abbrev pub invariant-nodes : goal.invariant-nodes
invariant-nodes l = record {
  few : l.left ≤ l.fn.depth + l.node-index;
  told : fit_within l.left (map node_token (drop l.node-index l.nodes))
      ≡ fit_within l.fn.depth (map node_token l.nodes);
}
