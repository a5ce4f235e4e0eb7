-- what is there with what is left is what was there with all
use Rattle.std.proofs.Common.{◌≡◌, ◌+◌, ◌≤◌, drop}
use Rattle.ck_call.specs.inner.Weights.{capped, nodes_weight}
use Rattle.ck_call.proofs.weights.nodes_weight.Given as goal

abbrev pub invariant-loop-node : goal.invariant-loop-node
invariant-loop-node l = record {
  low : l.weight ≤ 20001;
  whole : capped (nodes_weight l.nodes) ≡ capped (l.weight + nodes_weight (drop l.node-index l.nodes));
}
