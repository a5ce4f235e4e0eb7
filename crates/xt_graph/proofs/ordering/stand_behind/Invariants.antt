use Rattle.std.proofs.Common.{◌≡◌, false, drop, length, replicate}
use Rattle.xt_graph.specs.inner.Ordering.{stand_behind}
use Rattle.xt_graph.proofs.ordering.stand_behind.Given as goal

abbrev pub invariant-loop-node : goal.invariant-loop-node
invariant-loop-node l = stand_behind l.graph l.marks.items (drop l.node-index l.nodes) ≡ stand_behind l.graph (replicate (length l.graph) false) l.nodes
