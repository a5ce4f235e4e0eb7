use Rattle.std.proofs.Common.{◌≡◌, [], drop, map, length, replicate}
use Rattle.xt_graph.specs.inner.Reversing.{turned}
use Rattle.xt_graph.proofs.graph.Graph.reversed.Given as goal

abbrev pub invariant-loop-node : goal.invariant-loop-node
invariant-loop-node l = turned l.node (map (λ r. r.items) l.sources.items) (drop l.node l.self) ≡ turned 0 (replicate (length l.self) []) l.self
