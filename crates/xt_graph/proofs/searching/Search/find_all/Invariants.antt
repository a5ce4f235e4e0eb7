use Rattle.std.proofs.Common.{◌≡◌, drop}
use Rattle.xt_graph.specs.inner.Searching.{find_all}
use Rattle.xt_graph.proofs.searching.Search.find_all.Given as goal

abbrev pub invariant-loop-node : goal.invariant-loop-node
invariant-loop-node l = find_all l.self (drop l.node-index l.nodes) ≡ find_all l.initial.self l.nodes
