use Rattle.std.proofs.Common.{◌≡◌, ◌++◌, map, take}
use Rattle.xt_graph.specs.declared.finishing.Visit.TheVariants.{Enter}
use Rattle.xt_graph.proofs.finishing.enter_all.Given as goal

abbrev pub invariant-loop-node : goal.invariant-loop-node
invariant-loop-node l = l.todo.items ≡ l.initial.todo.items ++ map Enter (take l.node-index l.nodes)
