use Rattle.std.proofs.Common.{◌≡◌}
use Rattle.xt_graph.specs.inner.Finishing.{all_to_enter}
use Rattle.xt_graph.proofs.finishing.Walk.new.Given as goal

abbrev pub invariant-loop-node : goal.invariant-loop-node
invariant-loop-node l = l.todo.items ≡ all_to_enter l.node
