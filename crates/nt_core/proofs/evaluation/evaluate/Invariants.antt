use Rattle.std.proofs.Common.{◌≡◌, take}
use Rattle.nt_core.specs.NodeValue.{values}
use Rattle.nt_core.proofs.evaluation.evaluate.Given as goal

abbrev pub invariant-loop-node : goal.invariant-loop-node
invariant-loop-node l = l.values.items ≡ values (take l.node-index l.node-items) (record { inputs = l.inputs; state = l.state })
