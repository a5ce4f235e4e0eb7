use Rattle.std.proofs.Common.{◌≡◌, take, map}
use Rattle.nt_core.specs.NodeValue.{value_at}
use Rattle.nt_core.proofs.evaluation.values_at.Given as goal

abbrev pub invariant-loop-a : goal.invariant-loop-a
invariant-loop-a l = l.picked.items ≡ map (value_at l.values) (take l.a-index l.nodes)
