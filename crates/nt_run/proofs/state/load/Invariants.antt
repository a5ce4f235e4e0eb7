use Rattle.std.proofs.Common.{◌≡◌, take, map}
use Rattle.nt_core.specs.NodeValue.{value_at}
use Rattle.nt_run.proofs.state.load.Given as goal

abbrev pub invariant-loop-i : goal.invariant-loop-i
invariant-loop-i l = take l.i l.registers ≡ map (value_at l.values) (take l.i l.nexts)
