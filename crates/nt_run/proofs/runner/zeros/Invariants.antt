use Rattle.std.proofs.Common.{◌≡◌, take}
use Rattle.nt_core.specs.Forms.{widths}
use Rattle.nt_core.specs.Fitting.{value_widths}
use Rattle.nt_run.proofs.runner.zeros.Given as goal

abbrev pub invariant-loop-node : goal.invariant-loop-node
invariant-loop-node l = value_widths l.zeros.items ≡ widths (take l.node-index l.nodes)
