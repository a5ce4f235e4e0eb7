use Rattle.std.proofs.Common.{◌≡◌, ℕ, ◌<◌, take, Some}
use Rattle.std.specs.Prelude.{slice_get}
use Rattle.nt_core.specs.declared.netlist.Node.{Node}
use Rattle.nt_core.specs.Forms.{widths, IsNode}
use Rattle.nt_core.proofs.conditions.all_follow.Given as goal

abbrev pub invariant-loop-i : goal.invariant-loop-i
invariant-loop-i l = (j : ℕ) (m : Node) → j < l.i → slice_get l.nodes j ≡ Some m → IsNode (take j (widths l.nodes)) m
