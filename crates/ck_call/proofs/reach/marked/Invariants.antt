-- those below this node
use Rattle.std.proofs.Common.{◌≡◌}
use Rattle.ck_call.specs.inner.Placed.{marked_to}
use Rattle.ck_call.proofs.reach.marked.Given as goal

abbrev pub invariant-loop-node : goal.invariant-loop-node
invariant-loop-node l = l.all ≡ marked_to l.marks l.node
