-- none so far
use Rattle.std.proofs.Common.{◌≡◌, drop}
use Rattle.ck_call.specs.inner.Assigned.{any_early}
use Rattle.ck_call.proofs.assigned.any_early.Given as goal

abbrev pub invariant-loop-node : goal.invariant-loop-node
invariant-loop-node l = any_early l.watched l.before l.nodes ≡ any_early l.watched l.before (drop l.node-index l.nodes)
