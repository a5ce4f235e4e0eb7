-- what is there with what is left is all
use Rattle.std.proofs.Common.{◌≡◌, ◌++◌, drop}
use Rattle.std.specs.Prelude.{flat_map}
use Rattle.ck_call.specs.inner.Routines.{node_targets}
use Rattle.ck_call.proofs.routines.put_all_called.Given as goal

abbrev pub invariant-loop-node : goal.invariant-loop-node
invariant-loop-node l = l.fn.into ++ flat_map (node_targets l.counts.tasks l.counts.funcs) l.nodes ≡ l.into ++ flat_map (node_targets l.counts.tasks l.counts.funcs) (drop l.node-index l.nodes)
