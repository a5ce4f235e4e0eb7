-- none so far
use Rattle.std.proofs.Common.{◌≡◌, drop}
use Rattle.std.specs.List.{list_any}
use Rattle.el_design.specs.View.{flat_of}
use Rattle.ck_call.specs.inner.Breaks.{node_misfits}
use Rattle.ck_call.proofs.arguments.any_misfits.Given as goal

abbrev pub invariant-loop-node : goal.invariant-loop-node
invariant-loop-node l = list_any (node_misfits (flat_of l.design)) l.nodes ≡ list_any (node_misfits (flat_of l.design)) (drop l.node-index l.nodes)
