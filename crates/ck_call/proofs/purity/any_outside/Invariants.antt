-- none so far
use Rattle.std.proofs.Common.{◌≡◌, drop}
use Rattle.std.specs.List.{list_any}
use Rattle.ck_call.specs.inner.Breaks.{is_outside}
use Rattle.ck_call.proofs.purity.any_outside.Given as goal

abbrev pub invariant-loop-node : goal.invariant-loop-node
invariant-loop-node l = list_any (is_outside l.own l.functions) l.nodes ≡ list_any (is_outside l.own l.functions) (drop l.node-index l.nodes)
