-- none so far
use Rattle.std.proofs.Common.{◌≡◌, drop}
use Rattle.std.specs.List.{list_any}
use Rattle.ck_call.specs.inner.Placed.{is_import}
use Rattle.ck_call.proofs.places.calls_import.Given as goal

abbrev pub invariant-loop-node : goal.invariant-loop-node
invariant-loop-node l = list_any (is_import l.funcs) l.node-items ≡ list_any (is_import l.funcs) (drop l.node-index l.node-items)
