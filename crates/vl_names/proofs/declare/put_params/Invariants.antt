-- what is there with what is left is what was there with all
use Rattle.std.proofs.Common.{◌≡◌, ◌++◌, drop}
use Rattle.vl_names.specs.Declarations.{params_item_declares}
use Rattle.vl_names.proofs.declare.put_params.Given as goal

abbrev pub invariant-loop-value : goal.invariant-loop-value
invariant-loop-value l = l.fn.into.items ++ params_item_declares l.scope l.word l.values ≡ l.into.items ++ params_item_declares l.scope l.word (drop l.value-index l.values)
