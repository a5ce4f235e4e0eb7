-- what is there with what is left is what was there with all
use Rattle.std.proofs.Common.{◌≡◌, ◌++◌, drop}
use Rattle.std.specs.Prelude.{flat_map}
use Rattle.vl_names.specs.Declarations.{item_declares}
use Rattle.vl_names.proofs.declare.put_items.Given as goal

abbrev pub invariant-loop-item : goal.invariant-loop-item
invariant-loop-item l = l.fn.into.items ++ flat_map (item_declares l.scope) l.items ≡ l.into.items ++ flat_map (item_declares l.scope) (drop l.item-index l.items)
