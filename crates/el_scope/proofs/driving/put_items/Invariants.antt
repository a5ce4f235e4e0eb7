-- what is there with what is left is what was there with all
use Rattle.std.proofs.Common.{◌≡◌, ◌++◌, drop}
use Rattle.std.specs.Prelude.{flat_map}
use Rattle.el_scope.specs.Driving.{item_drives}
use Rattle.el_scope.specs.inner.Maps.{at_token}
use Rattle.el_scope.proofs.driving.put_items.Given as goal

abbrev pub invariant-loop-item : goal.invariant-loop-item
invariant-loop-item l = l.fn.into.items ++ flat_map (item_drives l.table (at_token l.known.entries) l.scope) l.items ≡ l.into.items ++ flat_map (item_drives l.table (at_token l.known.entries) l.scope) (drop l.item-index l.items)
