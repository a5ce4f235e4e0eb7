-- what is there with what is left is what was there with all
use Rattle.std.proofs.Common.{◌≡◌, ◌++◌, drop}
use Rattle.std.specs.Prelude.{flat_map}
use Rattle.el_scope.specs.Connecting.{item_connections, module_connections}
use Rattle.el_scope.specs.inner.Maps.{at_token}
use Rattle.el_scope.proofs.connecting.put_module.Given as goal

abbrev pub invariant-loop-item : goal.invariant-loop-item
invariant-loop-item l = l.fn.into.items ++ module_connections l.table (at_token l.known.entries) l.«module» ≡ l.into.items ++ flat_map (item_connections l.table (at_token l.known.entries) l.«module».name) (drop l.item-index l.«module».items)
