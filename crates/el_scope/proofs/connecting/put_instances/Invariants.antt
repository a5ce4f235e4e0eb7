-- what is there with what is left is what was there with all
use Rattle.std.proofs.Common.{◌≡◌, ◌++◌, drop}
use Rattle.std.specs.Prelude.{flat_map}
use Rattle.el_scope.specs.Connecting.{conns_connections}
use Rattle.el_scope.specs.declared.connecting.Slot.TheVariants as slots
use Rattle.el_scope.proofs.connecting.put_instances.Given as goal

abbrev pub invariant-loop-instance : goal.invariant-loop-instance
invariant-loop-instance l = l.fn.into.items ++ flat_map (λ i. conns_connections l.table l.scope slots.Port l.interface i.conns) l.instances ≡ l.into.items ++ flat_map (λ i. conns_connections l.table l.scope slots.Port l.interface i.conns) (drop l.instance-index l.instances)
