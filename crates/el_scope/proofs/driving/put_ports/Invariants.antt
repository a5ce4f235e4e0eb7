-- what is there with what is left is what was there with all
use Rattle.std.proofs.Common.{◌≡◌, ◌++◌, drop}
use Rattle.std.specs.Prelude.{flat_map}
use Rattle.el_scope.specs.Driving.{port_drives}
use Rattle.el_scope.proofs.driving.put_ports.Given as goal

abbrev pub invariant-loop-port : goal.invariant-loop-port
invariant-loop-port l = l.fn.into.items ++ flat_map port_drives l.ports ≡ l.into.items ++ flat_map port_drives (drop l.port-index l.ports)
