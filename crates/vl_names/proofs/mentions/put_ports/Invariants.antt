-- what is there with what is left is what was there with all
use Rattle.std.proofs.Common.{◌≡◌, ◌++◌, drop}
use Rattle.std.specs.Prelude.{flat_map}
use Rattle.vl_names.specs.Mentions.{port_names}
use Rattle.vl_names.proofs.mentions.put_ports.Given as goal

abbrev pub invariant-loop-port : goal.invariant-loop-port
invariant-loop-port l = l.fn.into.items ++ flat_map (port_names l.scope) l.ports ≡ l.into.items ++ flat_map (port_names l.scope) (drop l.port-index l.ports)
