-- the ports so far and those that are left give what all give
use Rattle.std.proofs.Common.{◌≡◌, drop}
use Rattle.xt_compile.specs.first.Tree.{no_ports, ports_from}
use Rattle.xt_compile.proofs.first.reader.ports.read_ports.Given as goal

abbrev pub invariant-loop-port : goal.invariant-loop-port
invariant-loop-port l = ports_from l.lexed.names l.lexed.places l.clock no_ports l.ports ≡ ports_from l.lexed.names l.lexed.places l.clock l.found (drop l.port-index l.ports)
