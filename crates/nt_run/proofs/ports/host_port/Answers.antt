-- The host's port is one of the ports.
use Rattle.std.proofs.Common.{arith}
use Rattle.nt_run.proofs.PortLemmas.{host_has}
use Rattle.nt_run.proofs.ports.host_port.Goals as goal

pub overflow_add-ports : goal.overflow_add-ports
overflow_add-ports c =
    omega (arith, c.requires.ports.each c.args.host c.requires.host, host_has c.args.netlist.now c.args.host c.requires.host)

pub port-requires-clause-place : goal.port-requires-clause-place
port-requires-clause-place c =
    omega (arith, c.requires.ports.each c.args.host c.requires.host, host_has c.args.netlist.now c.args.host c.requires.host)
