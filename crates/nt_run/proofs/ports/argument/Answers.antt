-- The host's argument is one of the ports.
use Rattle.std.proofs.Common.{arith}
use Rattle.nt_run.proofs.PortLemmas.{host_has}
use Rattle.nt_run.proofs.ports.argument.Goals as goal

pub overflow_add-i : goal.overflow_add-i
overflow_add-i c = omega (arith, host_has c.args.netlist.now c.args.host c.requires.host)
