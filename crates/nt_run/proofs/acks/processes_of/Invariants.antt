use Rattle.std.proofs.Common.{◌≡◌, take, map}
use Rattle.nt_run.proofs.acks.processes_of.Given as goal

abbrev pub invariant-loop-host : goal.invariant-loop-host
invariant-loop-host l = l.processes.items ≡ map (λ h. h.process) (take l.host-index l.host-items)
