use Rattle.std.proofs.Common.{◌≡◌, take, false}
use Rattle.std.specs.List.{enumerate_from, list_any}
use Rattle.nt_core.specs.Ports.{request_up}
use Rattle.nt_run.proofs.ports.has_request.Given as goal

abbrev pub invariant-loop-host : goal.invariant-loop-host
invariant-loop-host l = list_any (λ h. request_up l.netlist l.values h.0) (take l.host (enumerate_from 0 l.netlist.hosts)) ≡ false
