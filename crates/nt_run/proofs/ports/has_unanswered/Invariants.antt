use Rattle.std.proofs.Common.{◌≡◌, take, false, not, ◌&&◌}
use Rattle.std.specs.Prelude.{is_some}
use Rattle.std.specs.List.{enumerate_from, list_any}
use Rattle.nt_core.specs.Ports.{request_up}
use Rattle.nt_run.specs.Acknowledged.{reply_to}
use Rattle.nt_run.proofs.ports.has_unanswered.Given as goal

abbrev pub invariant-loop-i : goal.invariant-loop-i
invariant-loop-i l =
    list_any (λ h. request_up l.netlist l.values h.0 && not (is_some (reply_to l.acks h.1.process))) (take l.i (enumerate_from 0 l.netlist.hosts)) ≡ false
