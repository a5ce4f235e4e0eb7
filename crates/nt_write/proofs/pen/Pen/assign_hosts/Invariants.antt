use Rattle.std.proofs.Common.{◌≡◌, ℕ, List, ◌++◌, length, take}
use Rattle.std.specs.Prelude.{flat_map}
use Rattle.nt_core.specs.Text.{host_port_names}
use Rattle.nt_write.specs.Lines.{assigned}
use Rattle.nt_write.specs.Pen.{Takes}
use Rattle.nt_write.proofs.pen.Pen.assign_hosts.Given as goal

-- the nodes of the processes so far came before the rest
abbrev pub invariant-loop-host : goal.invariant-loop-host
invariant-loop-host g l = (done : List ℕ)
    × (done ++ l.rest ≡ l.drives)
    × (length done ≡ length (flat_map host_port_names (take l.host-index l.hosts)))
    × Takes g.S.Sink.written g.S.Sink.faults l.initial.self l.self (assigned (flat_map host_port_names (take l.host-index l.hosts)) done)
