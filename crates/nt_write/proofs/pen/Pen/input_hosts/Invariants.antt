use Rattle.std.proofs.Common.{take}
use Rattle.std.specs.Prelude.{flat_map}
use Rattle.nt_core.specs.Text.{host_input_lines}
use Rattle.nt_write.specs.Lines.{lines}
use Rattle.nt_write.specs.Pen.{Takes}
use Rattle.nt_write.proofs.pen.Pen.input_hosts.Given as goal

abbrev pub invariant-loop-host : goal.invariant-loop-host
invariant-loop-host g l = Takes g.S.Sink.written g.S.Sink.faults l.initial.self l.self (lines (flat_map host_input_lines (take l.host-index l.hosts)))
