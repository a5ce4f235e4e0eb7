use Rattle.std.proofs.Common.{take}
use Rattle.std.specs.Prelude.{flat_map}
use Rattle.nt_write.specs.Lines.{followings, host_output_lines}
use Rattle.nt_write.specs.Pen.{Takes}
use Rattle.nt_write.proofs.pen.Pen.output_hosts.Given as goal

abbrev pub invariant-loop-host : goal.invariant-loop-host
invariant-loop-host g l = Takes g.S.Sink.written g.S.Sink.faults l.initial.self l.self (followings (flat_map host_output_lines (take l.host-index l.hosts)))
