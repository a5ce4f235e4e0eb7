use Rattle.std.proofs.Common.{take}
use Rattle.nt_core.specs.Text.{numbered, next_line}
use Rattle.nt_write.specs.Lines.{lines}
use Rattle.nt_write.specs.Pen.{Takes}
use Rattle.nt_write.proofs.pen.Pen.next_lines.Given as goal

abbrev pub invariant-loop-place : goal.invariant-loop-place
invariant-loop-place g l = Takes g.S.Sink.written g.S.Sink.faults l.initial.self l.self (lines (numbered next_line (take l.place l.nexts)))
