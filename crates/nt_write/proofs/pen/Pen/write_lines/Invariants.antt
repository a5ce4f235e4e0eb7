use Rattle.std.proofs.Common.{map, take}
use Rattle.nt_core.specs.Text.{write_line}
use Rattle.nt_write.specs.Lines.{lines}
use Rattle.nt_write.specs.Pen.{Takes}
use Rattle.nt_write.proofs.pen.Pen.write_lines.Given as goal

abbrev pub invariant-loop-write : goal.invariant-loop-write
invariant-loop-write g l = Takes g.S.Sink.written g.S.Sink.faults l.initial.self l.self (lines (map write_line (take l.write-index l.writes)))
