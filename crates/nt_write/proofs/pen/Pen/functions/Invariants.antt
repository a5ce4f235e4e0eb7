use Rattle.std.proofs.Common.{map, take}
use Rattle.nt_core.specs.Text.{function_line}
use Rattle.nt_write.specs.Lines.{lines}
use Rattle.nt_write.specs.Pen.{Takes}
use Rattle.nt_write.proofs.pen.Pen.functions.Given as goal

abbrev pub invariant-loop-function : goal.invariant-loop-function
invariant-loop-function g l = Takes g.S.Sink.written g.S.Sink.faults l.initial.self l.self (lines (map function_line (take l.function-index l.functions)))
