use Rattle.std.proofs.Common.{take}
use Rattle.nt_core.specs.Text.{numbered, input_line, ret_name}
use Rattle.nt_write.specs.Lines.{lines}
use Rattle.nt_write.specs.Pen.{Takes}
use Rattle.nt_write.proofs.pen.Pen.input_rets.Given as goal

abbrev pub invariant-loop-item : goal.invariant-loop-item
invariant-loop-item g l = Takes g.S.Sink.written g.S.Sink.faults l.initial.self l.self (lines (numbered (λ i w. input_line w (ret_name l.process i)) (take l.item l.widths)))
