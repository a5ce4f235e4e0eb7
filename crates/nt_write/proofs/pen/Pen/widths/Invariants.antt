use Rattle.std.proofs.Common.{take}
use Rattle.nt_core.specs.Text.{width_texts}
use Rattle.nt_write.specs.Pen.{Takes}
use Rattle.nt_write.proofs.pen.Pen.widths.Given as goal

abbrev pub invariant-loop-width : goal.invariant-loop-width
invariant-loop-width g l = Takes g.S.Sink.written g.S.Sink.faults l.initial.self l.self (width_texts (take l.width-index l.widths))
