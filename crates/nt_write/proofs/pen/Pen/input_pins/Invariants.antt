use Rattle.std.proofs.Common.{map, take}
use Rattle.nt_core.specs.Text.{input_line}
use Rattle.nt_write.specs.Lines.{lines}
use Rattle.nt_write.specs.Pen.{Takes}
use Rattle.nt_write.proofs.pen.Pen.input_pins.Given as goal

abbrev pub invariant-loop-pin : goal.invariant-loop-pin
invariant-loop-pin g l = Takes g.S.Sink.written g.S.Sink.faults l.initial.self l.self (lines (map (λ i. input_line i.width i.name) (take l.pin-index l.pins)))
