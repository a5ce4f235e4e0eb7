use Rattle.std.proofs.Common.{map, take}
use Rattle.nt_core.specs.Text.{output_line}
use Rattle.nt_write.specs.Lines.{followings}
use Rattle.nt_write.specs.Pen.{Takes}
use Rattle.nt_write.proofs.pen.Pen.output_pins.Given as goal

abbrev pub invariant-loop-pin : goal.invariant-loop-pin
invariant-loop-pin g l = Takes g.S.Sink.written g.S.Sink.faults l.initial.self l.self (followings (map (λ o. output_line o.width o.name) (take l.pin-index l.pins)))
