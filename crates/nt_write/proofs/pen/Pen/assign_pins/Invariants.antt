use Rattle.std.proofs.Common.{map, take}
use Rattle.nt_write.specs.Lines.{assigned}
use Rattle.nt_write.specs.Pen.{Takes}
use Rattle.nt_write.proofs.pen.Pen.assign_pins.Given as goal

abbrev pub invariant-loop-place : goal.invariant-loop-place
invariant-loop-place g l = Takes g.S.Sink.written g.S.Sink.faults l.initial.self l.self (assigned (map (λ o. o.name) (take l.place l.pins)) (take l.place l.drives))
