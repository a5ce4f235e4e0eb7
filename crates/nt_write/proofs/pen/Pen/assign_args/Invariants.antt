use Rattle.std.proofs.Common.{take}
use Rattle.nt_core.specs.Text.{numbered, assign_line, arg_name}
use Rattle.nt_write.specs.Lines.{lines}
use Rattle.nt_write.specs.Pen.{Takes}
use Rattle.nt_write.proofs.pen.Pen.assign_args.Given as goal

abbrev pub invariant-loop-place : goal.invariant-loop-place
invariant-loop-place g l = Takes g.S.Sink.written g.S.Sink.faults l.initial.self l.self (lines (numbered (λ i n. assign_line (arg_name l.process i) n) (take l.place l.drives)))
