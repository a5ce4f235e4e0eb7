use Rattle.std.proofs.Common.{take}
use Rattle.nt_core.specs.Text.{numbered, output_line, arg_name}
use Rattle.nt_write.specs.Lines.{followings}
use Rattle.nt_write.specs.Pen.{Takes}
use Rattle.nt_write.proofs.pen.Pen.output_args.Given as goal

abbrev pub invariant-loop-place : goal.invariant-loop-place
invariant-loop-place g l = Takes g.S.Sink.written g.S.Sink.faults l.initial.self l.self (followings (numbered (λ i w. output_line w (arg_name l.process i)) (take l.place l.widths)))
