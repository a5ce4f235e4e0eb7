-- the pieces so far are written, without a fault
use Rattle.std.proofs.Common.{◌≡◌, take}
use Rattle.xt_base.specs.Outside.{appended}
use Rattle.xt_top.specs.Note.{joined}
use Rattle.xt_top.proofs.note.write_pieces.Given as goal

abbrev pub invariant-loop-piece : goal.invariant-loop-piece
invariant-loop-piece g l = record {
  written : g.S.Sink.written l.sink ≡ appended (g.S.Sink.written l.fn.sink) (joined (take l.piece-index l.pieces));
  faults : g.S.Sink.faults l.sink ≡ g.S.Sink.faults l.fn.sink;
}
