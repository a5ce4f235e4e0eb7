use Rattle.std.proofs.Common.{◌≤◌, ◌-◌, length}
use Rattle.vl_pre.specs.Cursors.{left, IsWithin}
use Rattle.vl_pre.specs.Lines.{in_line, GoesOn}
use Rattle.vl_pre.specs.Pieces.{without_front}
use Rattle.vl_pre.proofs.TextLemmas.{IsTextSoFar}
use Rattle.vl_pre.proofs.macros.text_in_line.Given as goal

abbrev pub invariant-loop-piece : goal.invariant-loop-piece
invariant-loop-piece l = record {
  within : IsWithin l.text l.cursor;
  forward : l.fn.cursor.at ≤ l.cursor.at;
  goes : GoesOn (left l.text l.fn.cursor) (left l.text l.cursor);
  so_far : IsTextSoFar (without_front (in_line l.text l.fn.cursor)) (in_line l.text l.cursor) l.bytes.items l.kept;
}

abbrev pub decreases-loop-piece : goal.decreases-loop-piece
decreases-loop-piece l = length l.text - l.cursor.at
