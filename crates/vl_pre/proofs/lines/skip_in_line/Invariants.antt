use Rattle.std.proofs.Common.{◌≡◌, ◌≤◌, ◌-◌, length, drop}
use Rattle.std.specs.List.{prefix_len}
use Rattle.vl_pre.specs.Cursors.{left, passes, IsWithin}
use Rattle.vl_pre.specs.Lines.{in_line, GoesOn}
use Rattle.vl_pre.proofs.lines.skip_in_line.Given as goal

abbrev pub invariant-loop-piece : goal.invariant-loop-piece
invariant-loop-piece l = record {
  within : IsWithin l.text l.cursor;
  forward : l.fn.cursor.at ≤ l.cursor.at;
  goes : GoesOn (left l.text l.fn.cursor) (left l.text l.cursor);
  same : drop (prefix_len (passes l.over) (in_line l.text l.cursor)) (in_line l.text l.cursor) ≡ drop (prefix_len (passes l.over) (in_line l.text l.fn.cursor)) (in_line l.text l.fn.cursor);
}

abbrev pub decreases-loop-piece : goal.decreases-loop-piece
decreases-loop-piece l = length l.text - l.cursor.at
