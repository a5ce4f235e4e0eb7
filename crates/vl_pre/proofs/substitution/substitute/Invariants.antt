use Rattle.std.proofs.Common.{◌≡◌, ◌≤◌, ◌-◌, ◌++◌, length}
use Rattle.vl_pre.specs.Cursors.{left, IsWithin}
use Rattle.vl_pre.specs.Pieces.{pieces_of}
use Rattle.vl_pre.specs.Macros.{substituted}
use Rattle.vl_pre.specs.MacroViews.{names_seen}
use Rattle.vl_pre.specs.Breaks.{max_text}
use Rattle.vl_pre.proofs.substitution.substitute.Given as goal

abbrev pub invariant-loop-piece : goal.invariant-loop-piece
invariant-loop-piece l = record {
  within : IsWithin l.text l.cursor;
  short : length l.whole.items ≤ max_text;
  whole : l.whole.items ++ substituted (names_seen l.formals) (names_seen l.given) (left l.text l.cursor) ≡ substituted (names_seen l.formals) (names_seen l.given) (pieces_of 0 l.text);
}

abbrev pub decreases-loop-piece : goal.decreases-loop-piece
decreases-loop-piece l = length l.text - l.cursor.at
