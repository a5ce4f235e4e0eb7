use Rattle.std.proofs.Common.{◌≤◌, ◌-◌, length}
use Rattle.vl_pre.specs.Cursors.{IsWithin}
use Rattle.vl_pre.proofs.ArgumentLemmas.{IsSoFar}
use Rattle.vl_pre.proofs.arguments.arguments_from.Given as goal

abbrev pub invariant-loop-piece : goal.invariant-loop-piece
invariant-loop-piece l = record {
  within : IsWithin l.text l.cursor;
  forward : l.fn.cursor.at ≤ l.cursor.at;
  so_far : IsSoFar l.context l.text l.fn.cursor l.cursor l.reader;
}

abbrev pub decreases-loop-piece : goal.decreases-loop-piece
decreases-loop-piece l = length l.text - l.cursor.at
