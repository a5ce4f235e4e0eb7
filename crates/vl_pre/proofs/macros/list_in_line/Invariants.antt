use Rattle.std.proofs.Common.{◌≡◌, ◌≤◌, ◌-◌, length, []}
use Rattle.vl_pre.specs.Cursors.{left, IsWithin}
use Rattle.vl_pre.specs.Lines.{in_line, GoesOn}
use Rattle.vl_pre.specs.Macros.{list_from}
use Rattle.vl_pre.specs.MacroViews.{names_seen}
use Rattle.vl_pre.specs.declared.macros.ListState.TheVariants.{Awaits}
use Rattle.vl_pre.proofs.macros.list_in_line.Given as goal

abbrev pub invariant-loop-piece : goal.invariant-loop-piece
invariant-loop-piece l = record {
  within : IsWithin l.text l.cursor;
  forward : l.fn.cursor.at ≤ l.cursor.at;
  goes : GoesOn (left l.text l.fn.cursor) (left l.text l.cursor);
  told : list_from l.line (record { state = l.state; names = names_seen l.names.items }) (in_line l.text l.cursor) ≡ list_from l.line (record { state = Awaits; names = [] }) (in_line l.text l.fn.cursor);
}

abbrev pub decreases-loop-piece : goal.decreases-loop-piece
decreases-loop-piece l = length l.text - l.cursor.at
