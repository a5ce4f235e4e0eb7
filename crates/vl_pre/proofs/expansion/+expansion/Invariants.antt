use Rattle.std.proofs.Common.{◌≡◌, ◌≤◌, ◌+◌, ◌-◌, ◌*◌, [], length, drop, map}
use Rattle.vl_pre.specs.Cursors.{left, IsWithin}
use Rattle.vl_pre.specs.MacroViews.{names_seen}
use Rattle.vl_pre.specs.Uses.{given_from}
use Rattle.vl_pre.specs.Expanding.{argument_pieces, setting_seen, expansion_seen, expander}
use Rattle.vl_pre.proofs.expansion.+expansion.Given as goal

abbrev pub decreases-expand_text : goal.decreases-expand_text
decreases-expand_text l = 8 * l.depth + 2

abbrev pub decreases-expand_piece : goal.decreases-expand_piece
decreases-expand_piece l = 8 * l.depth + 1

abbrev pub decreases-expand_word : goal.decreases-expand_word
decreases-expand_word l = 8 * l.depth

abbrev pub decreases-expand_use : goal.decreases-expand_use
decreases-expand_use l = 8 * l.depth + 5

abbrev pub decreases-expand_given : goal.decreases-expand_given
decreases-expand_given l = 8 * l.depth + 3

abbrev pub decreases-expand_meaning : goal.decreases-expand_meaning
decreases-expand_meaning l = 8 * l.depth + 4

abbrev pub decreases-surround : goal.decreases-surround
decreases-surround l = 8 * l.depth + 3

abbrev pub invariant-expand_text-loop-piece : goal.invariant-expand_text-loop-piece
invariant-expand_text-loop-piece l = record {
  within : IsWithin l.text l.cursor;
  fits : length l.bytes.items ≤ l.context.room;
  same : names_seen l.progress.forbidden.items ≡ names_seen l.fn.progress.forbidden.items;
  told : expander l.depth (setting_seen l.table l.fn.progress l.context) (left l.text l.cursor) (expansion_seen l.bytes l.progress)
      ≡ expander l.depth (setting_seen l.table l.fn.progress l.context) (left l.text l.fn.start) (expansion_seen l.fn.bytes l.fn.progress);
}

abbrev pub decreases-expand_text-loop-piece : goal.decreases-expand_text-loop-piece
decreases-expand_text-loop-piece l = length l.text - l.cursor.at

abbrev pub invariant-expand_given-loop-argument : goal.invariant-expand_given-loop-argument
invariant-expand_given-loop-argument l = record {
  same : names_seen l.progress.forbidden.items ≡ names_seen l.fn.progress.forbidden.items;
  told : given_from (expander l.depth) (setting_seen l.table l.fn.progress l.context) (record { texts = names_seen l.given.items; uses = l.progress.uses }) (map (argument_pieces l.text) (drop l.argument-index l.argument-items))
      ≡ given_from (expander l.depth) (setting_seen l.table l.fn.progress l.context) (record { texts = []; uses = l.fn.progress.uses }) (map (argument_pieces l.text) l.argument-items);
}
