-- Each call goes one depth down, or keeps the depth and goes down this order of the functions. The loops keep what is
-- left to read.
use Rattle.std.proofs.Common.{◌≡◌, ◌≤◌, ◌*◌, ◌+◌, ◌-◌, length}
use Rattle.vl_expr.specs.Reading.{reader_of, tail_of, exprs_from}
use Rattle.vl_expr.proofs.reader.+expr.Given as goal

abbrev pub decreases-below : goal.decreases-below
decreases-below l = 32 * l.depth

abbrev pub decreases-range_at : goal.decreases-range_at
decreases-range_at l = 32 * l.depth + 1

abbrev pub decreases-select_at : goal.decreases-select_at
decreases-select_at l = 32 * l.depth + 1

abbrev pub decreases-second_at : goal.decreases-second_at
decreases-second_at l = 32 * l.depth + 2

abbrev pub decreases-selects_at : goal.decreases-selects_at
decreases-selects_at l = 32 * l.depth + 3

abbrev pub decreases-exprs_behind : goal.decreases-exprs_behind
decreases-exprs_behind l = 32 * l.depth + 1

abbrev pub decreases-exprs_at : goal.decreases-exprs_at
decreases-exprs_at l = 32 * l.depth + 2

abbrev pub decreases-args_at : goal.decreases-args_at
decreases-args_at l = 32 * l.depth + 3

abbrev pub decreases-concat_at : goal.decreases-concat_at
decreases-concat_at l = 32 * l.depth + 2

abbrev pub decreases-replicate_at : goal.decreases-replicate_at
decreases-replicate_at l = 32 * l.depth + 3

abbrev pub decreases-paren_at : goal.decreases-paren_at
decreases-paren_at l = 32 * l.depth + 1

abbrev pub decreases-name_at : goal.decreases-name_at
decreases-name_at l = 32 * l.depth + 4

abbrev pub decreases-braces_at : goal.decreases-braces_at
decreases-braces_at l = 32 * l.depth + 4

abbrev pub decreases-primary_at : goal.decreases-primary_at
decreases-primary_at l = 32 * l.depth + 5

abbrev pub decreases-operand_at : goal.decreases-operand_at
decreases-operand_at l = 32 * l.depth + 6

abbrev pub decreases-binary_at : goal.decreases-binary_at
decreases-binary_at l = 32 * l.depth + 1

abbrev pub decreases-tail_at : goal.decreases-tail_at
decreases-tail_at l = 32 * l.depth + 2

abbrev pub decreases-choice_at : goal.decreases-choice_at
decreases-choice_at l = 32 * l.depth + 1

abbrev pub decreases-rest_at : goal.decreases-rest_at
decreases-rest_at l = 32 * l.depth + 3

abbrev pub decreases-level_at : goal.decreases-level_at
decreases-level_at l = 32 * l.depth + 7 + l.level

abbrev pub invariant-tail_at-turns : goal.invariant-tail_at-turns
invariant-tail_at-turns l = record {
  shallow : l.left.depth ≤ l.depth + 1;
  gives : tail_of l.terminals (reader_of l.terminals l.depth) l.depth l.level l.from l.depth l.fn.first
      ≡ tail_of l.terminals (reader_of l.terminals l.depth) l.depth l.level l.from (l.depth - l.turn) l.left;
}

abbrev pub invariant-exprs_behind-turns : goal.invariant-exprs_behind-turns
invariant-exprs_behind-turns l = record {
  shallow : l.all.depth ≤ l.depth;
  gives : exprs_from l.terminals (reader_of l.terminals l.depth) (length l.terminals) l.fn.first
      ≡ exprs_from l.terminals (reader_of l.terminals l.depth) (length l.terminals - l.turn) l.all;
}
