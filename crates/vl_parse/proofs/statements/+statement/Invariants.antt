-- Each call goes one depth down, or keeps the depth and goes down this order of the functions. The loops keep what is
-- left to read.
use Rattle.std.proofs.Common.{◌≡◌, ◌*◌, ◌+◌, ◌-◌, length}
use Rattle.vl_parse.specs.Parts.{many_of, many_from}
use Rattle.vl_parse.specs.Statements.{opens_stmt, stmt_of, citems_from}
use Rattle.vl_parse.proofs.statements.+statement.Given as goal

abbrev pub decreases-stmt : goal.decreases-stmt
decreases-stmt l = 8 * l.depth

abbrev pub decreases-inner : goal.decreases-inner
decreases-inner l = 8 * l.depth + 1

abbrev pub decreases-branches : goal.decreases-branches
decreases-branches l = 8 * l.depth + 2

abbrev pub decreases-citem : goal.decreases-citem
decreases-citem l = 8 * l.depth + 1

abbrev pub decreases-further_citems : goal.decreases-further_citems
decreases-further_citems l = 8 * l.depth + 2

abbrev pub decreases-citems : goal.decreases-citems
decreases-citems l = 8 * l.depth + 3

abbrev pub decreases-stmts : goal.decreases-stmts
decreases-stmts l = 8 * l.depth + 1

abbrev pub decreases-rest : goal.decreases-rest
decreases-rest l = 8 * l.depth + 4

abbrev pub invariant-stmts-turns : goal.invariant-stmts-turns
invariant-stmts-turns l =
    many_of l.input.terminals opens_stmt (stmt_of l.input.terminals l.input.names l.depth) l.at
    ≡ many_from l.input.terminals opens_stmt (stmt_of l.input.terminals l.input.names l.depth) (length l.input.terminals - l.turn) l.all

abbrev pub invariant-further_citems-turns : goal.invariant-further_citems-turns
invariant-further_citems-turns l =
    citems_from l.input.terminals (stmt_of l.input.terminals l.input.names l.depth) l.depth (length l.input.terminals) l.fn.had_default l.fn.first
    ≡ citems_from l.input.terminals (stmt_of l.input.terminals l.input.names l.depth) l.depth (length l.input.terminals - l.turn) l.defaulted l.all
