use Rattle.std.proofs.Common.{◌≡◌, ◌*◌, ◌+◌, ◌-◌, length}
use Rattle.vl_tree.specs.declared.terminals.Terminal.TheVariants as lex
use Rattle.vl_parse.specs.Parts.{separated_from}
use Rattle.vl_parse.specs.Declarations.{lvalue_of}
use Rattle.vl_parse.proofs.declarations.+lvalue.Given as goal

abbrev pub decreases-lvalue : goal.decreases-lvalue
decreases-lvalue l = 4 * l.depth

abbrev pub decreases-further : goal.decreases-further
decreases-further l = 4 * l.depth + 1

abbrev pub decreases-targets : goal.decreases-targets
decreases-targets l = 4 * l.depth + 2

abbrev pub invariant-further-turns : goal.invariant-further-turns
invariant-further-turns l =
    separated_from l.input.terminals lex.Comma (lvalue_of l.input.terminals l.depth) (length l.input.terminals) l.fn.first
    ≡ separated_from l.input.terminals lex.Comma (lvalue_of l.input.terminals l.depth) (length l.input.terminals - l.turn) l.all
