use Rattle.std.proofs.Common.{◌≡◌, ◌-◌, length}
use Rattle.vl_parse.specs.Parts.{separated_from}
use Rattle.vl_parse.proofs.lists.further.Given as goal

abbrev pub invariant-turns : goal.invariant-turns
invariant-turns g l =
    separated_from l.input.terminals l.separator (g.T.Parse.reading l.input l.depth) (length l.input.terminals) l.fn.first
    ≡ separated_from l.input.terminals l.separator (g.T.Parse.reading l.input l.depth) (length l.input.terminals - l.turn) l.all
