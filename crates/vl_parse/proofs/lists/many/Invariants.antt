use Rattle.std.proofs.Common.{◌≡◌, ◌-◌, length}
use Rattle.vl_parse.specs.Parts.{many_of, many_from}
use Rattle.vl_parse.proofs.lists.many.Given as goal

abbrev pub invariant-turns : goal.invariant-turns
invariant-turns g l =
    many_of l.input.terminals g.T.Begin.opens (g.T.Parse.reading l.input l.depth) l.at
    ≡ many_from l.input.terminals g.T.Begin.opens (g.T.Parse.reading l.input l.depth) (length l.input.terminals - l.turn) l.all
