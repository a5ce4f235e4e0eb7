use Rattle.std.proofs.Common.{◌∙◌, length, sym}
use Rattle.vl_parse.proofs.Turns.{before, separated_more}
use Rattle.vl_parse.proofs.lists.further.Goals as goal

pub turns-preserved : goal.turns-preserved
turns-preserved g c =
    c.turns.invariant
    ∙ separated_more c.args.input.now.terminals (g.T.Parse.reading c.args.input.now c.args.depth) c.args.separator c.turns.turn
    (length c.args.input.now.terminals) c.turns.all c.in_ok-all.all c.in_ok-next.next (before c.len-turn-end.ensures.value c.turns-test.true)
    (sym c.is_at.ensures.value ∙ c.if-not-is_at.false) c.in_ok-next.ensures c.in_ok-all.ensures
