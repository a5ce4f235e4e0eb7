use Rattle.std.proofs.Common.{◌∙◌, length, sym, ap}
use Rattle.vl_parse.proofs.Turns.{before, many_more}
use Rattle.vl_parse.proofs.lists.many.Goals as goal

pub turns-preserved : goal.turns-preserved
turns-preserved g c =
    c.turns.invariant
    ∙ many_more c.args.input.now.terminals (g.T.Parse.reading c.args.input.now c.args.depth) g.T.Begin.opens c.turns.turn
    (length c.args.input.now.terminals) c.turns.all c.in_ok-all.all c.in_ok-next.next (before c.len-turn-end.ensures.value c.turns-test.true)
    (ap g.T.Begin.opens (sym c.get.ensures.value) ∙ sym c.begins.ensures ∙ c.if-not-begins.false) c.in_ok-next.ensures c.in_ok-all.ensures
