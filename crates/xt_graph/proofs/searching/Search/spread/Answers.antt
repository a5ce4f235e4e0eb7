use Rattle.std.proofs.Common.{◌≡◌, ◌-◌, ◌+◌, ◌∙◌, Some, ap, sym, rules, arith}
use Rattle.std.specs.Prelude.{slice_get}
use Rattle.xt_graph.specs.Graph.{row}
use Rattle.xt_graph.specs.inner.Searching.{find_all, spread}
use Rattle.xt_graph.proofs.Spreads.{spread_more}
use Rattle.xt_graph.proofs.searching.Search.spread.Goals as goal

pub loop-turn-preserved : goal.loop-turn-preserved
loop-turn-preserved c =
    let g = c.args.graph.now in
    let end = c.len-turn-end.result in
    let turn = c.loop-turn.turn in
    let e : slice_get c.loop-turn.self.found turn ≡ Some c.in-Some.node = search rules in
    let f : c.find_all.new.self ≡ find_all c.loop-turn.self (row g c.in-Some.node) = search rules in
    ap (spread g (end - (turn + 1)) (turn + 1)) f ∙ sym (spread_more g end turn c.loop-turn.self c.in-Some.node (omega arith) e) ∙ c.loop-turn.invariant
