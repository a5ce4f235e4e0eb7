use Rattle.std.proofs.Common.{◌≡◌, ◌-◌, length}
use Rattle.xt_graph.specs.inner.Searching.{spread}
use Rattle.xt_graph.proofs.searching.Search.spread.Given as goal

abbrev pub invariant-loop-turn : goal.invariant-loop-turn
invariant-loop-turn l = spread l.graph (l.turn-end - l.turn) l.turn l.self ≡ spread l.graph (length l.fn.self.marks - l.from) l.from l.fn.self
