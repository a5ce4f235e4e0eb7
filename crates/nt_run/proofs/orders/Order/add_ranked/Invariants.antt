use Rattle.nt_run.specs.Order.{IsBegun}
use Rattle.nt_run.proofs.orders.Order.add_ranked.Given as goal

abbrev pub invariant-loop-rank : goal.invariant-loop-rank
invariant-loop-rank l = IsBegun l.nodes l.self.steps.items l.self.marks.items
