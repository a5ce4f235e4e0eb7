use Rattle.std.proofs.Common.{subst, sym, rules}
use Rattle.xt_graph.specs.Graph.{AreReached}
use Rattle.xt_graph.specs.inner.Searching.{Found}
use Rattle.xt_graph.proofs.Spreads.{are_reached}
use Rattle.xt_graph.proofs.searching.reached.Goals as goal

pub returns : goal.returns
returns c = subst (λ (s : Found). AreReached c.args.graph.now c.args.from.now s.marks) (sym c.search-2.view_is)
    (are_reached c.args.graph.now c.args.from.now c.find_all.new.self c.spread.new.self (search rules) (search rules))
