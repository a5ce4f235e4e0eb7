use Rattle.std.proofs.Common.{◌≡◌, true, false, length, replicate, rules}
use Rattle.xt_graph.specs.inner.Ordering.{stand_behind}
use Rattle.xt_graph.proofs.Orders.{found_circle, is_order, no_circle}
use Rattle.xt_graph.proofs.ordering.order.Goals as goal

pub returns-then-branch : goal.returns-then-branch
returns-then-branch c =
    let g = c.args.graph.now in
    let nodes = c.in_ok-nodes.nodes.items in
    let e : stand_behind g (replicate (length g) false) nodes ≡ true = search rules in
    (is_order g nodes c.in_ok-nodes.ensures e, no_circle g nodes c.in_ok-nodes.ensures e)

pub returns-else-branch : goal.returns-else-branch
returns-else-branch c =
    let g = c.args.graph.now in
    let nodes = c.in_ok-nodes.nodes.items in
    let e : stand_behind g (replicate (length g) false) nodes ≡ false = search rules in
    found_circle g nodes c.in_ok-nodes.ensures e
