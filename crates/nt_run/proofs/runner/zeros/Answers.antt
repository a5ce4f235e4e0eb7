-- Each node's width is in range.
use Rattle.std.proofs.Common.{◌≡◌, ◌<◌, ◌∙◌, sym, ap, subst, arith, ℕ, List, length, get_or}
use Rattle.std.proofs.lemmas.List.{length-map, get_or-map}
use Rattle.nt_core.specs.declared.netlist.Node.{Node}
use Rattle.nt_core.specs.Forms.{IsWidth}
use Rattle.nt_core.specs.Conditions.{AreNodes}
use Rattle.nt_core.proofs.Ranges.{nodes-in_range}
use Rattle.nt_run.proofs.runner.zeros.Goals as goal

width_at : (nodes : List Node) → AreNodes nodes → (i : ℕ) (m : Node) → i < length nodes → m ≡ get_or nodes i m → IsWidth m.width
width_at nodes are i m h is =
    let width : Node → ℕ = λ n. n.width in
    subst IsWidth (get_or-map width nodes i m 0 h ∙ ap width (sym is)) (nodes-in_range nodes are i (omega (arith, h, length-map nodes width)))

pub new-requires-clause-positive : goal.new-requires-clause-positive
new-requires-clause-positive c = (width_at c.args.nodes.now c.requires c.loop-node.node-index c.node-item.result c.loop-node-test.true c.node-item.is).0

pub new-requires-clause-within : goal.new-requires-clause-within
new-requires-clause-within c = (width_at c.args.nodes.now c.requires c.loop-node.node-index c.node-item.result c.loop-node-test.true c.node-item.is).1
