use Rattle.std.proofs.Common.{◌≡◌, ◌≤◌, ◌∙◌, [], ap, sym, subst, length, map, replicate, arith}
use Rattle.std.proofs.lemmas.List.{drop_all}
use Rattle.std.proofs.lemmas.Result.{IfOk-weaker}
use Rattle.xt_graph.specs.Graph.{IsReverse}
use Rattle.xt_graph.specs.inner.Reversing.{turned}
use Rattle.xt_graph.proofs.Reversed.{is_reverse}
use Rattle.xt_graph.proofs.graph.Graph.reversed.Goals as goal

pub returns : goal.returns
returns c =
    let g = c.args.self.now in
    let rows = map (λ r. r.items) c.loop-node.sources.items in
    let past : length g ≤ c.loop-node.node = omega arith in
    let whole : rows ≡ turned 0 (replicate (length g) []) g = ap (turned c.loop-node.node rows) (sym (drop_all c.loop-node.node g past)) ∙ c.loop-node.invariant in
    IfOk-weaker c.of_rows.result _ (IsReverse g) (λ made e. subst (IsReverse g) (sym (e ∙ ap (map (λ r. r.items)) c.deref.ensures.value ∙ whole)) (is_reverse g)) c.of_rows.ensures
