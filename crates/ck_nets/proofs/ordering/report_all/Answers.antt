use Rattle.std.proofs.Common.{◌≡◌, ◌<◌, ◌+◌, ◌∷◌, [], ◌∙◌, cond, drop, fold, get_or, length, map, ap, sym, arith}
use Rattle.std.specs.List.{list_any}
use Rattle.std.proofs.lemmas.List.{length-map}
use Rattle.xt_base.specs.First.{sooner}
use Rattle.xt_graph.specs.Graph.{row}
use Rattle.el_design.specs.View.{net_of}
use Rattle.ck_nets.specs.inner.Reading.{read_by_net, has_label, is_circular, break_of, breaks_from}
use Rattle.ck_nets.proofs.Circular.{row_net, report_more}
use Rattle.ck_nets.proofs.ordering.report_all.Goals as goal

pub loop-node-preserved : goal.loop-node-preserved
loop-node-preserved c =
    let labels = c.args.labels.now in
    let nets = c.args.nets.now in
    let node = c.loop-node.node in
    let net = c.index-nets-place.result in
    let size = ap length c.requires.graph ∙ length-map (map net_of nets) read_by_net ∙ length-map nets net_of in
    let h : node < length nets = omega (arith, size) in
    let targets : c.row.result.now ≡ read_by_net (net_of net) = c.row.ensures ∙ ap (λ g. row g node) c.requires.graph ∙ row_net nets node net h c.index-nets-place.is in
    let circular : c.any_has_label-circular.result ≡ is_circular labels node (read_by_net (net_of net)) =
    c.any_has_label-circular.ensures ∙ ap (list_any (has_label labels (get_or labels node 0))) targets in
    ap (λ f. fold sooner f (breaks_from labels (node + 1) (map net_of (drop (node + 1) nets))))
    (c.report.ensures ∙ ap (λ b. fold sooner c.loop-node.finder.first (cond b (break_of (net_of net) ∷ []) [])) circular)
    ∙ sym (report_more labels nets node net c.loop-node.finder.first h c.index-nets-place.is) ∙ c.loop-node.invariant
