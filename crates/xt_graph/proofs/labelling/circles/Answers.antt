use Rattle.std.proofs.Common.{subst, sym, rules}
use Rattle.xt_graph.specs.Graph.{AreCircles}
use Rattle.xt_graph.specs.inner.Labelling.{Labelled}
use Rattle.xt_graph.proofs.RootLabels.{are_circles}
use Rattle.xt_graph.proofs.labelling.circles.Goals as goal

pub returns : goal.returns
returns c =
    let g = c.args.graph.now in
    let back = c.in_ok-back.back in
    subst (λ (l : Labelled). AreCircles g l.labels) (sym c.labels.view_is)
    (are_circles g back c.in_ok-back.ensures c.in_ok-roots.roots.items c.in_ok-roots.ensures c.take_all.new.self (search rules))
