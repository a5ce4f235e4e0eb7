use Rattle.std.proofs.Common.{subst}
use Rattle.xt_graph.specs.Graph.{HasCircle, AreCircles}
use Rattle.el_design.specs.View.{flat_of}
use Rattle.ck_nets.proofs.Circular.{is_first, is_some, kept_first}
use Rattle.ck_nets.proofs.ordering.first_circle.Goals as goal

pub unwrap-requires : goal.unwrap-requires
unwrap-requires c =
    let labels = c.in_ok-labels.labels.items in
    let design = c.args.design.now in
    is_some (flat_of design) labels (subst (λ g. AreCircles g labels) c.requires.graph c.in_ok-labels.ensures) c.report_all.new.finder.first
    (kept_first c.report_all.new.finder.first c.new-finder.result.first c.deref.result.now labels c.as_slice.result.now design.nets c.report_all.ensures c.new-finder.ensures c.deref.ensures.value c.as_slice.ensures)
    (subst HasCircle c.requires.graph c.requires.circle)

pub returns : goal.returns
returns c =
    let labels = c.in_ok-labels.labels.items in
    let design = c.args.design.now in
    is_first (flat_of design) labels (subst (λ g. AreCircles g labels) c.requires.graph c.in_ok-labels.ensures) c.report_all.new.finder.first c.unwrap.result
    (kept_first c.report_all.new.finder.first c.new-finder.result.first c.deref.result.now labels c.as_slice.result.now design.nets c.report_all.ensures c.new-finder.ensures c.deref.ensures.value c.as_slice.ensures)
    c.unwrap.ensures
