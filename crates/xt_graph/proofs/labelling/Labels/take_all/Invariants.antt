use Rattle.std.proofs.Common.{◌≡◌, drop, fold}
use Rattle.xt_graph.specs.inner.Labelling.{labelled}
use Rattle.xt_graph.proofs.labelling.Labels.take_all.Given as goal

abbrev pub invariant-loop-root : goal.invariant-loop-root
invariant-loop-root l = fold (labelled l.back) l.self (drop l.root-index l.roots) ≡ fold (labelled l.back) l.initial.self l.roots
