use Rattle.std.proofs.Common.{◌≡◌, drop}
use Rattle.xt_graph.specs.inner.Labelling.{label_all}
use Rattle.xt_graph.proofs.labelling.label_all.Given as goal

abbrev pub invariant-loop-place : goal.invariant-loop-place
invariant-loop-place l = label_all l.labels (drop l.place l.nodes) l.label ≡ label_all l.initial.labels (drop l.from l.nodes) l.label
